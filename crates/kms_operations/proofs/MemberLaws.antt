-- Members of containers as they come and go.
use Rattle.std.proofs.Common.{◌≡◌, ℕ, ◌≤◌, ◌<◌, Bool, true, false, List, [], ◌∷◌, ◌++◌, length, map, Option, Some, Result, Ok, cond, refl, sym, ap, subst, ◌∙◌, arith}
use Rattle.std.specs.Prelude.{IfOk, filter, nat_lt}
use Rattle.std.specs.List.{AllByRecursion}
use Rattle.std.specs.Str.{bytes_eq}
use Rattle.std.proofs.lemmas.Bool.{and_from, eq-eqb, ltb-true, or_right}
use Rattle.std.proofs.lemmas.List.{length-append, length-map, map-append}
use Rattle.std.proofs.lemmas.List.Sums.{count_by-le-length, length-filter}
use Rattle.std.proofs.lemmas.Result.{IfOk-weaker}
use Rattle.std.proofs.lemmas.Slice.Eq.{bytes_eq-Decides}
use Rattle.kms_box.specs.Ranges as checked
use Rattle.kms_kept.specs.Kept.{Kept, Records, container_ids, has, is_new, may_replace_container}
use Rattle.kms_kept.specs.Sound.{IsSound}
use Rattle.kms_model.proofs.SecretLaws.{gave, held}
use Rattle.kms_model.specs.Containers.{is_usable, takes_member, with_members}
use Rattle.kms_model.specs.Done.{only_if}
use Rattle.kms_record.specs.Base.{count_of, member_of}
use Rattle.kms_record.specs.ChangeEffect.{container_at, row_member}
use Rattle.kms_record.specs.Container.{AreMembersInRange, IsMemberInRange}
use Rattle.kms_record.specs.declared.change.Change.TheVariants.{ContainerPut}
use Rattle.kms_record.specs.declared.container.ContainerPut as put_type
use Rattle.kms_record.specs.declared.member.Member.{Member}
use Rattle.kms_record.proofs.PairwiseLaws.{all_push}
use Rattle.kms_world.specs.Id.{id_at}
use Rattle.kms_world.specs.LookUp.{container_of}
use Rattle.kms_world.specs.Times.{end_of_times}
use Rattle.kms_world.specs.declared.bytes.NoMemory.{NoMemory}
use Rattle.kms_world.specs.declared.caller.Caller.{Caller}
use Rattle.kms_world.specs.declared.container.ContainerRow.{ContainerRow}
use Rattle.kms_world.specs.declared.id.Id.{Id}
use Rattle.kms_world.specs.declared.refusal.Field.TheVariants.{SecretRefs}
use Rattle.kms_world.specs.declared.refusal.Refusal.TheVariants.{BadBody, NoObject}
use Rattle.kms_operations.specs.Change.{members_put}
use Rattle.kms_operations.specs.Found.{IsKeptContainer}
use Rattle.kms_operations.specs.Outcome.{Fits}
use Rattle.kms_operations.proofs.ContainerLaws.{usable_id}
use Rattle.kms_operations.proofs.FitLaws.{count_fits}

-- ---- members that are read back as they were

-- recorded and read back, the member is as it was
abbrev IsBack : ℕ → Option (List ℕ) × Id → Type 0
IsBack tag member = row_member tag (member_of member) ≡ member

abbrev AreBack : ℕ → List (Option (List ℕ) × Id) → Type 0
AreBack tag members = map (row_member tag) (map member_of members) ≡ members

heads : {X : Type 0} (x y : X) (xs ys : List X) → x ∷ xs ≡ y ∷ ys → x ≡ y
heads x y xs ys e = cc

tails : {X : Type 0} (x y : X) (xs ys : List X) → x ∷ xs ≡ y ∷ ys → xs ≡ ys
tails x y xs ys e = cc

joined : {X : Type 0} (x y : X) (xs ys : List X) → x ≡ y → xs ≡ ys → x ∷ xs ≡ y ∷ ys
joined x y xs ys e f = cc

pub with_one : (tag : ℕ) (members : List (Option (List ℕ) × Id)) (member : Option (List ℕ) × Id) → AreBack tag members → IsBack tag member → AreBack tag (members ++ member ∷ [])
with_one tag [] member all one = joined _ _ [] [] one refl
with_one tag (m ∷ ms) member all one = joined _ _ _ _ (heads _ _ _ _ all) (with_one tag ms member (tails _ _ _ _ all) one)

pub but_one : (tag : ℕ) (keep : Option (List ℕ) × Id → Bool) (members : List (Option (List ℕ) × Id)) → AreBack tag members → AreBack tag (filter keep members)
but_one tag keep [] all = refl
but_one tag keep (m ∷ ms) all = step (keep m) (heads _ _ _ _ all) (but_one tag keep ms (tails _ _ _ _ all))
  where
    step : (b : Bool) → IsBack tag m → AreBack tag (filter keep ms) → AreBack tag (cond b (m ∷ filter keep ms) (filter keep ms))
    step true one others = joined _ _ _ _ one others
    step false one others = others

-- ---- members in range

pub in_range_with : (members : List (Option (List ℕ) × Id)) (member : Option (List ℕ) × Id) → AreMembersInRange (map member_of members) → length members < 100 → checked.IsMemberInRange member
    → AreMembersInRange (map member_of (members ++ member ∷ []))
in_range_with members member range few one = subst AreMembersInRange (sym (map-append member_of members (member ∷ []))) (record {
  few = omega (arith, length-append (map member_of members) (member_of member ∷ []), length-map members member_of, few);
  each = all_push IsMemberInRange (map member_of members) (member_of member) range.each (record { name = one; secret = count_fits member.1 });
})

each_kept : (keep : Option (List ℕ) × Id → Bool) (members : List (Option (List ℕ) × Id)) → AllByRecursion IsMemberInRange (map member_of members) → AllByRecursion IsMemberInRange (map member_of (filter keep members))
each_kept keep [] each = tt
each_kept keep (m ∷ ms) each = step (keep m) each.0 (each_kept keep ms each.1)
  where
    step : (b : Bool) → IsMemberInRange (member_of m) → AllByRecursion IsMemberInRange (map member_of (filter keep ms)) → AllByRecursion IsMemberInRange (map member_of (cond b (m ∷ filter keep ms) (filter keep ms)))
    step true one others = (one, others)
    step false one others = others

pub in_range_without : (keep : Option (List ℕ) × Id → Bool) (members : List (Option (List ℕ) × Id)) → AreMembersInRange (map member_of members) → AreMembersInRange (map member_of (filter keep members))
in_range_without keep members range =
    let all : length members ≤ 100 = omega (arith, length-map members member_of, range.few) in
    record {
      few = omega (arith, length-map (filter keep members) member_of, length-filter keep members, count_by-le-length keep members);
      each = each_kept keep members range.each;
    }

-- ---- what a container takes

pub record IsTaken (kept : Kept) (row : ContainerRow) (member : Option (List ℕ) × Id) : Type 0 where
  pub few : length row.secrets < 100
  pub back : IsBack kept.state.tag member

pub is_taken : (kept : Kept) (caller : Caller) (row : ContainerRow) (member : Option (List ℕ) × Id) (t : ℕ) → IsSound kept → takes_member kept.state caller row member t ≡ Ok tt → IsTaken kept row member
is_taken kept caller row member t sound takes =
    let a = gave (only_if (nat_lt (length row.secrets) 100) (BadBody SecretRefs)) _ tt takes in
    let b = gave (only_if (is_usable kept.state caller t member) NoObject) _ tt a.2 in
    record {
      few = ltb-true (length row.secrets) 100 (held _ _ a.0 a.1);
      back = ap (λ (i : Id). let m : Option (List ℕ) × Id = (member.0, i) in m) (usable_id kept sound caller t member (held _ _ b.0 b.1));
    }

-- ---- changes

same_bytes : (bytes : List ℕ) → bytes_eq bytes bytes ≡ true
same_bytes bytes = (bytes_eq-Decides bytes bytes).1 refl

-- a container that is there may be put in its place with other members
pub put_in_place : (kept : Kept) (row : ContainerRow) (members : List Member) (t : ℕ) → IsKeptContainer kept row → t < end_of_times → AreMembersInRange members → Fits kept (ContainerPut (members_put row members t))
put_in_place kept row members t is time range =
    let before = is.is.grammar.0 in
    let put = members_put row members t in
    let named : container_of (id_at kept.state.tag (count_of row.id)) kept.state.containers ≡ Some row =
    subst (λ (i : Id). container_of i kept.state.containers ≡ Some row) (sym is.id) is.here in
    let replaces : may_replace_container put row ≡ true = and_from _ _ (and_from _ _ (same_bytes row.project) (same_bytes row.creator)) (eq-eqb row.created row.created refl) in
    record {
      range = record {
        id = count_fits row.id;
        project = before.project;
        creator = before.creator;
        created = before.created;
        updated = time;
        name = before.name;
        members = range;
      };
      rows = refl;
      applies = or_right (is_new Records kept.state (container_ids kept.state) (count_of row.id)) _ (subst (λ (found : Option ContainerRow). has found (may_replace_container put) ≡ true) (sym named) replaces);
    }

-- the row that it puts
pub row_put : (kept : Kept) (row : ContainerRow) (members : List (Option (List ℕ) × Id)) (list : List Member) (t : ℕ) → IsKeptContainer kept row → list ≡ map member_of members → AreBack kept.state.tag members
    → container_at kept.state.tag (members_put row list t) ≡ with_members members t row
row_put kept row members list t is listed back =
    let secrets : map (row_member kept.state.tag) list ≡ members = ap (map (row_member kept.state.tag)) listed ∙ back in
    cc (is.id, secrets)

-- the members of a container that is kept
pub own_back : (kept : Kept) (row : ContainerRow) → IsKeptContainer kept row → AreBack kept.state.tag row.secrets
own_back kept row is = ap (λ (r : ContainerRow). r.secrets) is.is.put

pub own_range : (kept : Kept) (row : ContainerRow) → IsKeptContainer kept row → AreMembersInRange (map member_of row.secrets)
own_range kept row is = is.is.grammar.0.members

-- ---- the change that is made

pub made_row : (kept : Kept) (row : ContainerRow) (members : List (Option (List ℕ) × Id)) (list : List Member) (t : ℕ) (made : Result put_type.ContainerPut NoMemory)
    → IsKeptContainer kept row → list ≡ map member_of members → AreBack kept.state.tag members → IfOk made (λ put. put ≡ members_put row list t)
    → IfOk made (λ put. container_at kept.state.tag put ≡ with_members members t row)
made_row kept row members list t made is listed back puts =
    IfOk-weaker made (λ put. put ≡ members_put row list t) (λ put. container_at kept.state.tag put ≡ with_members members t row)
    (λ put same. ap (container_at kept.state.tag) same ∙ row_put kept row members list t is listed back) puts

pub made_fits : (kept : Kept) (row : ContainerRow) (members : List (Option (List ℕ) × Id)) (list : List Member) (t : ℕ) (made : Result put_type.ContainerPut NoMemory)
    → IsKeptContainer kept row → t < end_of_times → list ≡ map member_of members → AreMembersInRange (map member_of members) → IfOk made (λ put. put ≡ members_put row list t)
    → IfOk made (λ put. Fits kept (ContainerPut put))
made_fits kept row members list t made is time listed range puts =
    let fits = put_in_place kept row list t is time (subst AreMembersInRange (sym listed) range) in
    IfOk-weaker made (λ put. put ≡ members_put row list t) (λ put. Fits kept (ContainerPut put))
    (λ put same. subst (λ (p : put_type.ContainerPut). Fits kept (ContainerPut p)) (sym same) fits) puts
