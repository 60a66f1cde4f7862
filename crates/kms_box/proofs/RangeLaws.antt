-- What a check keeps of a body is in range.
use Rattle.std.proofs.Common.{◌≡◌, ℕ, ◌≤◌, ◌&&◌, Bool, true, false, List, [], ◌∷◌, length, Option, Some, None, option_and_then, Result, Ok, Err, IfSome, if◌then◌else◌, nat_le, refl, subst}
use Rattle.std.specs.List.{AllByRecursion}
use Rattle.std.specs.Result.{result_ok}
use Rattle.std.proofs.lemmas.Bool.{and_parts, leb-true}
use Rattle.kms_text.specs.Link.{read_ref_of}
use Rattle.kms_text.specs.declared.link.Kind.TheVariants.{Secret}
use Rattle.kms_world.specs.declared.body.ConsumerBody.{ConsumerBody}
use Rattle.kms_world.specs.declared.body.ContainerBody.{ContainerBody}
use Rattle.kms_world.specs.declared.body.MemberBody.{MemberBody}
use Rattle.kms_world.specs.declared.container.ContainerKind.{ContainerKind}
use Rattle.kms_world.specs.declared.id.Id.{Id}
use Rattle.kms_world.specs.declared.refusal.Field.{Field}
use Rattle.kms_world.specs.declared.refusal.Field.TheVariants as field
use Rattle.kms_world.specs.declared.refusal.Refusal.{Refusal}
use Rattle.kms_world.specs.declared.refusal.Refusal.TheVariants.{BadBody}
use Rattle.kms_box.specs.Consumer.{checked_consumer}
use Rattle.kms_box.specs.Container.{kind_of, are_members, members_if, members_by, secrets_by, checked_container}
use Rattle.kms_box.specs.Member.{checked_member, with_first, members_of}
use Rattle.kms_box.specs.Ranges.{IsShort, IsMemberInRange, IsContainerInRange, IsConsumerInRange}
use Rattle.kms_box.specs.Rules.{◌>>=◌, there, optional_text, required_text}
use Rattle.kms_box.specs.declared.container.NewContainer.{NewContainer}

-- ---- rules in a row that gave: each of them gave

abbrev given : {A : Type 0} → A → Result A Refusal
given x = Ok x

given_is : {A : Type 0} (x y : A) → given x ≡ given y → x ≡ y
given_is x y e = cc

gave : {A B : Type 0} (r : Result A Refusal) (f : A → Result B Refusal) (y : B) → (r >>= f) ≡ given y → (x : A) × (r ≡ given x) × (f x ≡ given y)
gave (Ok x) f y e = (x, refl, e)
gave (Err refusal) f y e = absurd (cc)

was : {A : Type 0} (o : Option A) (refusal : Refusal) (x : A) → there o refusal ≡ given x → o ≡ Some x
was None refusal x e = absurd (cc)
was (Some y) refusal x e = cc

passed : {A : Type 0} (b : Bool) (x y : A) (refusal : Refusal) → (if b then given x else Err refusal) ≡ given y → (b ≡ true) × (x ≡ y)
passed true x y refusal e = (refl, given_is x y e)
passed false x y refusal e = absurd (cc)

abbrev found : {A : Type 0} → A → Option A
found x = Some x

found_is : {A : Type 0} (x y : A) → found x ≡ found y → x ≡ y
found_is x y e = cc

chosen : {A : Type 0} (b : Bool) (x y : A) → (if b then found x else None) ≡ found y → (b ≡ true) × (x ≡ y)
chosen true x y e = (refl, found_is x y e)
chosen false x y e = absurd (cc)

-- ---- texts

short : (field : Field) (text kept : Option (List ℕ)) → optional_text field text ≡ Ok kept → IfSome kept IsShort
short field None kept e = subst (λ (k : Option (List ℕ)). IfSome k IsShort) (given_is None kept e) tt
short field (Some text) kept e =
    let p = passed (nat_le (length text) 255) (Some text) kept (BadBody field) e in
    subst (λ (k : Option (List ℕ)). IfSome k IsShort) p.1 (leb-true (length text) 255 p.0)

needed : (field : Field) (text : Option (List ℕ)) (kept : List ℕ) → required_text field text ≡ Ok kept → (1 ≤ length kept) × IsShort kept
needed field None kept e = absurd (cc)
needed field (Some text) kept e =
    let p = passed (nat_le 1 (length text) && nat_le (length text) 255) text kept (BadBody field) e in
    let parts = and_parts _ _ p.0 in
    subst (λ (k : List ℕ). (1 ≤ length k) × IsShort k) p.1 (leb-true 1 (length text) parts.0, leb-true (length text) 255 parts.1)

-- ---- members

pub member_in_range : (body : MemberBody) (member : Option (List ℕ) × Id) → checked_member body ≡ Ok member → IsMemberInRange member
member_in_range body member e =
    let (name, name-is, after_name) = gave (optional_text field.Name body.name) _ member e in
    let (id, id-is, after_id) = gave (there (option_and_then (read_ref_of Secret) body.secret_ref) (BadBody field.SecretRef)) _ member after_name in
    let made : Option (List ℕ) × Id = (name, id) in
    subst IsMemberInRange (given_is made member after_id) (short field.Name body.name name name-is)

members_in_range : (bodies : List MemberBody) (members : List (Option (List ℕ) × Id)) → members_of bodies ≡ Some members → AllByRecursion IsMemberInRange members
members_in_range [] members e = subst (AllByRecursion IsMemberInRange) (found_is [] members e) tt
members_in_range (body ∷ bodies) members e =
    by (λ others f. members_in_range bodies others f) (checked_member body) refl (members_of bodies) refl e
  where
    by : ((others : List (Option (List ℕ) × Id)) → members_of bodies ≡ Some others → AllByRecursion IsMemberInRange others)
        → (first : Result (Option (List ℕ) × Id) Refusal) → checked_member body ≡ first
        → (rest : Option (List (Option (List ℕ) × Id))) → members_of bodies ≡ rest
        → with_first (result_ok first) rest ≡ Some members → AllByRecursion IsMemberInRange members
    by more (Err refusal) f rest g h = absurd (cc)
    by more (Ok member) f None g h = absurd (cc)
    by more (Ok member) f (Some others) g h =
        subst (AllByRecursion IsMemberInRange) (found_is (member ∷ others) members h) (member_in_range body member f, more others g)

-- ---- containers

-- the members are those of the list, and the kind's rules hold of them
kept_members : (kind : ContainerKind) (bodies : Option (List MemberBody)) (members : List (Option (List ℕ) × Id)) → members_by kind bodies ≡ Some members → (are_members kind members ≡ true) × AllByRecursion IsMemberInRange members
kept_members kind None members e =
    let (fit, same) = chosen (are_members kind []) [] members e in
    subst (λ (m : List (Option (List ℕ) × Id)). (are_members kind m ≡ true) × AllByRecursion IsMemberInRange m) same (fit, tt)
kept_members kind (Some bodies) members e = by (members_of bodies) refl e
  where
    by : (listed : Option (List (Option (List ℕ) × Id))) → members_of bodies ≡ listed → option_and_then (members_if kind) listed ≡ Some members
        → (are_members kind members ≡ true) × AllByRecursion IsMemberInRange members
    by None f h = absurd (cc)
    by (Some listed) f h =
        let (fit, same) = chosen (are_members kind listed) listed members h in
        subst (λ (m : List (Option (List ℕ) × Id)). (are_members kind m ≡ true) × AllByRecursion IsMemberInRange m) same (fit, members_in_range bodies listed f)

pub container_in_range : (body : ContainerBody) (new : NewContainer) → checked_container body ≡ Ok new → IsContainerInRange new
container_in_range body new e =
    let (name, name-is, after_name) = gave (optional_text field.Name body.name) _ new e in
    let (kind, kind-is, after_kind) = gave (there (option_and_then kind_of body.kind) (BadBody field.TypeName)) _ new after_name in
    let (secrets, secrets-is, after_secrets) = gave (secrets_by kind body.secret_refs) _ new after_kind in
    let made : NewContainer = record { name = name; kind = kind; secrets = secrets } in
    let kept = kept_members kind body.secret_refs secrets (was (members_by kind body.secret_refs) (BadBody field.SecretRefs) secrets secrets-is) in
    let parts = and_parts _ _ kept.0 in
    let both = and_parts _ _ parts.0 in
    subst IsContainerInRange (given_is made new after_secrets) (record {
      name = short field.Name body.name name name-is;
      few = leb-true (length secrets) 100 both.0;
      each = kept.1;
      apart = both.1;
      named = parts.1;
    })

-- ---- consumers

pub consumer_in_range : (body : ConsumerBody) (consumer : List ℕ × List ℕ) → checked_consumer body ≡ Ok consumer → IsConsumerInRange consumer
consumer_in_range body consumer e =
    let (name, name-is, after_name) = gave (required_text field.Name body.name) _ consumer e in
    let (url, url-is, after_url) = gave (required_text field.Url body.url) _ consumer after_name in
    let made : List ℕ × List ℕ = (name, url) in
    let names = needed field.Name body.name name name-is in
    let urls = needed field.Url body.url url url-is in
    subst IsConsumerInRange (given_is made consumer after_url) (record { some_name = names.0; name = names.1; some_url = urls.0; url = urls.1 })
