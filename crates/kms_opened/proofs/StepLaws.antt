-- To the effects of some operations on a secret there are steps that have them.
use Rattle.std.proofs.Common.{◌≡◌, ℕ, ◌^◌, ◌<◌, true, ltb, List, [], ◌∷◌, ◌++◌, Option, Some, None, refl, sym, ap, subst, ◌∙◌}
use Rattle.std.specs.Prelude.{is_some}
use Rattle.std.specs.List.{AllByRecursion}
use Rattle.std.proofs.lemmas.Bool.{and_from, or_left, eqb-true, eq-eqb, le-leb}
use Rattle.kms_world.specs.Effect.{Effect}
use Rattle.kms_world.specs.Effect as effects
use Rattle.kms_world.specs.Id.{id_at, is_id}
use Rattle.kms_world.specs.LookUp.{secret_of}
use Rattle.kms_world.specs.State.{State}
use Rattle.kms_world.specs.declared.id.Id.{Id}
use Rattle.kms_world.specs.declared.payload.Payload.{Payload}
use Rattle.kms_world.specs.declared.secret.SecretRow.{SecretRow}
use Rattle.kms_record.specs.declared.change.Change.{Change}
use Rattle.kms_record.specs.declared.change.Change.TheVariants.{KeyAdded, SecretPut, MetadataPut, Deleted}
use Rattle.kms_record.specs.declared.key.WrappedKey.{WrappedKey}
use Rattle.kms_record.specs.declared.secret_put.SecretPut.{SecretPut as Put}
use Rattle.kms_kept.specs.Kept.{Kept, Records, applies, changed, secret_ids}
use Rattle.kms_kept.specs.Rising.{IsRising}
use Rattle.kms_record.specs.SecretPut.{row_of, put_of}
use Rattle.kms_kept.proofs.RisingLaws.{below_all}
use Rattle.kms_opened.specs.Opened.{KeyOpens, OpensUnder, OpensRow, Opened}
use Rattle.kms_opened.specs.Steps.{HaveEffects, HasStep, posted_changes}
use Rattle.kms_opened.proofs.LookUps.{given_of, found_sealed, find_last}
use Rattle.kms_opened.proofs.Zips.{find_passes}

-- the put of a row is that of its attributes, where it has nothing else
row_back : (tag count : ℕ) (row : SecretRow) → row.id ≡ id_at tag count → row.payload ≡ None → row.metadata ≡ [] → row_of tag (put_of count row) ≡ row
row_back tag count row id payload metadata =
    subst (λ (i : Id). (let other : SecretRow = record row { id = i; payload = None; metadata = [] } in other ≡ row)) id
    (subst (λ (p : Option Payload). (let other : SecretRow = record row { payload = p; metadata = [] } in other ≡ row)) payload
    (subst (λ (m : List (List ℕ × List ℕ)). (let other : SecretRow = record row { metadata = m } in other ≡ row)) metadata refl))

put_effect : (a b : SecretRow) → a ≡ b → (let f : Option Effect = Some (effects.SecretPut b) in let g : Option Effect = Some (effects.SecretPut a) in f ≡ g)
put_effect a b e = ap (λ (r : SecretRow). let f : Option Effect = Some (effects.SecretPut r) in f) (sym e)

-- the changes that put a new secret, and then its payload, have these effects
pub posted_have : (masters : List (List ℕ)) (kept : Kept) → IsRising kept.state → (put : Put) (t number : ℕ) (payload : Payload) (token : List ℕ) → put.id ≡ kept.state.ids → put.id < 2 ^ 62
    → OpensUnder masters kept.keys put.project number token payload.bytes
    → HaveEffects masters Records kept (posted_changes put t number payload.media token) (effects.SecretPut (row_of kept.state.tag put) ∷ effects.PayloadPut (id_at kept.state.tag put.id) t payload ∷ [])
posted_have masters kept rising put t number payload token next left opens =
    let id = id_at kept.state.tag put.id in
    let row = row_of kept.state.tag put in
    let below : AllByRecursion (λ (other : Id). other.0 < id.0) (secret_ids kept.state) =
    subst (λ (n : ℕ). AllByRecursion (λ (other : Id). other.0 < (id_at kept.state.tag n).0) (secret_ids kept.state)) (sym next) (below_all kept.state.tag kept.state.ids (secret_ids kept.state) rising.secrets)
    in
    let found : secret_of id (kept.state.secrets ++ row ∷ []) ≡ Some row = find_last id row kept.state.secrets (eq-eqb _ _ refl) below in (
      Some (effects.SecretPut row),
      effects.PayloadPut id t payload ∷ [],
      and_from _ _ (eq-eqb put.id kept.state.ids next) (le-leb _ _ left),
      refl,
      (
        Some (effects.PayloadPut id t payload),
        [],
        rw (found, opens.there) refl,
        (row, found, payload.bytes, opens, refl),
        refl,
        refl,
      ),
      refl,
    )

module _ (masters : List (List ℕ)) (kept : Kept) (s : State) (o : Opened masters kept s) (rising : IsRising kept.state) where
  -- a secret that the plain key manager finds, as it is kept, and the count of its id
  record Standing (id : Id) (row : SecretRow) : Type 0 where
    count : ℕ
    is : row.id ≡ id_at kept.state.tag count
    sealed : SecretRow
    found : secret_of row.id kept.state.secrets ≡ Some sealed

  one_id : (a b : Id) → a.0 ≡ b.0 → a ≡ b
  one_id a b e = ap (λ (n : ℕ). let i : Id = record { 0 = n } in i) e

  standing : (id : Id) (row : SecretRow) → secret_of id s.secrets ≡ Some row → Standing id row
  standing id row found =
      let f = found_sealed (OpensRow masters kept.keys) (λ x y r. ap (λ (z : SecretRow). z.id) r.same) id kept.state.secrets s.secrets row o.secrets found in
      let same : row.id ≡ f.row.id = ap (λ (z : SecretRow). z.id) f.opens.same in
      let g = given_of kept.state.tag kept.state.ids kept.state.secrets id f.row rising.secrets f.found in
      let at : id ≡ row.id = one_id id row.id (sym (eqb-true row.id.0 id.0 (find_passes (λ (r : SecretRow). is_id id r.id) s.secrets row found))) in
      record { count = g.count; is = same ∙ g.is; sealed = f.row; found = subst (λ (i : Id). secret_of i kept.state.secrets ≡ Some f.row) at f.found }

  there : (id : Id) (row : SecretRow) (p : Standing id row) → is_some (secret_of (id_at kept.state.tag p.count) kept.state.secrets) ≡ true
  there id row p = ap is_some (subst (λ (i : Id). secret_of i kept.state.secrets ≡ Some p.sealed) p.is p.found)

  pub delete_has : (id : Id) (row : SecretRow) → secret_of id s.secrets ≡ Some row → HasStep masters kept (effects.Deleted row.id ∷ [])
  delete_has id row found =
      let p = standing id row found in
      record {
        changes = Deleted p.count ∷ [];
        have = (Some (effects.Deleted row.id), [], or_left _ _ (or_left _ _ (there id row p)), ap (λ (i : Id). let e : Option Effect = Some (effects.Deleted i) in e) p.is, refl, refl);
      }

  pub metadata_has : (id : Id) (row : SecretRow) (t : ℕ) (pairs : List (List ℕ × List ℕ)) → secret_of id s.secrets ≡ Some row → HasStep masters kept (effects.MetadataPut row.id t pairs ∷ [])
  metadata_has id row t pairs found =
      let p = standing id row found in
      record {
        changes = MetadataPut (record { secret = p.count; updated = t; pairs = pairs }) ∷ [];
        have = (Some (effects.MetadataPut row.id t pairs), [], there id row p, ap (λ (i : Id). let e : Option Effect = Some (effects.MetadataPut i t pairs) in e) p.is, refl, refl);
      }

  -- the next id is the same in both
  next_of : id_at s.tag s.ids ≡ id_at kept.state.tag kept.state.ids
  next_of = ap (λ (z : State). id_at z.tag z.ids) o.others

  -- the change that puts the row applies, and puts it
  Puts : SecretRow → Type 0
  Puts row = (applies Records (SecretPut (put_of kept.state.ids row)) kept ≡ true) × (row_of kept.state.tag (put_of kept.state.ids row) ≡ row)

  puts : (row : SecretRow) → s.ids < 2 ^ 62 → row.id ≡ id_at s.tag s.ids → row.payload ≡ None → row.metadata ≡ [] → Puts row
  unfolding Puts
  puts row left id payload metadata =
      let room : ltb kept.state.ids (2 ^ 62) ≡ true = subst (λ (z : State). ltb z.ids (2 ^ 62) ≡ true) o.others (le-leb _ _ left) in
      (and_from _ _ (eq-eqb kept.state.ids kept.state.ids refl) room, row_back kept.state.tag kept.state.ids row (id ∙ next_of) payload metadata)

  pub post_has : (row : SecretRow) → s.ids < 2 ^ 62 → row.id ≡ id_at s.tag s.ids → row.payload ≡ None → row.metadata ≡ [] → HasStep masters kept (effects.SecretPut row ∷ [])
  unfolding Puts
  post_has row left id payload metadata =
      let p = puts row left id payload metadata in
      record {
        changes = SecretPut (put_of kept.state.ids row) ∷ [];
        have = (Some (effects.SecretPut row), [], p.0, put_effect _ row p.1, refl, refl);
      }

  pub payload_has : (row : SecretRow) (t number : ℕ) (payload : Payload) (token : List ℕ) → s.ids < 2 ^ 62 → row.id ≡ id_at s.tag s.ids → row.payload ≡ None → row.metadata ≡ []
      → OpensUnder masters kept.keys row.project number token payload.bytes → HasStep masters kept (effects.SecretPut row ∷ effects.PayloadPut row.id t payload ∷ [])
  unfolding Puts
  payload_has row t number payload token left id none metadata opens =
      let p = puts row left id none metadata in
      let put = put_of kept.state.ids row in
      let changes : List Change = posted_changes put t number payload.media token in
      record {
        changes = changes;
        have = subst (λ (i : Id). HaveEffects masters Records kept changes (effects.SecretPut row ∷ effects.PayloadPut i t payload ∷ [])) (sym (id ∙ next_of))
            (subst (λ (r : SecretRow). HaveEffects masters Records kept changes (effects.SecretPut r ∷ effects.PayloadPut (id_at kept.state.tag put.id) t payload ∷ [])) p.1
            (posted_have masters kept rising put t number payload token refl (subst (λ (z : State). z.ids < 2 ^ 62) o.others left) opens));
      }

-- a new key before the changes of a step
pub key_have : (masters : List (List ℕ)) (kept : Kept) (key : WrappedKey) (changes : List Change) (effects : List Effect) → applies Records (KeyAdded key) kept ≡ true → KeyOpens masters key
    → HaveEffects masters Records (changed (KeyAdded key) kept) changes effects → HaveEffects masters Records kept (KeyAdded key ∷ changes) effects
key_have masters kept key changes effects fits opens have = (None, effects, fits, (opens, refl), have, refl)

pub key_first : (masters : List (List ℕ)) (kept : Kept) (key : WrappedKey) (effects : List Effect) → applies Records (KeyAdded key) kept ≡ true → KeyOpens masters key
    → HasStep masters (changed (KeyAdded key) kept) effects → HasStep masters kept effects
key_first masters kept key effects fits opens step = record { changes = KeyAdded key ∷ step.changes; have = key_have masters kept key step.changes effects fits opens step.have }
