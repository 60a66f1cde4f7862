-- Look-ups of keys, where keys change.
use Rattle.std.proofs.Common.{◌≡◌, ℕ, true, false, List, [], ◌∷◌, Some, sym, ◌∙◌, arith, inl, inr}
use Rattle.std.specs.Prelude.{◌==◌}
use Rattle.std.specs.List.{AllByRecursion}
use Rattle.std.specs.Str.{bytes_eq}
use Rattle.std.proofs.lemmas.Bool.{cases_Bool, and_parts, eqb-true, false_from_ne_true}
use Rattle.std.proofs.lemmas.Slice.Eq.{bytes_eq-Decides}
use Rattle.kms_record.specs.declared.change.Change.TheVariants.{KeyAdded}
use Rattle.kms_record.specs.declared.key.WrappedKey.{WrappedKey}
use Rattle.kms_kept.specs.Kept.{Kept, Part, applies, is_key, is_key_below, key_of, insert_key}
use Rattle.kms_kept.proofs.KeyNumberLaws.{IsLater, all_earlier}

pub is_key_parts : (project : List ℕ) (number : ℕ) (key : WrappedKey) → is_key project number key ≡ true → (project ≡ key.project) × (number ≡ key.number)
is_key_parts project number key h =
    let parts = and_parts (bytes_eq project key.project) (number == key.number) h in
    ((bytes_eq-Decides project key.project).0 parts.0, eqb-true number key.number parts.1)

-- a key that is there isn't one that comes
not_new : (project : List ℕ) (number : ℕ) (key row : WrappedKey) (keys : List WrappedKey) → AllByRecursion (λ (other : WrappedKey). IsLater other key) keys → key_of project number keys ≡ Some row → is_key project number key ≡ false
not_new project number key row [] before found = absurd cc
not_new project number key row (x ∷ xs) before found = elim (cases_Bool (is_key project number x)) [
  | inl t ↦ false_from_ne_true (is_key project number key) (λ h.
      let new = is_key_parts project number key h in
      let old = is_key_parts project number x t in
      absurd (omega (arith, before.0 (sym old.0 ∙ new.0), new.1, old.1)))
  | inr f ↦ not_new project number key row xs before.1 (rw f at found)
]

inserted : (project : List ℕ) (number : ℕ) (key row : WrappedKey) (keys : List WrappedKey) → is_key project number key ≡ false → key_of project number keys ≡ Some row → key_of project number (insert_key key keys) ≡ Some row
inserted project number key row [] other found = absurd cc
inserted project number key row (x ∷ xs) other found = elim (cases_Bool (is_key_below key x)) [
  | inl t ↦ rw (t, other) found
  | inr f ↦ elim (cases_Bool (is_key project number x)) [
    | inl here ↦ rw (f, here) (rw here at found)
    | inr past ↦ rw (f, past) (inserted project number key row xs other (rw past at found))
  ]
]

-- a key that is there is found too after another comes
pub key_stays : (part : Part) (key : WrappedKey) (kept : Kept) → applies part (KeyAdded key) kept ≡ true → (project : List ℕ) (number : ℕ) (row : WrappedKey) → key_of project number kept.keys ≡ Some row → key_of project number (insert_key key kept.keys) ≡ Some row
key_stays part key kept fits project number row found =
    inserted project number key row kept.keys (not_new project number key row kept.keys (all_earlier key kept.keys (and_parts _ _ fits).1) found) found
