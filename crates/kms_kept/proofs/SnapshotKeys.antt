-- The keys of a snapshot lead to those that are kept.
use Rattle.std.proofs.Common.{◌≡◌, ℕ, ◌<◌, arith, true, false, not, ltb, List, [], ◌∷◌, ◌++◌, map, Some, refl, sym, ap, subst, inl, inr}
use Rattle.std.specs.Prelude.{◌||◌}
use Rattle.std.specs.List.{AllByRecursion}
use Rattle.std.specs.Str.{bytes_eq}
use Rattle.std.proofs.lemmas.Bool.{and_from, or_left, or_right, lt-ltb, not_from_false, false_from_ne_true}
use Rattle.std.proofs.lemmas.Slice.Eq.{bytes_eq-Decides}
use Rattle.kms_world.specs.Pairs.{is_below}
use Rattle.kms_world.specs.State.{State, empty_state}
use Rattle.kms_record.specs.declared.change.Change.TheVariants.{KeyAdded}
use Rattle.kms_record.specs.declared.key.WrappedKey.{WrappedKey}
use Rattle.kms_kept.specs.Kept.{Kept, Base, applies, after_changes, is_key_below, insert_key}
use Rattle.kms_kept.specs.KeyNumbers.{IsKeyBelow, KeysAscend}
use Rattle.kms_kept.proofs.KeptLists.{all_to}
use Rattle.kms_kept.proofs.KeyOrderLaws.{Below, below_of, below_itself, key_below_trans}
use Rattle.kms_kept.proofs.SnapshotParts.{all_mid, all_of, alone, built_singly}

-- nothing but so many ids given
abbrev pub first_state : Kept → State
first_state kept = record (empty_state kept.state.tag) { ids = kept.state.ids }

abbrev pub with_keys : Kept → List WrappedKey → Kept
with_keys kept keys = record { state = first_state kept; keys = keys }

below_mid : (front : List WrappedKey) (key : WrappedKey) (rest : List WrappedKey) → KeysAscend (front ++ key ∷ rest) → AllByRecursion (λ (f : WrappedKey). IsKeyBelow f key) front
below_mid [] key rest ascend = tt
below_mid (f ∷ fs) key rest ascend = (all_mid (IsKeyBelow f) fs key rest ascend.1, below_mid fs key rest ascend.2)

some_mid : (front : List WrappedKey) (key : WrappedKey) (rest : List WrappedKey) → KeysAscend (front ++ key ∷ rest) → 0 < key.number
some_mid [] key rest ascend = ascend.0
some_mid (f ∷ fs) key rest ascend = some_mid fs key rest ascend.2

not_itself : (key : WrappedKey) → Below key key → ⊥
not_itself key (inl below) = below_itself key.project below
not_itself key (inr number) = absurd (omega (arith, number.1))

not_back : (a b : WrappedKey) → IsKeyBelow a b → is_key_below b a ≡ false
not_back a b below = false_from_ne_true (is_key_below b a) (λ back. not_itself a (below_of a a (key_below_trans a b a below back)))

insert_last : (key : WrappedKey) (front : List WrappedKey) → AllByRecursion (λ (f : WrappedKey). IsKeyBelow f key) front → insert_key key front ≡ front ++ key ∷ []
insert_last key [] below = refl
insert_last key (f ∷ fs) below = rw (not_back f key below.0) (ap (λ (others : List WrappedKey). f ∷ others) (insert_last key fs below.1))

later : (key f : WrappedKey) → Below f key → (not (bytes_eq key.project f.project) || ltb f.number key.number) ≡ true
later key f (inr number) = or_right (not (bytes_eq key.project f.project)) (ltb f.number key.number) (lt-ltb f.number key.number number.1)
later key f (inl below) =
    or_left (not (bytes_eq key.project f.project)) (ltb f.number key.number)
    (not_from_false (bytes_eq key.project f.project) (false_from_ne_true (bytes_eq key.project f.project) (λ same.
    below_itself key.project (subst (λ (p : List ℕ). is_below p key.project ≡ true) (sym ((bytes_eq-Decides key.project f.project).0 same)) below))))

module _ (kept : Kept) (ascend : KeysAscend kept.keys) where
  key_step : (front : List WrappedKey) (key : WrappedKey) (rest : List WrappedKey) → kept.keys ≡ front ++ key ∷ rest → after_changes Base (KeyAdded key ∷ []) (with_keys kept front) ≡ Some (with_keys kept (front ++ key ∷ []))
  key_step front key rest is =
      let here = subst KeysAscend is ascend in
      let below = below_mid front key rest here in
      let fits : applies Base (KeyAdded key) (with_keys kept front) ≡ true =
      and_from _ _ (lt-ltb 0 key.number (some_mid front key rest here))
      (all_of (λ (other : WrappedKey). not (bytes_eq key.project other.project) || ltb other.number key.number) front
      (all_to (λ (f : WrappedKey). IsKeyBelow f key) (λ (f : WrappedKey). (not (bytes_eq key.project f.project) || ltb f.number key.number) ≡ true) (λ f h. later key f (below_of f key h)) front below)) in
      alone (KeyAdded key) (with_keys kept front) (with_keys kept (front ++ key ∷ [])) fits (ap (with_keys kept) (insert_last key front below))

  pub keys_built : after_changes Base (map (λ key. KeyAdded key) kept.keys) (with_keys kept []) ≡ Some (with_keys kept kept.keys)
  keys_built = built_singly (λ key. KeyAdded key) (with_keys kept) kept.keys key_step
