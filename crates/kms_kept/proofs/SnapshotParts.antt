-- Tables that are built a row at a time.
use Rattle.std.proofs.Common.{◌≡◌, ℕ, ◌<◌, Bool, true, false, List, [], ◌∷◌, ◌++◌, map, Option, Some, None, refl, sym, ap, ◌∙◌, arith, append-nil, append_assoc}
use Rattle.std.specs.Prelude.{find, is_some, nat_lt, option_and_then}
use Rattle.std.specs.List.{AllByRecursion, flat_map, list_all, list_any}
use Rattle.std.proofs.lemmas.Bool.{and_from, or_from, lt-ltb, ne_eqb, not_from_false}
use Rattle.std.proofs.lemmas.List.Concat.{flat_map-cons, flat_map_single}
use Rattle.kms_world.specs.Effect.{put_row, change_rows}
use Rattle.kms_world.specs.Id.{id_number, id_at, is_id}
use Rattle.kms_world.specs.LookUp.{secret_of, container_of, order_of}
use Rattle.kms_world.specs.State.{State}
use Rattle.kms_world.specs.declared.id.Id.{Id}
use Rattle.kms_record.specs.declared.change.Change.{Change}
use Rattle.kms_kept.specs.Kept.{Kept, Base, applies, changed, after_change, after_changes, is_new}
use Rattle.kms_kept.specs.Once.{Pairwise}
use Rattle.kms_kept.specs.Rising.{IsGiven, Rises}
use Rattle.kms_kept.proofs.CountLaws.{less_count}
use Rattle.kms_kept.proofs.KeptLaws.{onwards}
use Rattle.kms_kept.proofs.KeptLists.{all_to}
use Rattle.kms_kept.proofs.RisingLaws.{given_below}

-- ---- a row among others

module _ {X : Type 0} where
  pub all_mid : (P : X → Type 0) (front : List X) (x : X) (rest : List X) → AllByRecursion P (front ++ x ∷ rest) → P x
  all_mid P [] x rest each = each.0
  all_mid P (f ∷ fs) x rest each = all_mid P fs x rest each.1

  pub pairwise_mid : (R : X → X → Type 0) (front : List X) (x : X) (rest : List X) → Pairwise R (front ++ x ∷ rest) → AllByRecursion (λ f. R f x) front
  pairwise_mid R [] x rest each = tt
  pairwise_mid R (f ∷ fs) x rest each = (all_mid (R f) fs x rest each.0, pairwise_mid R fs x rest each.1)

  pub above_mid : (id_of : X → Id) (P : Id → Type 0) (front : List X) (x : X) (rest : List X) → AllByRecursion P (map id_of (front ++ x ∷ rest)) → P (id_of x)
  above_mid id_of P [] x rest each = each.0
  above_mid id_of P (f ∷ fs) x rest each = above_mid id_of P fs x rest each.1

  pub given_mid : (id_of : X → Id) (tag n : ℕ) (front : List X) (x : X) (rest : List X) → Rises tag n (map id_of (front ++ x ∷ rest)) → IsGiven tag n (id_of x)
  given_mid id_of tag n [] x rest r = r.0
  given_mid id_of tag n (f ∷ fs) x rest r = given_mid id_of tag n fs x rest r.2

  pub below_mid : (id_of : X → Id) (tag n : ℕ) (front : List X) (x : X) (rest : List X) → Rises tag n (map id_of (front ++ x ∷ rest)) → AllByRecursion (λ f. (id_of f).0 < (id_of x).0) front
  below_mid id_of tag n [] x rest r = tt
  below_mid id_of tag n (f ∷ fs) x rest r = (above_mid id_of (λ (other : Id). (id_of f).0 < other.0) fs x rest r.1, below_mid id_of tag n fs x rest r.2)

  -- ---- look-ups where no row before the last passes the test

  pub none_found : (test : X → Bool) (xs : List X) → AllByRecursion (λ x. test x ≡ false) xs → find test xs ≡ None
  none_found test [] each = refl
  none_found test (x ∷ xs) each = rw each.0 (none_found test xs each.1)

  pub found_last : (test : X → Bool) (xs : List X) (last : X) → AllByRecursion (λ x. test x ≡ false) xs → test last ≡ true → find test (xs ++ last ∷ []) ≡ Some last
  found_last test [] last each here = rw here refl
  found_last test (x ∷ xs) last each here = rw each.0 (found_last test xs last each.1 here)

  pub changed_last : (test : X → Bool) (f : X → X) (xs : List X) (last : X) → AllByRecursion (λ x. test x ≡ false) xs → test last ≡ true → change_rows test f (xs ++ last ∷ []) ≡ xs ++ f last ∷ []
  changed_last test f [] last each here = rw here refl
  changed_last test f (x ∷ xs) last each here = rw each.0 (ap (λ (others : List X). x ∷ others) (changed_last test f xs last each.1 here))

  pub put_after : (test : X → Bool) (row : X) (xs : List X) → AllByRecursion (λ x. test x ≡ false) xs → put_row test row xs ≡ xs ++ row ∷ []
  put_after test row [] each = refl
  put_after test row (x ∷ xs) each = rw each.0 (ap (λ (others : List X). x ∷ others) (put_after test row xs each.1))

  pub none_of : (test : X → Bool) (xs : List X) → AllByRecursion (λ x. test x ≡ false) xs → list_any test xs ≡ false
  none_of test [] each = refl
  none_of test (x ∷ xs) each = rw each.0 (none_of test xs each.1)

  pub all_of : (test : X → Bool) (xs : List X) → AllByRecursion (λ x. test x ≡ true) xs → list_all test xs ≡ true
  all_of test [] each = refl
  all_of test (x ∷ xs) each = rw each.0 (all_of test xs each.1)

  pub others_by_id : (id_of : X → Id) (id : Id) (xs : List X) → AllByRecursion (λ x. (id_of x).0 < id.0) xs → AllByRecursion (λ x. is_id id (id_of x) ≡ false) xs
  others_by_id id_of id xs below = all_to (λ x. (id_of x).0 < id.0) (λ x. is_id id (id_of x) ≡ false) (λ x lt. ne_eqb (id_of x).0 id.0 (λ e. absurd (omega (arith, lt, e)))) xs below

  -- what holds of each row's id holds of each id
  pub of_ids : (id_of : X → Id) (P : Id → Type 0) (xs : List X) → AllByRecursion (λ x. P (id_of x)) xs → AllByRecursion P (map id_of xs)
  of_ids id_of P [] each = tt
  of_ids id_of P (x ∷ xs) each = (each.0, of_ids id_of P xs each.1)

  pub by_ids : (id_of : X → Id) (P : Id → Type 0) (xs : List X) → AllByRecursion P (map id_of xs) → AllByRecursion (λ x. P (id_of x)) xs
  by_ids id_of P [] each = tt
  by_ids id_of P (x ∷ xs) each = (each.0, by_ids id_of P xs each.1)

-- ---- an id that is new in a snapshot

pub given_count : (tag n count : ℕ) → IsGiven tag n (id_at tag count) → count < n
given_count tag n count g = less_count tag count n (given_below tag n (id_at tag count) g)

pub new_in_base : (s : State) (own : List Id) (count : ℕ) → count < s.ids → AllByRecursion (λ (i : Id). i.0 < id_number s.tag count) own
    → is_some (secret_of (id_at s.tag count) s.secrets) ≡ false → is_some (container_of (id_at s.tag count) s.containers) ≡ false → is_some (order_of (id_at s.tag count) s.orders) ≡ false
    → is_new Base s own count ≡ true
new_in_base s own count lt below secrets containers orders =
    let rising = all_of (λ (i : Id). nat_lt i.0 (id_number s.tag count)) own (all_to (λ (i : Id). i.0 < id_number s.tag count) (λ (i : Id). nat_lt i.0 (id_number s.tag count) ≡ true) (λ i h. lt-ltb i.0 (id_number s.tag count) h) own below) in
    and_from _ _ (and_from _ _ (lt-ltb count s.ids lt) rising) (not_from_false _ (or_from _ _ (or_from _ _ secrets containers) orders))

-- ---- changes one after the other

pub changes-append : (a b : List Change) (kept : Kept) → after_changes Base (a ++ b) kept ≡ option_and_then (after_changes Base b) (after_changes Base a kept)
changes-append [] b kept = refl
changes-append (change ∷ changes) b kept = onwards (after_changes Base (changes ++ b)) (after_changes Base changes) (after_changes Base b) (after_change Base change kept) (λ middle. changes-append changes b middle)

pub one_change : (change : Change) (kept next : Kept) → applies Base change kept ≡ true → changed change kept ≡ next → after_change Base change kept ≡ Some next
one_change change kept next fits is = rw fits (ap (λ (k : Kept). let o : Option Kept = Some k in o) is)

pub alone : (change : Change) (kept next : Kept) → applies Base change kept ≡ true → changed change kept ≡ next → after_changes Base (change ∷ []) kept ≡ Some next
alone change kept next fits is = ap (option_and_then (after_changes Base [])) (one_change change kept next fits is)

pub first_change : (change : Change) (changes : List Change) (kept next : Kept) (end : Option Kept) → after_change Base change kept ≡ Some next → after_changes Base changes next ≡ end → after_changes Base (change ∷ changes) kept ≡ end
first_change change changes kept next end first rest = ap (option_and_then (after_changes Base changes)) first ∙ rest

pub two_parts : (a b : List Change) (kept next after : Kept) → after_changes Base a kept ≡ Some next → after_changes Base b next ≡ Some after → after_changes Base (a ++ b) kept ≡ Some after
two_parts a b kept next after first rest = changes-append a b kept ∙ ap (option_and_then (after_changes Base b)) first ∙ rest

-- each row in its turn is added to those before it
module _ {X : Type 0} (changes_of : X → List Change) (with_rows : List X → Kept) (whole : List X)
    (step : (front : List X) (x : X) (rest : List X) → whole ≡ front ++ x ∷ rest → after_changes Base (changes_of x) (with_rows front) ≡ Some (with_rows (front ++ x ∷ []))) where
  pub built_from : (front rest : List X) → whole ≡ front ++ rest → after_changes Base (flat_map changes_of rest) (with_rows front) ≡ Some (with_rows whole)
  built_from front [] is = ap (λ (rows : List X). let o : Option Kept = Some (with_rows rows) in o) (sym (is ∙ append-nil front))
  built_from front (x ∷ rest) is =
      ap (λ (cs : List Change). after_changes Base cs (with_rows front)) (flat_map-cons changes_of x rest)
      ∙ two_parts (changes_of x) (flat_map changes_of rest) (with_rows front) (with_rows (front ++ x ∷ [])) (with_rows whole) (step front x rest is) (built_from (front ++ x ∷ []) rest (is ∙ sym (append_assoc front (x ∷ []) rest)))

  pub built : after_changes Base (flat_map changes_of whole) (with_rows []) ≡ Some (with_rows whole)
  built = built_from [] whole refl

pub built_singly : {X : Type 0} (change_of : X → Change) (with_rows : List X → Kept) (whole : List X)
    → ((front : List X) (x : X) (rest : List X) → whole ≡ front ++ x ∷ rest → after_changes Base (change_of x ∷ []) (with_rows front) ≡ Some (with_rows (front ++ x ∷ [])))
    → after_changes Base (map change_of whole) (with_rows []) ≡ Some (with_rows whole)
built_singly {X} change_of with_rows whole step =
    ap (λ (cs : List Change). after_changes Base cs (with_rows [])) (sym (flat_map_single change_of whole)) ∙ built (λ x. change_of x ∷ []) with_rows whole step
