-- Names by their bytes, and ids by their numbers, stand in order.
use Rattle.std.proofs.Common.{◌≡◌, ℕ, ◌<◌, ◌≤◌, true, false, ltb, List, refl, sym, ◌∙◌, arith, inl, inr}
use Rattle.std.specs.Prelude.{nat_lt}
use Rattle.std.specs.Str.{bytes_eq}
use Rattle.std.proofs.lemmas.Bool.{cases_Bool, false≢true, false_from_ne_true, eqb-true, eq-eqb, ltb-true, ltb-false, lt-ltb}
use Rattle.std.proofs.lemmas.Slice.Eq.{bytes_eq-Decides}
use Rattle.kms_world.specs.Id.{is_id}
use Rattle.kms_world.specs.Pairs.{is_below}
use Rattle.kms_world.specs.declared.id.Id.{Id}
use Rattle.kms_kept.specs.Kept.{is_key_below}
use Rattle.kms_kept.specs.KeyNumbers.{IsKeyBelow}
use Rattle.kms_kept.proofs.KeyOrderLaws.{below_itself, below_of, to_below, key_below_trans, key_below_other}
use Rattle.kms_kept.proofs.RisingLaws.{one_id}
use Rattle.kms_store.specs.IndexKey.{IsOrder}
use Rattle.kms_store.specs.Keys.{named_key}

-- ---- names, as the projects of keys

name_below : (a b : List ℕ) → IsKeyBelow (named_key a 0) (named_key b 0) → is_below a b ≡ true
name_below a b is = elim (below_of (named_key a 0) (named_key b 0) is) [ inl less ↦ less | inr number ↦ absurd (omega (arith, number.1)) ]

below_trans : (a b c : List ℕ) → is_below a b ≡ true → is_below b c ≡ true → is_below a c ≡ true
below_trans a b c first second =
    name_below a c (key_below_trans (named_key a 0) (named_key b 0) (named_key c 0) (to_below (named_key a 0) (named_key b 0) (inl first)) (to_below (named_key b 0) (named_key c 0) (inl second)))

below_other : (a b : List ℕ) → is_below a b ≡ false → (a ≡ b → ⊥) → is_below b a ≡ true
below_other a b not_below apart =
    let no : is_key_below (named_key a 0) (named_key b 0) ≡ false = false_from_ne_true (is_key_below (named_key a 0) (named_key b 0)) (λ is. false≢true (sym not_below ∙ name_below a b is)) in
    name_below b a (key_below_other (named_key a 0) (named_key b 0) no (λ same number. apart same))

pub names_order : IsOrder bytes_eq is_below
names_order = record {
  same = λ a b is. (bytes_eq-Decides a b).0 is;
  itself = λ a. (bytes_eq-Decides a a).1 refl;
  irreflexive = below_itself;
  transitive = below_trans;
  total = below_other;
}

-- ---- ids

pub ids_order : IsOrder is_id (λ (a b : Id). nat_lt a.0 b.0)
ids_order = record {
  same = λ a b is. sym (one_id b a (eqb-true b.0 a.0 is));
  itself = λ a. eq-eqb a.0 a.0 refl;
  irreflexive = λ a less. omega (arith, ltb-true a.0 a.0 less);
  transitive = λ a b c first second. lt-ltb a.0 c.0 (omega (arith, ltb-true a.0 b.0 first, ltb-true b.0 c.0 second));
  total = λ a b other apart. lt-ltb b.0 a.0 (above a b (ltb-false a.0 b.0 other) apart);
}
  where
    above : (a b : Id) → b.0 ≤ a.0 → (a ≡ b → ⊥) → b.0 < a.0
    above a b le apart = elim (cases_Bool (ltb b.0 a.0)) [
      | inl t ↦ ltb-true b.0 a.0 t
      | inr f ↦ absurd (apart (one_id a b (omega (arith, le, ltb-false b.0 a.0 f))))
    ]
