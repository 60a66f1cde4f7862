-- The order of keys by project and number.
use Rattle.std.proofs.Common.{◌≡◌, ◌⊎◌, ℕ, ◌<◌, true, false, ltb, List, refl, sym, ap, subst, ◌∙◌, arith, inl, inr}
use Rattle.std.specs.Prelude.{◌&&◌}
use Rattle.std.specs.Cmp.Lexicographic.{slice_cmp}
use Rattle.std.specs.FinMap.{slice_cmp-IsAntisymmetric, nat_cmp-IsAntisymmetric}
use Rattle.std.specs.Ordering.{nat_cmp, is_lt, ordering_reverse}
use Rattle.std.specs.declared.cmp.Ordering.{Ordering}
use Rattle.std.specs.declared.cmp.Ordering.TheVariants.{Less, Equal, Greater}
use Rattle.std.specs.Str.{bytes_eq}
use Rattle.std.proofs.lemmas.Bool.{cases_Bool, and_parts, and_from, or_cases, or_parts, or_left, or_right, ltb-true, ltb-false, lt-ltb, both_ways}
use Rattle.std.proofs.lemmas.Cmp.{nat_list_cmp_total}
use Rattle.std.proofs.lemmas.Slice.Eq.{bytes_eq-Decides}
use Rattle.kms_world.specs.Pairs.{is_below}
use Rattle.kms_record.specs.declared.key.WrappedKey.{WrappedKey}
use Rattle.kms_kept.specs.Kept.{is_key_below}
use Rattle.kms_kept.specs.KeyNumbers.{IsKeyBelow}

less : (o : Ordering) → is_lt o ≡ true → o ≡ Less
less Less e = refl
less Equal e = absurd cc
less Greater e = absurd cc

below_trans : (a b c : List ℕ) → is_below a b ≡ true → is_below b c ≡ true → is_below a c ≡ true
below_trans a b c first second = ap is_lt (nat_list_cmp_total.trans a b c (less _ first) (less _ second))

turned : (a b : List ℕ) (o p : Ordering) → p ≡ ordering_reverse o → is_lt o ≡ false → (o ≡ Equal → a ≡ b) → (a ≡ b → ⊥) → is_lt p ≡ true
turned a b Less p e not_below same other = absurd cc
turned a b Equal p e not_below same other = absurd (other (same refl))
turned a b Greater p e not_below same other = ap is_lt e

below_other : (a b : List ℕ) → is_below a b ≡ false → (a ≡ b → ⊥) → is_below b a ≡ true
below_other a b not_below other =
    turned a b (slice_cmp nat_cmp a b) (slice_cmp nat_cmp b a) (nat_list_cmp_total.antisymm b a) not_below (slice_cmp-IsAntisymmetric nat_cmp-IsAntisymmetric a b) other

irreflexive : (a : List ℕ) (o : Ordering) → o ≡ ordering_reverse o → is_lt o ≡ true → ⊥
irreflexive a Less e below = absurd cc
irreflexive a Equal e below = absurd cc
irreflexive a Greater e below = absurd cc

-- no text comes before itself
pub below_itself : (a : List ℕ) → is_below a a ≡ true → ⊥
below_itself a below = irreflexive a (slice_cmp nat_cmp a a) (nat_list_cmp_total.antisymm a a) below

-- ---- keys

-- by the project, or by the number in one project
abbrev pub Below : WrappedKey → WrappedKey → Type 0
Below a b = (is_below a.project b.project ≡ true) ⊎ ((a.project ≡ b.project) × (a.number < b.number))

pub below_of : (a b : WrappedKey) → IsKeyBelow a b → Below a b
below_of a b h = elim (or_cases (is_below a.project b.project) (bytes_eq a.project b.project && ltb a.number b.number) h) [
  | inl project ↦ inl project
  | inr number ↦
      let parts = and_parts (bytes_eq a.project b.project) (ltb a.number b.number) number in
      inr ((bytes_eq-Decides a.project b.project).0 parts.0, ltb-true a.number b.number parts.1)
]

pub to_below : (a b : WrappedKey) → Below a b → IsKeyBelow a b
to_below a b (inl project) = or_left (is_below a.project b.project) _ project
to_below a b (inr number) =
    or_right (is_below a.project b.project) (bytes_eq a.project b.project && ltb a.number b.number)
    (and_from (bytes_eq a.project b.project) (ltb a.number b.number) ((bytes_eq-Decides a.project b.project).1 number.0) (lt-ltb a.number b.number number.1))

then_below : (a b c : WrappedKey) → Below a b → Below b c → Below a c
then_below a b c (inl p) (inl q) = inl (below_trans a.project b.project c.project p q)
then_below a b c (inl p) (inr q) = inl (subst (λ (x : List ℕ). is_below a.project x ≡ true) q.0 p)
then_below a b c (inr p) (inl q) = inl (subst (λ (x : List ℕ). is_below x c.project ≡ true) (sym p.0) q)
then_below a b c (inr p) (inr q) = inr (p.0 ∙ q.0, omega (arith, p.1, q.1))

pub key_below_trans : (a b c : WrappedKey) → IsKeyBelow a b → IsKeyBelow b c → IsKeyBelow a c
key_below_trans a b c first second = to_below a c (then_below a b c (below_of a b first) (below_of b c second))

pub key_below_other : (a b : WrappedKey) → is_key_below a b ≡ false → (a.project ≡ b.project → a.number ≡ b.number → ⊥) → IsKeyBelow b a
key_below_other a b not_below other =
    let parts = or_parts (is_below a.project b.project) (bytes_eq a.project b.project && ltb a.number b.number) not_below in
    elim (cases_Bool (bytes_eq a.project b.project)) [
      | inl same ↦
          let project = (bytes_eq-Decides a.project b.project).0 same in
          let number : b.number < a.number = elim (cases_Bool (ltb a.number b.number)) [
            | inl below ↦ absurd (both_ways _ parts.1 (and_from _ _ same below))
            | inr above ↦ let le = ltb-false a.number b.number above in let ne = other project in omega (arith, le, ne)
          ] in
          to_below b a (inr (sym project, number))
      | inr differ ↦ to_below b a (inl (below_other a.project b.project parts.0 (λ e. both_ways _ differ ((bytes_eq-Decides a.project b.project).1 e))))
    ]
