-- Keys of entries that stand in order.
use Rattle.std.specs.Prelude.{◌≡◌, true, false, Bool}

-- One test says which keys are equal, and the other is a strict total order.
pub record IsOrder {K : Type 0} (is below : K → K → Bool) : Type 0 where
  pub same : (a b : K) → is a b ≡ true → a ≡ b
  pub itself : (a : K) → is a a ≡ true
  pub irreflexive : (a : K) → below a a ≡ true → ⊥
  pub transitive : (a b c : K) → below a b ≡ true → below b c ≡ true → below a c ≡ true
  pub total : (a b : K) → below a b ≡ false → (a ≡ b → ⊥) → below b a ≡ true
