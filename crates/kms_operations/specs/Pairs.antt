-- Pairs of metadata in the order of their keys.
use Rattle.std.specs.Prelude.{ℕ, List, All, IsTrue}
use Rattle.kms_world.specs.Pairs.{is_below}

-- the pair comes after all of these
abbrev pub IsAfterAll : List ℕ × List ℕ → List (List ℕ × List ℕ) → Type 0
IsAfterAll pair pairs = All (λ p. IsTrue (is_below p.0 pair.0)) pairs

-- what comes after this key comes after all of these
abbrev pub AreAround : (key : List ℕ) → List (List ℕ × List ℕ) → Type 0
AreAround key pairs = (pair : List ℕ × List ℕ) → IsTrue (is_below key pair.0) → IsAfterAll pair pairs
