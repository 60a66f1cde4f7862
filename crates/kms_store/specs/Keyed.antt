-- Tables with at most one row a key, and where each key's row stands.
use Rattle.std.specs.Prelude.{◌≡◌, ℕ, ◌+◌, ◌-◌, ◌≤◌, Bool, false, List, [], ◌∷◌, if◌then◌else◌, nat_lt, vec_len, vec_capacity}
use Prim.Native.Nat.{zero, suc}
use Rattle.std.specs.Global.{Vec}
use Rattle.kms_kept.specs.Once.{Pairwise}
use Rattle.kms_store.specs.Tally.{number_in, Ascend}
use Rattle.kms_store.specs.declared.tally.Entry.{Entry}

-- the number of a row among one row more
abbrev pub next : ℕ → ℕ
next zero = 0
next (suc n) = suc (suc n)

-- the number of the first row that passes, counted from 1, or 0 where none does
abbrev pub nth : {X : Type 0} → (X → Bool) → List X → ℕ
nth test [] = 0
nth test (x ∷ xs) = if test x then 1 else next (nth test xs)

-- a number after one that goes
abbrev pub lowered : (gone : ℕ) → ℕ → ℕ
lowered gone n = if nat_lt gone n then n - 1 else n

abbrev pub lowered_entry : {K : Type 0} → (gone : ℕ) → Entry K → Entry K
lowered_entry gone entry = record entry { number = lowered gone entry.number }

-- no two rows have the same key
abbrev pub StandApart : {K X : Type 0} → (is : K → K → Bool) → (key_of : X → K) → List X → Type 0
StandApart is key_of rows = Pairwise (λ a b. is (key_of b) (key_of a) ≡ false) rows

-- the entries say where each key's row stands, and there is memory for so many more of both
pub record IsPlaced {K X : Type 0} (is below : K → K → Bool) (key_of : X → K) (places : Vec (Entry K)) (rows : Vec X) (spare : ℕ) : Type 0 where
  pub ascend : Ascend below places.items
  pub each : (key : K) → number_in is key places.items ≡ nth (λ r. is key (key_of r)) rows.items
  pub places_fit : vec_len places + spare ≤ vec_capacity places
  pub rows_fit : vec_len rows + spare ≤ vec_capacity rows
