-- A number for each of some keys, as how many rows a project has.
use Rattle.std.specs.Prelude.{◌≡◌, ℕ, ◌<◌, ◌≤◌, Bool, true, List, [], ◌∷◌, length, slice_index_or, if◌then◌else◌}
use Rattle.std.specs.List.{AllByRecursion, sum_by}
use Rattle.std.specs.Str.{bytes_eq}
use Rattle.kms_world.specs.Pairs.{is_below}
use Rattle.kms_store.specs.declared.tally.Entry.{Entry}

-- the number that an entry says for a key
abbrev pub number_at : {K : Type 0} → (is : K → K → Bool) → K → Entry K → ℕ
number_at is key entry = if is key entry.key then entry.number else 0

-- the number that all entries say for a key: 0 where it has no entry
abbrev pub number_in : {K : Type 0} → (is : K → K → Bool) → K → List (Entry K) → ℕ
number_in is key entries = sum_by (number_at is key) entries

-- each key comes before all that stand after it
abbrev pub Ascend : {K : Type 0} → (below : K → K → Bool) → List (Entry K) → Type 0
Ascend below [] = Unit {0}
Ascend below (first ∷ rest) = AllByRecursion (λ other. below first.key other.key ≡ true) rest × Ascend below rest

-- the key's entry stands here
pub record StandsAt {K : Type 0} (key : K) (entries : List (Entry K)) (at : ℕ) : Type 0 where
  pub within : at < length entries
  pub here : (d : Entry K) → (slice_index_or entries at d).key ≡ key

-- the key has no entry, and one would go here
pub record GoesAt {K : Type 0} (below : K → K → Bool) (key : K) (entries : List (Entry K)) (at : ℕ) : Type 0 where
  pub within : at ≤ length entries
  pub before : (k : ℕ) (d : Entry K) → k < at → below (slice_index_or entries k d).key key ≡ true
  pub after : (k : ℕ) (d : Entry K) → at ≤ k → k < length entries → below key (slice_index_or entries k d).key ≡ true

-- ---- how many rows each project has, by its name

abbrev pub ProjectRows : Type 0
ProjectRows = Entry (List ℕ)

abbrev pub rows_in : (project : List ℕ) → List ProjectRows → ℕ
rows_in project entries = number_in bytes_eq project entries

abbrev pub ProjectsAscend : List ProjectRows → Type 0
ProjectsAscend entries = Ascend is_below entries
