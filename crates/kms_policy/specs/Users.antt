-- One user more on an access list.
use denote.Ref.{Bor}
use Rattle.std.specs.Prelude.{◌≡◌, ℕ, ◌≤◌, Bool, true, false, ◌&&◌, ◌||◌, List, [], ◌∷◌, ◌++◌, length, if◌then◌else◌, nat_lt}
use Rattle.std.specs.BTreeSet.{BTreeSet, contains_by}
use Rattle.std.specs.Cmp.Lexicographic.{slice_cmp}
use Rattle.std.specs.Ordering.{nat_cmp}
use Rattle.kms_world.specs.Name.{is_name}
use Rattle.kms_world.specs.declared.refusal.CheckFault.{CheckFault}
use Rattle.kms_world.specs.declared.refusal.CheckFault.TheVariants.{Refused, NoMemory}
use Rattle.kms_world.specs.declared.refusal.Field.TheVariants.{Users}
use Rattle.kms_world.specs.declared.refusal.Refusal.TheVariants.{BadBody}
use Rattle.kms_policy.specs.Policy.{is_among}

-- the names with this one behind them, where it isn't among them
abbrev pub with_name : List (List ℕ) → List ℕ → List (List ℕ)
with_name names name = if is_among name names then names else names ++ name ∷ []

-- the text is a name, and one of the names or one for which there is room
abbrev pub is_taken : List (List ℕ) → List ℕ → Bool
is_taken names text = is_name text && (is_among text names || nat_lt (length names) 100)

-- the set has this text
abbrev pub has_text : BTreeSet (Bor (List ℕ)) → List ℕ → Bool
has_text seen text = contains_by (λ t. slice_cmp nat_cmp text t.now) seen

-- the set has the names, and no other text
abbrev pub HasNames : BTreeSet (Bor (List ℕ)) → List (List ℕ) → Type 0
HasNames seen names = (text : List ℕ) → has_text seen text ≡ is_among text names

-- the names before and after a text was taken
pub record TakesUser (old new : List (List ℕ)) (text : List ℕ) : Type 0 where
  pub name : is_name text ≡ true
  pub names : new ≡ with_name old text
  pub few : length new ≤ 100

-- users are refused only where this test fails
abbrev pub RefusesUsers : CheckFault → Bool → Type 0
RefusesUsers (Refused refusal) test = (refusal ≡ BadBody Users) × (test ≡ false)
RefusesUsers NoMemory test = Unit {0}
