-- Bodies of metadata: the pairs by their keys, or the refusal of the first rule that the body breaks.
use Rattle.std.specs.Prelude.{ℕ, Bool, true, not, ◌&&◌, List, [], ◌∷◌, length, map, nat_le, Option, Some, None, Result, Ok, Err, if◌then◌else◌}
use Rattle.std.specs.Cmp.Lexicographic.{slice_cmp}
use Rattle.std.specs.List.{list_all, list_any}
use Rattle.std.specs.Option.{option_and_then}
use Rattle.std.specs.Ordering.{nat_cmp}
use Rattle.std.specs.Str.{bytes_eq, str_to_ascii_lowercase}
use Rattle.std.specs.declared.cmp.Ordering.{Ordering}
use Rattle.kms_world.specs.declared.body.MetadataBody.{MetadataBody}
use Rattle.kms_world.specs.declared.body.PairBody.{PairBody}
use Rattle.kms_world.specs.declared.refusal.Field.TheVariants.{Metadata, Key, Value}
use Rattle.kms_world.specs.declared.refusal.Refusal.{Refusal}
use Rattle.kms_world.specs.declared.refusal.Refusal.TheVariants.{BadBody}
use Rattle.kms_secret.specs.Key.{is_key, key_of}
use Rattle.kms_secret.specs.Sorted.{sorted}
use Rattle.kms_secret.specs.Rules.{◌>>=◌, only_if, there}

abbrev pub is_value : List ℕ → Bool
is_value value = nat_le (length value) 255

abbrev pub is_pair : List ℕ × List ℕ → Bool
is_pair pair = is_key pair.0 && is_value pair.1

-- a pair is kept under its key in lower case
abbrev pub lowered : List ℕ × List ℕ → List ℕ × List ℕ
lowered pair = (str_to_ascii_lowercase pair.0, pair.1)

-- two pairs by the bytes of their keys
abbrev pub key_cmp : List ℕ × List ℕ → List ℕ × List ℕ → Ordering
key_cmp a b = slice_cmp nat_cmp a.0 b.0

-- pairs in the order of their keys
abbrev pub by_key : List (List ℕ × List ℕ) → List (List ℕ × List ℕ)
by_key pairs = sorted key_cmp pairs

-- one of the pairs has this key
abbrev pub has_key : List ℕ → List (List ℕ × List ℕ) → Bool
has_key key pairs = list_any (λ p. bytes_eq key p.0) pairs

-- no two pairs have one key
abbrev pub have_own_keys : List (List ℕ × List ℕ) → Bool
have_own_keys [] = true
have_own_keys (pair ∷ pairs) = not (has_key pair.0 pairs) && have_own_keys pairs

-- the pairs as they are kept; none where two keys are equal in lower case
abbrev pub kept : List (List ℕ × List ℕ) → Option (List (List ℕ × List ℕ))
kept pairs = if have_own_keys (map lowered pairs) then Some (by_key (map lowered pairs)) else None

abbrev pub metadata_by : List (List ℕ × List ℕ) → Result (List (List ℕ × List ℕ)) Refusal
metadata_by pairs = do
  good ← only_if (nat_le (length pairs) 100 && list_all is_pair pairs) (BadBody Metadata)
  there (kept pairs) (BadBody Metadata)

-- the metadata that a body asks for
abbrev pub checked_metadata : MetadataBody → Result (List (List ℕ × List ℕ)) Refusal
checked_metadata body = do
  pairs ← there body.metadata (BadBody Metadata)
  metadata_by pairs

abbrev pub key_by : Option (List ℕ) → Result (List ℕ) Refusal
key_by key = there (option_and_then key_of key) (BadBody Key)

abbrev pub value_by : Option (List ℕ) → Result (List ℕ) Refusal
value_by None = Err (BadBody Value)
value_by (Some value) = if is_value value then Ok value else Err (BadBody Value)

-- the pair that a body asks for
abbrev pub checked_pair : PairBody → Result (List ℕ × List ℕ) Refusal
checked_pair body = do
  key ← key_by body.key
  value ← value_by body.value
  Ok (key, value)
