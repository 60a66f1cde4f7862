-- Changes are given one after the other.
use Rattle.std.proofs.Common.{◌≡◌, ℕ, List, [], ◌∷◌, ◌++◌, length, Option, Some, None, refl, arith, true, false}
use Rattle.std.specs.Prelude.{◌==◌, is_some, option_map}
use Rattle.kms_world.specs.declared.payload.Payload.{Payload}
use Rattle.kms_world.specs.declared.secret.SecretRow.{SecretRow}
use Rattle.kms_record.specs.declared.change.Change.{Change}
use Rattle.kms_record.specs.declared.change.Change.TheVariants.{PayloadPut, MetadataPut}
use Rattle.kms_record.specs.Base.{payload_put_of, metadata_put_of}
use Rattle.kms_kept.specs.Snapshot.{payload_changes, metadata_changes, sealed_row}

-- the change of a payload that is there
pub payload_given : (row : SecretRow) (number : ℕ) → is_some row.payload ≡ true
    → (change : Change) × (option_map (λ payload. PayloadPut (payload_put_of row number payload)) row.payload ≡ Some change)
    × (payload_changes (sealed_row number row) (sealed_row number row).payload ≡ change ∷ [])
payload_given row number some = by_payload row.payload refl some
  where
    by_payload : (o : Option Payload) → row.payload ≡ o → is_some o ≡ true
        → (change : Change) × (option_map (λ payload. PayloadPut (payload_put_of row number payload)) row.payload ≡ Some change)
        × (payload_changes (sealed_row number row) (sealed_row number row).payload ≡ change ∷ [])
    by_payload None e is = absurd cc
    by_payload (Some payload) e is = (PayloadPut (payload_put_of row number payload), rw e refl, rw e refl)

-- the change of metadata that is there
pub metadata_given : (row : SecretRow) (pairs : List (List ℕ × List ℕ)) → false ≡ (length pairs == 0) → metadata_changes row pairs ≡ MetadataPut (metadata_put_of row) ∷ []
metadata_given row [] some = absurd cc
metadata_given row (pair ∷ pairs) some = refl

pub none_there : {A : Type 0} (xs : List A) → length xs ≡ 0 → xs ≡ []
none_there [] e = refl
none_there (x ∷ xs) e = absurd (omega (arith, e))

-- The first change of seven lists, one after the other. The second may be another after it is empty.
module _ (a b b' c d e f g : List Change) where
  abbrev pub all : (x1 x2 x3 x4 x5 x6 x7 : List Change) → List Change
  all x1 x2 x3 x4 x5 x6 x7 = x1 ++ x2 ++ x3 ++ x4 ++ x5 ++ x6 ++ x7

  pub first : (x : Change) (rest : List Change) → a ≡ x ∷ rest → all a b c d e f g ≡ x ∷ all rest b c d e f g
  first x rest is = rw is refl

  pub second : (x : Change) → a ≡ [] → b ≡ x ∷ b' → all a b c d e f g ≡ x ∷ all a b' c d e f g
  second x none is = rw (none, is) refl

  pub third : (x : Change) (rest : List Change) → a ≡ [] → b ≡ [] → b' ≡ [] → c ≡ x ∷ rest → all a b c d e f g ≡ x ∷ all a b' rest d e f g
  third x rest none empty after is = rw (none, empty, after, is) refl

  pub fourth : (x : Change) (rest : List Change) → a ≡ [] → b ≡ [] → b' ≡ [] → c ≡ [] → d ≡ x ∷ rest → all a b c d e f g ≡ x ∷ all a b' c rest e f g
  fourth x rest none empty after three is = rw (none, empty, after, three, is) refl

  pub fifth : (x : Change) (rest : List Change) → a ≡ [] → b ≡ [] → b' ≡ [] → c ≡ [] → d ≡ [] → e ≡ x ∷ rest → all a b c d e f g ≡ x ∷ all a b' c d rest f g
  fifth x rest none empty after three four is = rw (none, empty, after, three, four, is) refl

  pub sixth : (x : Change) (rest : List Change) → a ≡ [] → b ≡ [] → b' ≡ [] → c ≡ [] → d ≡ [] → e ≡ [] → f ≡ x ∷ rest → all a b c d e f g ≡ x ∷ all a b' c d e rest g
  sixth x rest none empty after three four five is = rw (none, empty, after, three, four, five, is) refl

  pub seventh : (x : Change) (rest : List Change) → a ≡ [] → b ≡ [] → b' ≡ [] → c ≡ [] → d ≡ [] → e ≡ [] → f ≡ [] → g ≡ x ∷ rest → all a b c d e f g ≡ x ∷ all a b' c d e f rest
  seventh x rest none empty after three four five six is = rw (none, empty, after, three, four, five, six, is) refl

  pub nothing : a ≡ [] → b ≡ [] → b' ≡ [] → c ≡ [] → d ≡ [] → e ≡ [] → f ≡ [] → g ≡ [] → (all a b c d e f g ≡ []) × (all a b' c d e f g ≡ [])
  nothing none empty after three four five six seven = (rw (none, empty, three, four, five, six, seven) refl, rw (none, after, three, four, five, six, seven) refl)
