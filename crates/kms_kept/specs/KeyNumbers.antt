-- Keys stand by project and number, each at a number of at least 1; and no two keys of one project have the same.
use Rattle.std.specs.Prelude.{◌≡◌, ◌<◌, true, List, [], ◌∷◌}
use Rattle.std.specs.List.{AllByRecursion}
use Rattle.kms_record.specs.declared.key.WrappedKey.{WrappedKey}
use Rattle.kms_kept.specs.Kept.{is_key_below}

abbrev pub IsKeyBelow : WrappedKey → WrappedKey → Type 0
IsKeyBelow a b = is_key_below a b ≡ true

-- each key comes before all that stand after it
abbrev pub KeysAscend : List WrappedKey → Type 0
KeysAscend [] = Unit {0}
KeysAscend (first ∷ rest) = (0 < first.number) × AllByRecursion (IsKeyBelow first) rest × KeysAscend rest

abbrev pub StandApart : WrappedKey → WrappedKey → Type 0
StandApart a b = a.project ≡ b.project → a.number ≡ b.number → ⊥

-- no two keys of one project have the same number
abbrev pub KeysStandApart : List WrappedKey → Type 0
KeysStandApart [] = Unit {0}
KeysStandApart (first ∷ rest) = AllByRecursion (StandApart first) rest × KeysStandApart rest
