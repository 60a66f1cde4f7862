-- The change of metadata.
use Rattle.std.specs.Prelude.{ℕ, ◌<◌, ◌≤◌, ◌^◌, List, ◌++◌, length}
use Rattle.std.specs.List.{AllByRecursion}
use Rattle.std.specs.Str.{IsUtf8}
use Rattle.kms_world.specs.Pairs.{Ascends}
use Rattle.kms_world.specs.Times.{end_of_times}
use Rattle.kms_record.specs.declared.metadata.MetadataPut.{MetadataPut}
use Rattle.kms_record.specs.Fields.{u64_bytes, text_bytes, list_bytes, IsShort}

-- a key and its value
unfoldable pub pair_bytes : List ℕ × List ℕ → List ℕ
pair_bytes pair = text_bytes pair.0 ++ text_bytes pair.1

pub record IsPairInRange (pair : List ℕ × List ℕ) : Type 0 where
  pub key : IsShort pair.0
  pub value : IsShort pair.1

pub record ArePairsInRange (pairs : List (List ℕ × List ℕ)) : Type 0 where
  pub few : length pairs ≤ 100
  pub each : AllByRecursion IsPairInRange pairs

pub record IsPairTyped (pair : List ℕ × List ℕ) : Type 0 where
  pub key : IsUtf8 pair.0
  pub value : IsUtf8 pair.1

-- the texts are UTF-8, and the keys ascend
pub record ArePairsTyped (pairs : List (List ℕ × List ℕ)) : Type 0 where
  pub each : AllByRecursion IsPairTyped pairs
  pub ascending : Ascends pairs

-- its fields in their order
unfoldable pub metadata_put_bytes : MetadataPut → List ℕ
metadata_put_bytes put = u64_bytes put.secret ++ u64_bytes put.updated ++ list_bytes pair_bytes put.pairs

-- its numbers and lengths are in their ranges
pub record IsMetadataPutInRange (put : MetadataPut) : Type 0 where
  pub secret : put.secret < 2 ^ 62
  pub updated : put.updated < end_of_times
  pub pairs : ArePairsInRange put.pairs

-- what its fields' types say, in every value of the program
pub record IsMetadataPutTyped (put : MetadataPut) : Type 0 where
  pub pairs : ArePairsTyped put.pairs
