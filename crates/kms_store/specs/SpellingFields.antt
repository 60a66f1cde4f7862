-- What is left of the spelling of a snapshot's changes.
use Rattle.std.specs.Prelude.{ℕ, List, ◌++◌, drop}
use Rattle.std.specs.List.{flat_map, AllByRecursion}
use Rattle.kms_record.specs.Grammar.{IsChange, change_bytes}
use Rattle.kms_store.specs.RowsLeft.{changes_left}
use Rattle.kms_store.specs.Spelling.{bytes_given, IsBegun}
use Rattle.kms_store.specs.declared.spelling.Spelling.TheInside.{Inside}

abbrev pub spelled_left : Inside → List ℕ
spelled_left s = drop s.from (bytes_given s.change) ++ flat_map change_bytes (changes_left s.rows)

pub record IsSpelling (s : Inside) : Type 0 where
  pub begun : IsBegun s.change s.from (changes_left s.rows)
  pub each : AllByRecursion IsChange (changes_left s.rows)
