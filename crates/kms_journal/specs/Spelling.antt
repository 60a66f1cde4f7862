-- How a file of a store is spelled that has a snapshot and no records.
use Rattle.std.specs.Prelude.{List, [], ◌∷◌, ◌++◌, ℕ}
use Rattle.std.specs.Int.{w64, to_be_bytes}
use Rattle.kms_journal.specs.Header.{letters}
use Rattle.kms_journal.specs.declared.header.Header.{Header}

-- the 49 bytes of a header after the first commit mark
unfoldable pub header_rest : Header → List ℕ
header_rest h =
    letters ++ 1 ∷ (to_be_bytes w64 h.generation ++ to_be_bytes w64 h.tag ++ to_be_bytes w64 h.ids ++ to_be_bytes w64 h.steps ++ to_be_bytes w64 h.snapshot)

-- the bytes after the first commit mark: the rest of the header, the snapshot, and a clear commit mark
abbrev pub file_rest : Header → List ℕ → List ℕ
file_rest h snapshot = header_rest h ++ snapshot ++ 0 ∷ []
