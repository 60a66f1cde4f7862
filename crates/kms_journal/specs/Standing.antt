-- What the two files of a store stand for.
--
-- A file is its header, a snapshot, a commit mark, and then for each record its length in 4 bytes, its bytes, and the
-- next commit mark. A commit mark is set where its byte is 1 and isn't the file's last. The records count up to the
-- first commit mark that isn't set, whatever stands after it.
use Rattle.std.specs.Prelude.{ℕ, zero, suc, ◌+◌, List, [], ◌∷◌, ◌++◌, length, take, drop, Bool, true, false, ◌==◌, ◌&&◌, nat_lt, if◌then◌else◌, Option, Some, None}
use Rattle.std.specs.Int.{w32, from_be_bytes}
use Rattle.kms_journal.specs.Header.{number_in, is_header, is_in_range, snapshot_len}

-- What one file stands for.
pub record Standing : Type 0 where
  pub file : ℕ
  pub generation : ℕ
  pub tag : ℕ
  pub ids : ℕ
  pub steps : ℕ
  pub snapshot : List ℕ
  -- each with the place of the commit mark before it
  pub records : List (ℕ × List ℕ)
  -- the place of the first commit mark that isn't set, or that has no whole record after it
  pub stop : ℕ
  -- it is one that isn't set
  pub is_whole : Bool

-- the records from a commit mark on, and where they stop
pub record Records : Type 0 where
  pub items : List (ℕ × List ℕ)
  pub stop : ℕ
  pub is_whole : Bool

-- the commit mark at the begin of these bytes is set
abbrev pub is_set : List ℕ → Bool
is_set (mark ∷ next ∷ rest) = mark == 1
is_set rest = false

-- after it: the length of a record, and the record
abbrev pub record_len : List ℕ → ℕ
record_len rest = from_be_bytes w32 (take 4 (drop 1 rest))

abbrev pub record_in : List ℕ → List ℕ
record_in rest = take (record_len rest) (drop 5 rest)

-- the length, the record and the commit mark after it lie in the file
abbrev pub is_record_whole : List ℕ → Bool
is_record_whole rest = nat_lt (5 + record_len rest) (length rest)

abbrev pub stopped : ℕ → Bool → Records
stopped place is_whole = record { items = []; stop = place; is_whole = is_whole }

abbrev pub with_item : ℕ → List ℕ → Records → Records
with_item place item r = record { items = (place, item) ∷ r.items; stop = r.stop; is_whole = r.is_whole }

abbrev pub next_record : ℕ → List ℕ → Records → Records
next_record place rest more =
    if is_set rest then (if is_record_whole rest then with_item place (record_in rest) more else stopped place false) else stopped place true

-- The records of a file from the commit mark at a place on, where these bytes begin. Each takes five bytes at least, so
-- the number of bytes is a count that is large enough.
unfoldable pub records_from : ℕ → ℕ → List ℕ → Records
records_from zero place rest = stopped place true
records_from (suc count) place rest = next_record place rest (records_from count (place + 5 + record_len rest) (drop (5 + record_len rest) rest))

-- what a file of this header, snapshot and records stands for
abbrev pub headed : ℕ → List ℕ → List ℕ → Records → Standing
headed file head snapshot r = record {
  file = file;
  generation = number_in 10 head;
  tag = number_in 18 head;
  ids = number_in 26 head;
  steps = number_in 34 head;
  snapshot = snapshot;
  records = r.items;
  stop = r.stop;
  is_whole = r.is_whole;
}

-- the numbers are in range, and the snapshot and the commit mark after it lie in the file
abbrev pub is_based : List ℕ → List ℕ → Bool
is_based head bytes = is_in_range head && nat_lt (50 + snapshot_len head) (length bytes)

unfoldable pub standing_from : ℕ → List ℕ → List ℕ → Standing
standing_from file head bytes =
    if is_based head bytes
    then headed file head (take (snapshot_len head) (drop 50 bytes))
    (records_from (length bytes) (50 + snapshot_len head) (drop (50 + snapshot_len head) bytes))
    else headed file head [] (stopped 0 false)

-- What a file stands for: nothing, if its first commit mark isn't set or its header isn't whole.
unfoldable pub standing : ℕ → List ℕ → Option Standing
standing file bytes = if is_header (take 50 bytes) && nat_lt 50 (length bytes) then Some (standing_from file (take 50 bytes) bytes) else None

-- the one of the greater generation, and the first where they are equal
abbrev pub newer : Option Standing → Option Standing → Option Standing
newer None b = b
newer (Some a) None = Some a
newer (Some a) (Some b) = if nat_lt a.generation b.generation then Some b else Some a

-- What the two files stand for: what the current one stands for. None is no store.
abbrev pub standing_of : List ℕ × List ℕ → Option Standing
standing_of files = newer (standing 0 files.0) (standing 1 files.1)

-- with one record more after the last, as the framed bytes have it
abbrev pub with_framed : Standing → List ℕ → Standing
with_framed s framed = record {
  file = s.file;
  generation = s.generation;
  tag = s.tag;
  ids = s.ids;
  steps = s.steps;
  snapshot = s.snapshot;
  records = s.records ++ (s.stop, record_in (1 ∷ framed)) ∷ [];
  stop = s.stop + length framed;
  is_whole = s.is_whole;
}
