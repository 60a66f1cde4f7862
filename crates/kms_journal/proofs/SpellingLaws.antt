-- What a file stands for that has a header, a snapshot and no records.
use Rattle.std.proofs.Common.{◌≡◌, ℕ, ◌+◌, ◌^◌, ◌≤◌, ◌<◌, List, [], ◌∷◌, ◌++◌, length, drop, refl, ◌∙◌, ap, arith, true, get_or, length-append}
use Rattle.std.specs.Prelude.{Some, nat_lt, nat_le}
use Rattle.std.proofs.lemmas.Nat.{from_be_bytes-to_be_bytes_8}
use Rattle.std.proofs.lemmas.Bool.{lt-ltb, le-leb, and_from}
use Rattle.std.proofs.lemmas.List.{take_at, drop_at, get_or_at}
use Rattle.kms_journal.specs.Header.{number_in, is_header, is_in_range, snapshot_len, letters}
use Rattle.kms_journal.specs.Spelling.{header_rest, file_rest}
use Rattle.kms_journal.specs.Standing.{Standing, Records, stopped, headed, standing}
use Rattle.kms_journal.specs.declared.header.Header.{Header}
use Rattle.kms_journal.proofs.RecordLaws.{clear_stops}
use Rattle.kms_journal.proofs.StandingLaws.{stands}

pub header_size : (h : Header) → length (header_rest h) ≡ 49
unfolding header_rest letters
header_size h = refl

-- the numbers of a header, as they are, and in range
pub record IsGood (h : Header) : Type 0 where
  pub generation : h.generation < 2 ^ 64
  pub some : 1 ≤ h.generation
  pub tag : h.tag < 2 ^ 60
  pub ids : h.ids ≤ 2 ^ 62
  pub steps : h.steps < 2 ^ 64
  pub snapshot : h.snapshot < 2 ^ 64

abbrev head : Header → List ℕ
head h = 1 ∷ header_rest h

module _ (h : Header) (good : IsGood h) where
  generation_is : number_in 10 (head h) ≡ h.generation
  unfolding header_rest letters
  generation_is = from_be_bytes-to_be_bytes_8 h.generation good.generation

  tag_is : number_in 18 (head h) ≡ h.tag
  unfolding header_rest letters
  tag_is = from_be_bytes-to_be_bytes_8 h.tag (omega (arith, good.tag))

  ids_are : number_in 26 (head h) ≡ h.ids
  unfolding header_rest letters
  ids_are = from_be_bytes-to_be_bytes_8 h.ids (omega (arith, good.ids))

  steps_are : number_in 34 (head h) ≡ h.steps
  unfolding header_rest letters
  steps_are = from_be_bytes-to_be_bytes_8 h.steps good.steps

  snapshot_is : snapshot_len (head h) ≡ h.snapshot
  unfolding header_rest letters snapshot_len
  snapshot_is = from_be_bytes-to_be_bytes_8 h.snapshot good.snapshot

  is_headed : is_header (head h) ≡ true
  unfolding is_header header_rest letters
  is_headed = ap (nat_le 1) generation_is ∙ le-leb 1 h.generation good.some

  in_range : is_in_range (head h) ≡ true
  unfolding is_in_range
  in_range = and_from _ _ (ap (λ (n : ℕ). nat_lt n (2 ^ 60)) tag_is ∙ lt-ltb h.tag (2 ^ 60) good.tag) (ap (λ (n : ℕ). nat_le n (2 ^ 62)) ids_are ∙ le-leb h.ids (2 ^ 62) good.ids)

-- what such a file stands for
abbrev pub spelled_standing : Header → List ℕ → Standing
spelled_standing h snapshot = record {
  file = h.file;
  generation = h.generation;
  tag = h.tag;
  ids = h.ids;
  steps = h.steps;
  snapshot = snapshot;
  records = [];
  stop = 50 + h.snapshot;
  is_whole = true;
}

pub spelled_stands : (h : Header) (snapshot : List ℕ) → IsGood h → h.snapshot ≡ length snapshot → standing h.file (1 ∷ file_rest h snapshot) ≡ Some (spelled_standing h snapshot)
spelled_stands h snapshot good size =
    let front = head h ++ snapshot in
    let top : length (head h) ≡ 50 = omega (arith, header_size h) in
    let front_size : length front ≡ 50 + snapshot_len (head h) = omega (arith, top, length-append (head h) snapshot, snapshot_is h good, size) in
    let stop : 50 + snapshot_len (head h) ≡ 50 + h.snapshot = ap (λ (n : ℕ). 50 + n) (snapshot_is h good) in
    stands h.file (head h) front (is_headed h good) (in_range h good) front_size (take_at (head h) snapshot 50 top) (0 ∷ []) (omega arith)
    ∙ ap (λ (r : Records). Some (headed h.file (head h) (drop 50 front) r)) (clear_stops 1 (50 + snapshot_len (head h)) (0 ∷ []) refl)
    ∙ ap (λ (l : List ℕ). Some (headed h.file (head h) l (stopped (50 + snapshot_len (head h)) true))) (drop_at (head h) snapshot 50 top)
    ∙ ap (λ (n : ℕ). Some (headed h.file (head h) snapshot (stopped n true))) stop
    ∙ ap (λ (n : ℕ). let s : Standing = record (headed h.file (head h) snapshot (stopped (50 + h.snapshot) true)) { generation = n } in Some s) (generation_is h good)
    ∙ ap (λ (n : ℕ). let s : Standing = record (headed h.file (head h) snapshot (stopped (50 + h.snapshot) true)) { generation = h.generation; tag = n } in Some s) (tag_is h good)
    ∙ ap (λ (n : ℕ). let s : Standing = record (headed h.file (head h) snapshot (stopped (50 + h.snapshot) true)) { generation = h.generation; tag = h.tag; ids = n } in Some s) (ids_are h good)
    ∙ ap (λ (n : ℕ). let s : Standing = record (spelled_standing h snapshot) { steps = n } in Some s) (steps_are h good)

pub spelled_size : (h : Header) (snapshot : List ℕ) → h.snapshot ≡ length snapshot → length (1 ∷ file_rest h snapshot) ≡ 51 + h.snapshot
spelled_size h snapshot size = omega (arith, header_size h, length-append (header_rest h) snapshot, length-append (header_rest h ++ snapshot) (0 ∷ []), size)

pub spelled_clear : (h : Header) (snapshot : List ℕ) → h.snapshot ≡ length snapshot → get_or (1 ∷ file_rest h snapshot) (50 + h.snapshot) 0 ≡ 0
spelled_clear h snapshot size = get_or_at (head h ++ snapshot) 0 [] 0 (50 + h.snapshot) (omega (arith, header_size h, length-append (head h) snapshot, size))
