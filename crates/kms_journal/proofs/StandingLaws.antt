-- What a file stands for depends on what stands before the first mark that isn't set, and on that mark.
use Rattle.std.proofs.Common.{◌≡◌, ◌≢◌, ℕ, ◌+◌, ◌<◌, List, [], ◌++◌, length, take, drop, refl, sym, ◌∙◌, ap, arith, Bool, true, false, cond, append_assoc, length-append, length-drop, take-append-drop}
use Rattle.std.specs.Prelude.{Some, None, ◌&&◌, nat_lt}
use Rattle.std.proofs.lemmas.List.{drop-append-le, take-append-le, drop_at, take_at, length-take-le, take-take}
use Rattle.std.proofs.lemmas.Bool.{lt-ltb, ltb-true, false≢true, and_parts, and_from}
use Rattle.std.proofs.lemmas.Option.{cond_some}
use Rattle.kms_journal.specs.Standing.{Standing, Records, is_based, is_set, stopped, records_from, headed, standing_from, standing}
use Rattle.kms_journal.specs.Header.{is_header, is_in_range, snapshot_len}
use Rattle.kms_journal.proofs.RecordLaws.{front_of, same_count}

-- the standing with these records behind its own
abbrev pub extended : Standing → Records → Standing
extended c r = record {
  file = c.file;
  generation = c.generation;
  tag = c.tag;
  ids = c.ids;
  steps = c.steps;
  snapshot = c.snapshot;
  records = c.records ++ r.items;
  stop = r.stop;
  is_whole = r.is_whole;
}

pub record FileFront (file : ℕ) (bytes : List ℕ) (c : Standing) : Type 0 where
  pub front : List ℕ
  pub back : List ℕ
  pub split : bytes ≡ front ++ back
  pub some : 0 < length back
  pub clear : is_set back ≡ false
  pub stop_is : c.stop ≡ length front
  pub again : (tail : List ℕ) → 0 < length tail → standing file (front ++ tail) ≡ Some (extended c (records_from (length tail) c.stop tail))

-- a header and a snapshot, with records behind them
module _ (file : ℕ) (head front : List ℕ) (header : is_header head ≡ true) (range : is_in_range head ≡ true) (size : length front ≡ 50 + snapshot_len head) (head_is : take 50 front ≡ head) where
  take_head : (rest : List ℕ) → take 50 (front ++ rest) ≡ head
  take_head rest = take-append-le 50 front rest (omega (arith, size)) ∙ head_is

  snapshot_is : (rest : List ℕ) → take (snapshot_len head) (drop 50 (front ++ rest)) ≡ drop 50 front
  snapshot_is rest = ap (take (snapshot_len head)) (drop-append-le 50 front rest (omega (arith, size))) ∙ take_at (drop 50 front) rest (snapshot_len head) (omega (arith, size, length-drop 50 front))

  standing_is : (rest : List ℕ) → 0 < length rest → standing_from file head (front ++ rest) ≡ headed file head (drop 50 front) (records_from (length rest) (50 + snapshot_len head) rest)
  unfolding standing_from
  standing_is rest some =
      let bytes = front ++ rest in
      let long : 50 + snapshot_len head < length bytes = omega (arith, size, length-append front rest, some) in
      let based : is_based head bytes ≡ true = and_from _ _ range (lt-ltb (50 + snapshot_len head) (length bytes) long) in
      let same : records_from (length bytes) (50 + snapshot_len head) (drop (50 + snapshot_len head) bytes) ≡ records_from (length rest) (50 + snapshot_len head) rest =
      ap (records_from (length bytes) (50 + snapshot_len head)) (drop_at front rest (50 + snapshot_len head) size)
      ∙ same_count (length bytes) (length rest) (50 + snapshot_len head) rest (omega (arith, length-append front rest)) (omega arith) in
      ap (λ (b : Bool). cond b (headed file head (take (snapshot_len head) (drop 50 bytes)) (records_from (length bytes) (50 + snapshot_len head) (drop (50 + snapshot_len head) bytes))) (headed file head [] (stopped 0 false))) based
      ∙ ap (λ (l : List ℕ). headed file head l (records_from (length bytes) (50 + snapshot_len head) (drop (50 + snapshot_len head) bytes))) (snapshot_is rest)
      ∙ ap (headed file head (drop 50 front)) same

  pub stands : (rest : List ℕ) → 0 < length rest → standing file (front ++ rest) ≡ Some (headed file head (drop 50 front) (records_from (length rest) (50 + snapshot_len head) rest))
  unfolding standing
  stands rest some =
      let bytes = front ++ rest in
      let test : (is_header (take 50 bytes) && nat_lt 50 (length bytes)) ≡ true =
      and_from _ _ (ap is_header (take_head rest) ∙ header) (lt-ltb 50 (length bytes) (omega (arith, size, length-append front rest, some))) in
      ap (λ (b : Bool). cond b (Some (standing_from file (take 50 bytes) bytes)) None) test
      ∙ ap (λ (h : List ℕ). Some (standing_from file h bytes)) (take_head rest)
      ∙ ap Some (standing_is rest some)

-- what a file that stands for a whole store is made of
chosen : {A : Type 0} (b : Bool) (x y z : A) → cond b x y ≡ z → (y ≢ z) → b ≡ true
chosen true x y z is ne = refl
chosen false x y z is ne = absurd (ne is)

pub record Headed (file : ℕ) (bytes : List ℕ) (c : Standing) : Type 0 where
  pub front : List ℕ
  pub rest : List ℕ
  pub head : List ℕ
  pub split : bytes ≡ front ++ rest
  pub some : 0 < length rest
  pub header : is_header head ≡ true
  pub range : is_in_range head ≡ true
  pub size : length front ≡ 50 + snapshot_len head
  pub head_is : take 50 front ≡ head
  pub is : c ≡ headed file head (drop 50 front) (records_from (length rest) (50 + snapshot_len head) rest)

some_is : {A : Type 0} (x y : A) → Some x ≡ Some y → x ≡ y
some_is x y e = cc

pub headed_of : (file : ℕ) (bytes : List ℕ) (c : Standing) → standing file bytes ≡ Some c → c.is_whole ≡ true → Headed file bytes c
unfolding standing standing_from
headed_of file bytes c is whole =
    let head = take 50 bytes in
    let parts = cond_some (is_header (take 50 bytes) && nat_lt 50 (length bytes)) (standing_from file (take 50 bytes) bytes) c is in
    let tests = and_parts (is_header (take 50 bytes)) (nat_lt 50 (length bytes)) parts.0 in
    let based : is_based head bytes ≡ true = chosen (is_based head bytes) _ (headed file head [] (stopped 0 false)) c parts.1 (λ e. false≢true (ap (λ (x : Standing). x.is_whole) e ∙ whole)) in
    let in_base = and_parts (is_in_range head) (nat_lt (50 + snapshot_len head) (length bytes)) based in
    let long : 50 + snapshot_len head < length bytes = ltb-true (50 + snapshot_len head) (length bytes) in_base.1 in
    let front = take (50 + snapshot_len head) bytes in
    let rest = drop (50 + snapshot_len head) bytes in
    let split : bytes ≡ front ++ rest = sym (take-append-drop (50 + snapshot_len head) bytes) in
    let some : 0 < length rest = omega (arith, long, length-drop (50 + snapshot_len head) bytes) in
    let size : length front ≡ 50 + snapshot_len head = length-take-le (50 + snapshot_len head) bytes (omega (arith, long)) in
    let head_is : take 50 front ≡ head = take-take 50 (50 + snapshot_len head) bytes (omega arith) in
    record {
      front = front;
      rest = rest;
      head = head;
      split = split;
      some = some;
      header = tests.0;
      range = in_base.0;
      size = size;
      head_is = head_is;
      is = some_is c _ (sym is ∙ ap (standing file) split ∙ stands file head front tests.0 in_base.0 size head_is rest some);
    }

pub file_front : (file : ℕ) (bytes : List ℕ) (c : Standing) → standing file bytes ≡ Some c → c.is_whole ≡ true → FileFront file bytes c
file_front file bytes c is whole =
    let h = headed_of file bytes c is whole in
    let place = 50 + snapshot_len h.head in
    let rs = records_from (length h.rest) place h.rest in
    let f = front_of (length h.rest) place h.rest h.some (omega arith) (sym (ap (λ (x : Standing). x.is_whole) h.is) ∙ whole) in
    record {
      front = h.front ++ f.front;
      back = f.back;
      split = h.split ∙ ap (λ (l : List ℕ). h.front ++ l) f.split ∙ sym (append_assoc h.front f.front f.back);
      some = f.some;
      clear = f.clear;
      stop_is = ap (λ (x : Standing). x.stop) h.is ∙ omega (arith, f.stop_is, h.size, length-append h.front f.front);
      again = λ tail some.
          ap (standing file) (append_assoc h.front f.front tail)
          ∙ stands file h.head h.front h.header h.range h.size h.head_is (f.front ++ tail) (omega (arith, some, length-append f.front tail))
          ∙ ap (λ (r : Records). Some (headed file h.head (drop 50 h.front) r)) (f.again tail (length (f.front ++ tail)) (length tail) some (omega arith) (omega arith))
          ∙ ap (λ (x : Standing). Some (extended x (records_from (length tail) x.stop tail))) (sym h.is);
    }
