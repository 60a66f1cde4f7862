-- Bytes that are read ahead of their use.
use Rattle.std.proofs.Common.{◌≡◌, ◌⊎◌, inl, inr, ℕ, ◌+◌, ◌-◌, ◌≤◌, min, List, [], ◌++◌, length, take, drop, sym, ◌∙◌, ap, arith, length-append, length-drop}
use Rattle.std.proofs.Math.Seq.{take-add}
use Rattle.std.proofs.lemmas.List.{drop-drop, drop-take, drop_all, take_all, take_min, take-take, length-take}
use Rattle.std.proofs.lemmas.Bool.{cases_lt}
use Rattle.kms_host.specs.History.{History, HasFirst}
use Rattle.kms_host.specs.Disk.{reads}
use Rattle.kms_host.specs.Moment.{Throughout}
use Rattle.kms_journal.specs.Ahead.{IsAhead}
use Rattle.kms_journal.specs.Device.{IsUntouched}
use Rattle.kms_journal.proofs.ReadingLaws.{same_reads}

-- a front of what the file has from there on
ahead_by : (file place n : ℕ) (held : List ℕ) (h : History) → held ≡ take n (drop place (reads file h)) → IsAhead file place held h
ahead_by file place n held h is =
    let rest = drop place (reads file h) in
    record { same = is ∙ sym (take_min n rest) ∙ ap (λ (k : ℕ). take k rest) (sym (ap length is ∙ length-take n rest)) }

pub ahead_none : (file place : ℕ) (held : List ℕ) (h : History) → held ≡ [] → IsAhead file place held h
ahead_none file place held h none = ahead_by file place 0 held h none

-- while the file isn't changed
pub ahead_later : (file place : ℕ) (held : List ℕ) (was mid : History) → Throughout (IsUntouched was) was mid → IsAhead file place held was → IsAhead file place held mid
ahead_later file place held was mid t a = record { same = a.same ∙ ap (λ (l : List ℕ). take (length held) (drop place l)) (sym (same_reads was mid t file)) }

pub ahead_before : (file place : ℕ) (held : List ℕ) (was mid : History) → Throughout (IsUntouched was) was mid → IsAhead file place held mid → IsAhead file place held was
ahead_before file place held was mid t a = record { same = a.same ∙ ap (λ (l : List ℕ). take (length held) (drop place l)) (same_reads was mid t file) }

-- without the first of them
pub ahead_skip : (file place n : ℕ) (held : List ℕ) (h : History) → IsAhead file place held h → IsAhead file (place + n) (drop n held) h
ahead_skip file place n held h a = elim (cases_lt (length held) n) [
  | inl short ↦ ahead_by file (place + n) 0 (drop n held) h (drop_all n held (omega (arith, short)))
  | inr le ↦
      let m = length held - n in
      let all = reads file h in
      let size : length held ≡ n + m = omega (arith, le) in
      ahead_by file (place + n) m (drop n held) h
      (ap (drop n) a.same ∙ ap (λ (k : ℕ). drop n (take k (drop place all))) size ∙ drop-take n m (drop place all) ∙ ap (take m) (drop-drop n place all))
]

-- with those that were read behind them
pub ahead_more : (file place n : ℕ) (held room : List ℕ) (h : History) → IsAhead file place held h → HasFirst (drop (place + length held) (reads file h)) room n → IsAhead file place (held ++ take n room) h
ahead_more file place n held room h a first =
    let k = length held in
    let rest = drop place (reads file h) in
    let behind : take n room ≡ take n (drop k rest) = first.same ∙ ap (take n) (sym (drop-drop k place (reads file h))) in
    ahead_by file place (k + n) (held ++ take n room) h
    (ap (λ (l : List ℕ). l ++ take n room) a.same ∙ ap (λ (l : List ℕ). take k rest ++ l) behind ∙ sym (take-add k n rest))

-- and what comes then is all that the file has, or fills the room
pub enough_more : (file place n needed : ℕ) (held room : List ℕ) (h : History) → HasFirst (drop (place + length held) (reads file h)) room n → length held + length room ≡ 65536 → needed ≤ 65536
    → min needed (length (drop place (reads file h))) ≤ length (held ++ take n room)
enough_more file place n needed held room h first size low =
    let all = reads file h in
    omega (arith, first.count, size, low, length-append held (take n room), length-take n room, length-drop place all, length-drop (place + length held) all)

-- the first of them are the first that the file has there
pub ahead_front : (file place m : ℕ) (held : List ℕ) (h : History) → IsAhead file place held h
    → take m held ≡ take (length (take m held)) (drop place (reads file h))
ahead_front file place m held h a =
    let rest = drop place (reads file h) in
    let n = length (take m held) in
    let le : n ≤ length held = omega (arith, length-take m held) in
    sym (take_min m held) ∙ ap (λ (k : ℕ). take k held) (sym (length-take m held)) ∙ ap (take n) a.same ∙ take-take n (length held) rest le

five_or_all : (needed size all held : ℕ) → size ≡ all → needed ≡ min size 5 → min needed all ≤ held → (5 ≤ held) ⊎ (all ≤ held)
five_or_all needed size all held is needed_is enough = elim (cases_lt all 5) [
  | inl short ↦ inr (omega (arith, is, needed_is, enough, short))
  | inr long ↦ inl (omega (arith, is, needed_is, enough, long))
]

-- so many of them as are needed are all of the first that the file has there
pub ahead_head : (file place needed size : ℕ) (held : List ℕ) (h : History) → IsAhead file place held h → size ≡ length (drop place (reads file h)) → needed ≡ min size 5
    → min needed (length (drop place (reads file h))) ≤ length held → take 5 held ≡ take 5 (drop place (reads file h))
ahead_head file place needed size held h a is needed_is enough =
    let rest = drop place (reads file h) in
    let k = length held in
    ap (take 5) a.same ∙ by_size (five_or_all needed size (length rest) k is needed_is enough)
  where
    by_size : (5 ≤ length held) ⊎ (length (drop place (reads file h)) ≤ length held) → take 5 (take (length held) (drop place (reads file h))) ≡ take 5 (drop place (reads file h))
    by_size (inl le) = take-take 5 (length held) (drop place (reads file h)) le
    by_size (inr le) = ap (take 5) (take_all (length held) (drop place (reads file h)) le)
