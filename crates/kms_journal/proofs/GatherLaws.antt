-- Bytes read in pieces.
use Rattle.std.proofs.Common.{◌≡◌, ℕ, ◌+◌, ◌≤◌, ◌<◌, List, [], ◌++◌, length, take, drop, sym, ◌∙◌, ap, subst, arith, length-drop}
use Rattle.std.specs.Prelude.{Ok}
use Rattle.std.proofs.Math.Seq.{take-add}
use Rattle.std.proofs.lemmas.List.{drop-drop, length-take}
use Rattle.kms_host.specs.History.{History}
use Rattle.kms_host.specs.Disk.{reads}
use Rattle.kms_host.specs.Moment.{Throughout}
use Rattle.kms_journal.specs.Ahead.{IsAhead, Fills}
use Rattle.kms_journal.specs.Device.{IsUntouched}
use Rattle.kms_journal.proofs.AheadLaws.{ahead_later, ahead_before, ahead_front, ahead_skip}
use Rattle.kms_journal.proofs.ReadingLaws.{no_read, reading_then, same_reads}

-- so much of the part is read, and the buffer goes on behind it
pub record ReadsSoFar (file at size done : ℕ) (old new part : List ℕ) (was now : History) : Type 0 where
  pub throughout : Throughout (IsUntouched was) was now
  pub bytes : IsAhead file at old was → at + size ≤ length (reads file was) → part ≡ take done (drop at (reads file was))
  pub ahead : IsAhead file at old was → at + size ≤ length (reads file was) → IsAhead file (at + done) new was

pub reads_nothing : (file at size : ℕ) (old part : List ℕ) (was : History) → part ≡ [] → ReadsSoFar file at size 0 old old part was was
reads_nothing file at size old part was none = record {
  throughout = no_read was;
  bytes = λ a long. none;
  ahead = λ a long. subst (λ (p : ℕ). IsAhead file p old was) (omega arith) a;
}

module _ {T E : Type 0} (file at size done most : ℕ) (old held new part : List ℕ) (x : T) (was mid now : History) (so_far : ReadsSoFar file at size done old held part was mid) (fill : Fills {T = T} {E = E} file (at + done) 1 held new (Ok x) mid now) (more : done < size) (some : 0 < most) where
  through : Throughout (IsUntouched was) was now
  through = reading_then was mid now so_far.throughout fill.throughout

  piece : List ℕ
  piece = take most new

  here : IsAhead file at old was → at + size ≤ length (reads file was) → IsAhead file (at + done) new was
  here a long =
      ahead_before file (at + done) new was mid so_far.throughout
      (fill.ahead (ahead_later file (at + done) held was mid so_far.throughout (so_far.ahead a long)))

  -- something came
  pub some_read : IsAhead file at old was → at + size ≤ length (reads file was) → 0 < length (take most new)
  some_read a long =
      let there = fill.enough (ahead_later file (at + done) held was mid so_far.throughout (so_far.ahead a long)) in
      let same = same_reads was mid so_far.throughout file in
      omega (arith, there, length-take most new, length-drop (at + done) (reads file mid), ap length same, long, more, some)

  pub reads_on : ReadsSoFar file at size (done + length (take most new)) old (drop (length (take most new)) new) (part ++ take most new) was now
  reads_on = record {
    throughout = through;
    bytes = λ a long.
        let all = reads file was in
        let n = length (take most new) in
        let there : take most new ≡ take n (drop done (drop at all)) = ahead_front file (at + done) most new was (here a long) ∙ ap (take n) (sym (drop-drop done at all)) in
        ap (λ (l : List ℕ). l ++ take most new) (so_far.bytes a long) ∙ ap (λ (l : List ℕ). take done (drop at all) ++ l) there ∙ sym (take-add done n (drop at all));
    ahead = λ a long.
        let n = length (take most new) in
        subst (λ (p : ℕ). IsAhead file p (drop n new) was) (omega arith) (ahead_skip file (at + done) n new was (here a long));
  }
