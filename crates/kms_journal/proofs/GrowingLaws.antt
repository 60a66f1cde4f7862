-- A file that grows after its first byte, at each moment.
use Rattle.std.proofs.Common.{◌≡◌, inl, ℕ, ◌+◌, ◌≤◌, ◌<◌, List, [], ◌++◌, length, take, drop, refl, sym, ◌∙◌, ap, subst, arith, append_assoc, length-append, length-drop}
use Rattle.std.specs.Prelude.{Option, None, Result, Ok, Err, unwrap_or}
use Rattle.std.proofs.lemmas.List.{take_all, drop_all, append-nil, take_at, drop_at, drop-drop}
use Rattle.std.proofs.Math.Seq.{take-add}
use Rattle.kms_host.specs.History.{History, then_call}
use Rattle.kms_host.specs.Disk.{Disk, disk, reads, put, after_write, IsOutside}
use Rattle.kms_host.specs.Store.{others, syncs}
use Rattle.kms_host.specs.Moment.{Throughout}
use Rattle.kms_host.specs.declared.call.Call.TheVariants.{OnFile}
use Rattle.kms_host.specs.declared.call.FileCall.TheVariants.{Wrote}
use Rattle.kms_host.proofs.DiskLaws.{disk_there, disk_elsewhere}
use Rattle.kms_host.proofs.Moments.{started, goes_on, joined, throughout_weaker, at_last}
use Rattle.kms_journal.specs.Cuts.{cuts}
use Rattle.kms_journal.specs.Renewal.{IsEnd, IsGrowing, Appends}
use Rattle.kms_journal.proofs.FileLaws.{still_attached}

growing_nothing : (file : ℕ) (was : History) → IsGrowing file was was
growing_nothing file was = record { base = refl; outside = λ o. o; shortest = refl; other = λ f ne. refl; others = refl; syncs = refl; cuts = refl }

growing_then : (file : ℕ) (was mid now : History) → IsGrowing file was mid → IsGrowing file mid now → IsGrowing file was now
growing_then file was mid now a b = record {
  base = b.base ∙ a.base;
  outside = λ o. b.outside (a.outside o);
  shortest = b.shortest ∙ a.shortest;
  other = λ f ne. b.other f ne ∙ a.other f ne;
  others = b.others ∙ a.others;
  syncs = b.syncs ∙ a.syncs;
  cuts = b.cuts ∙ a.cuts;
}

pub grown_then : (file : ℕ) (was mid now : History) → Throughout (IsGrowing file was) was mid → Throughout (IsGrowing file mid) mid now → Throughout (IsGrowing file was) was now
grown_then file was mid now first second =
    joined (IsGrowing file was) was mid now first
    (throughout_weaker (IsGrowing file mid) (IsGrowing file was) mid now (λ h g. growing_then file was mid h (at_last (IsGrowing file was) was mid first) g) second)

-- One write at the end.
module _ (file end : ℕ) (piece : List ℕ) (was now : History) (left : Option (List ℕ)) (some : 0 < end) (here : IsEnd file end was) (is : now ≡ then_call was (OnFile file (Wrote end piece left))) where
  made : disk file now ≡ after_write (disk file was) end piece (unwrap_or left (put (reads file was) end piece))
  made = ap (disk file) is ∙ disk_there was file (Wrote end piece left)

  growing : IsGrowing file was now
  growing = record {
    base = ap (λ (d : Disk). d.base) made;
    outside = λ o. subst (λ (d : Disk). IsOutside 0 d.ranges) (sym made) (inl some, o);
    shortest = ap (λ (d : Disk). d.shortest) made;
    other = λ f ne. ap (disk f) is ∙ disk_elsewhere was file f (Wrote end piece left) ne;
    others = ap others is;
    syncs = ap (λ (h : History). syncs h.calls) is;
    cuts = ap (λ (h : History). cuts h.calls) is;
  }

  during : Throughout (IsGrowing file was) was now
  during = goes_on (IsGrowing file was) was was now (OnFile file (Wrote end piece left)) (started (IsGrowing file was) was (growing_nothing file was)) is growing

  pub append_fails : {T E : Type 0} (e : E) → Appends {T = T} {E = E} file piece (Err e) was now
  append_fails e = record { throughout = during; done = tt }

  pub appended : {T E : Type 0} (x : T) → left ≡ None → Appends {T = T} {E = E} file piece (Ok x) was now
  appended x all = record {
    throughout = during;
    done =
        let bytes = reads file was in
        ap (λ (d : Disk). d.reads) made ∙ ap (λ (l : Option (List ℕ)). unwrap_or l (put bytes end piece)) all
        ∙ ap (λ (l : List ℕ). l ++ piece ++ drop (end + length piece) bytes) (take_all end bytes (omega (arith, here.size)))
        ∙ ap (λ (l : List ℕ). bytes ++ piece ++ l) (drop_all (end + length piece) bytes (omega (arith, here.size)))
        ∙ append-nil (bytes ++ piece);
  }

-- Nothing, and one piece after the other.
pub appended_nothing : {T E : Type 0} (file : ℕ) (x : T) (was : History) → Appends {T = T} {E = E} file [] (Ok x) was was
appended_nothing file x was = record { throughout = started (IsGrowing file was) was (growing_nothing file was); done = sym (append-nil (reads file was)) }

pub appended_then : {T E U D : Type 0} (file : ℕ) (first second : List ℕ) (x : T) (result : Result U D) (was mid now : History)
    → Appends {T = T} {E = E} file first (Ok x) was mid → Appends file second result mid now → Appends file (first ++ second) result was now
appended_then file first second x (Err e) was mid now a b = record { throughout = grown_then file was mid now a.throughout b.throughout; done = tt }
appended_then file first second x (Ok y) was mid now a b = record {
  throughout = grown_then file was mid now a.throughout b.throughout;
  done = b.done ∙ ap (λ (l : List ℕ). l ++ second) a.done ∙ append_assoc (reads file was) first second;
}

-- what was being written when it failed says nothing
pub fails_appending : {T E D : Type 0} (file : ℕ) (piece other : List ℕ) (d : D) (e : E) (was now : History) → Appends {T = T} {E = D} file piece (Err d) was now → Appends {T = T} {E = E} file other (Err e) was now
fails_appending file piece other d e was now a = record { throughout = a.throughout; done = tt }

pub appended_end : {T E : Type 0} (file end : ℕ) (piece : List ℕ) (x : T) (was now : History) → IsEnd file end was → Appends {T = T} {E = E} file piece (Ok x) was now → IsEnd file (end + length piece) now
appended_end file end piece x was now here a = record {
  attached = still_attached was now (at_last (IsGrowing file was) was now a.throughout).others here.attached;
  size = ap length a.done ∙ length-append (reads file was) piece ∙ ap (λ (n : ℕ). n + length piece) here.size;
}

-- A list that is given in pieces.

-- the next n of the rest
pub next_piece : (all front rest : List ℕ) (done : ℕ) → front ++ rest ≡ drop done all → done ≤ length all
    → (take (done + length front) all ≡ take done all ++ front) × (rest ≡ drop (done + length front) all) × (done + length front ≤ length all)
next_piece all front rest done is le = (
  take-add done (length front) all ∙ ap (λ (l : List ℕ). take done all ++ l) (ap (take (length front)) (sym is) ∙ take_at front rest (length front) refl),
  sym (drop_at front rest (length front) refl) ∙ ap (drop (length front)) is ∙ drop-drop (length front) done all,
  fits,
)
  where
    fits : done + length front ≤ length all
    fits = omega (arith, le, ap length is, length-append front rest, length-drop done all)
