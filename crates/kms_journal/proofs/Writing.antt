-- A write that is synced, at each moment.
use Rattle.std.proofs.Common.{◌≡◌, ℕ, ◌+◌, List, [], ◌∷◌, length, refl, sym, ◌∙◌, ap, subst, arith, Bool, true, false, cond}
use Rattle.std.specs.Prelude.{Option, None, unwrap_or}
use Rattle.kms_host.specs.History.{History, then_call}
use Rattle.kms_host.specs.Disk.{disk, reads, at_rest, put, after_write, MayLeave, Torn}
use Rattle.kms_host.specs.Store.{others, syncs}
use Rattle.kms_host.specs.Moment.{Throughout, then_calls}
use Rattle.kms_host.specs.declared.call.Call.TheVariants.{OnFile}
use Rattle.kms_host.specs.declared.call.FileCall.TheVariants.{Wrote, Synced}
use Rattle.kms_host.proofs.DiskLaws.{only_image, is_image, torn_write, torn_nothing, write_reads, disk_there, disk_elsewhere}
use Rattle.kms_host.proofs.Moments.{started, goes_on}
use Rattle.kms_journal.specs.Cuts.{cuts}
use Rattle.kms_journal.specs.Device.{HasPlace, IsQuiet, IsWriting}

module _ (file at : ℕ) (piece : List ℕ) where
  at_first : (was : History) → IsWriting file at (length piece) was was
  at_first was = record {
    torn = λ quiet image left.
        let same : image ≡ reads file was = only_image (reads file was) image (subst (λ d. MayLeave d image) quiet left) in
        subst (λ bytes. Torn at (length piece) (reads file was) bytes) (sym same) (torn_nothing at (length piece) (reads file was));
    other = λ f ne. refl;
    others = refl;
    syncs = omega arith;
    cuts = refl;
  }

  begun : (was now : History) (left : Option (List ℕ)) → HasPlace file at was → now ≡ then_call was (OnFile file (Wrote at piece left)) → IsWriting file at (length piece) was now
  begun was now left can is =
      let after = unwrap_or left (put (reads file was) at piece) in
      record {
        torn = λ quiet image may.
            let made : disk file now ≡ after_write (at_rest (reads file was)) at piece after =
            ap (disk file) is ∙ disk_there was file (Wrote at piece left) ∙ ap (λ d. after_write d at piece after) quiet in
            torn_write (reads file was) at piece after image can.within (subst (λ d. MayLeave d image) made may);
        other = λ f ne. ap (disk f) is ∙ disk_elsewhere was file f (Wrote at piece left) ne;
        others = ap others is;
        syncs = let same : syncs now.calls ≡ syncs was.calls = ap (λ (h : History). syncs h.calls) is in omega (arith, same);
        cuts = ap (λ (h : History). cuts h.calls) is;
      }

  -- the first call
  pub record IsWritten (was now : History) : Type 0 where
    pub during : Throughout (IsWriting file at (length piece) was) was now
    pub last : IsWriting file at (length piece) was now
    pub syncs : syncs now.calls ≡ syncs was.calls

  pub written : (was now : History) (left : Option (List ℕ)) → HasPlace file at was → now ≡ then_call was (OnFile file (Wrote at piece left)) → IsWritten was now
  written was now left can is = record {
    during = goes_on (IsWriting file at (length piece) was) was was now (OnFile file (Wrote at piece left)) (started (IsWriting file at (length piece) was) was (at_first was)) is (begun was now left can is);
    last = begun was now left can is;
    syncs = ap (λ (h : History). syncs h.calls) is;
  }

  -- and done
  pub record IsDone (was now : History) : Type 0 where
    pub written : IsWritten was now
    pub reads_are : reads file now ≡ put (reads file was) at piece
    pub image : IsQuiet file was → MayLeave (disk file now) (reads file now)
    pub call : now ≡ then_call was (OnFile file (Wrote at piece None))

  pub done : (was now : History) (left : Option (List ℕ)) → HasPlace file at was → now ≡ then_call was (OnFile file (Wrote at piece left)) → left ≡ None → IsDone was now
  done was now left can is all =
      let read : reads file now ≡ put (reads file was) at piece =
      ap (reads file) is ∙ ap (λ d. d.reads) (disk_there was file (Wrote at piece left)) ∙ ap (λ l. unwrap_or l (put (reads file was) at piece)) all in
      let made : after_write (disk file was) at piece (unwrap_or left (put (reads file was) at piece)) ≡ disk file now = sym (ap (disk file) is ∙ disk_there was file (Wrote at piece left)) in
      record {
        written = written was now left can is;
        reads_are = read;
        image = λ quiet.
            let here : MayLeave (disk file was) (reads file was) = subst (λ d. MayLeave d (reads file was)) (sym quiet) (is_image (reads file was)) in
            subst (λ bytes. MayLeave (disk file now) bytes) (sym read)
            (subst (λ d. MayLeave d (put (reads file was) at piece)) made (write_reads (disk file was) at piece (unwrap_or left (put (reads file was) at piece)) can.within here));
        call = is ∙ ap (λ (l : Option (List ℕ)). then_call was (OnFile file (Wrote at piece l))) all;
      }

  -- the second call
  syncing : (was mid now : History) (ok : Bool) → IsDone was mid → now ≡ then_call mid (OnFile file (Synced ok)) → IsWriting file at (length piece) was now
  syncing was mid now ok d is = record {
    torn = λ quiet image may. torn_of ok quiet image (subst (λ x. MayLeave x image) (ap (disk file) is ∙ disk_there mid file (Synced ok)) may);
    other = λ f ne. ap (disk f) is ∙ disk_elsewhere mid file f (Synced ok) ne ∙ d.written.last.other f ne;
    others = ap others is ∙ d.written.last.others;
    syncs = let more : syncs now.calls ≡ syncs mid.calls + 1 = ap (λ (h : History). syncs h.calls) is in omega (arith, more, d.written.syncs);
    cuts = ap (λ (h : History). cuts h.calls) is ∙ d.written.last.cuts;
  }
    where
      torn_of : (ok : Bool) → IsQuiet file was → (image : List ℕ) → MayLeave (cond ok (at_rest (reads file mid)) (disk file mid)) image → Torn at (length piece) (reads file was) image
      torn_of true quiet image may = subst (λ bytes. Torn at (length piece) (reads file was) bytes) (sym (only_image (reads file mid) image may)) (d.written.last.torn quiet (reads file mid) (d.image quiet))
      torn_of false quiet image may = d.written.last.torn quiet image may

  pub synced : (was mid now : History) (ok : Bool) → IsDone was mid → now ≡ then_call mid (OnFile file (Synced ok)) → Throughout (IsWriting file at (length piece) was) was now
  synced was mid now ok d is = goes_on (IsWriting file at (length piece) was) was mid now (OnFile file (Synced ok)) d.written.during is (syncing was mid now ok d is)

  pub on_disk : (was mid now : History) → IsDone was mid → now ≡ then_call mid (OnFile file (Synced true)) → disk file now ≡ at_rest (put (reads file was) at piece)
  on_disk was mid now d is = ap (disk file) is ∙ disk_there mid file (Synced true) ∙ ap at_rest d.reads_are

  pub calls_are : (was mid now : History) → IsDone was mid → now ≡ then_call mid (OnFile file (Synced true)) → now ≡ then_calls was (OnFile file (Synced true) ∷ OnFile file (Wrote at piece None) ∷ [])
  calls_are was mid now d is = is ∙ ap (λ (h : History). then_call h (OnFile file (Synced true))) d.call
