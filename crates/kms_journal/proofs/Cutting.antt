-- A cut that is synced, at each moment.
use Rattle.std.proofs.Common.{◌≡◌, ℕ, ◌+◌, List, take, refl, sym, ◌∙◌, ap, subst, arith, Bool, true, false, cond}
use Rattle.std.specs.Prelude.{Option, None, unwrap_or}
use Rattle.kms_host.specs.History.{History, then_call}
use Rattle.kms_host.specs.Disk.{disk, reads, at_rest, after_cut, MayLeave, Cut}
use Rattle.kms_host.specs.Store.{others, syncs}
use Rattle.kms_host.specs.Moment.{Throughout}
use Rattle.kms_host.specs.declared.call.Call.TheVariants.{OnFile}
use Rattle.kms_host.specs.declared.call.FileCall.TheVariants.{CutTo, Synced}
use Rattle.kms_host.proofs.DiskLaws.{only_image, is_image, torn_cut, cut_nothing, cut_reads, disk_there, disk_elsewhere}
use Rattle.kms_host.proofs.Moments.{started, goes_on}
use Rattle.kms_journal.specs.Device.{HasPlace, IsQuiet, IsCutting}

module _ (file size : ℕ) where
  at_first : (was : History) → HasPlace file size was → IsCutting file size was was
  at_first was can = record {
    cut = λ quiet image left.
        let same : image ≡ reads file was = only_image (reads file was) image (subst (λ d. MayLeave d image) quiet left) in
        subst (λ bytes. Cut size (reads file was) bytes) (sym same) (cut_nothing size (reads file was) can.within);
    other = λ f ne. refl;
    others = refl;
    syncs = omega arith;
  }

  begun : (was now : History) (left : Option (List ℕ)) → HasPlace file size was → now ≡ then_call was (OnFile file (CutTo size left)) → IsCutting file size was now
  begun was now left can is =
      let after = unwrap_or left (take size (reads file was)) in
      record {
        cut = λ quiet image may.
            let made : disk file now ≡ after_cut (at_rest (reads file was)) size after =
            ap (disk file) is ∙ disk_there was file (CutTo size left) ∙ ap (λ d. after_cut d size after) quiet in
            torn_cut (reads file was) size after image can.within (subst (λ d. MayLeave d image) made may);
        other = λ f ne. ap (disk f) is ∙ disk_elsewhere was file f (CutTo size left) ne;
        others = ap others is;
        syncs = let same : syncs now.calls ≡ syncs was.calls = ap (λ (h : History). syncs h.calls) is in omega (arith, same);
      }

  -- the first call
  pub record IsCut (was now : History) : Type 0 where
    pub during : Throughout (IsCutting file size was) was now
    pub last : IsCutting file size was now
    pub syncs : syncs now.calls ≡ syncs was.calls

  pub was_cut : (was now : History) (left : Option (List ℕ)) → HasPlace file size was → now ≡ then_call was (OnFile file (CutTo size left)) → IsCut was now
  was_cut was now left can is = record {
    during = goes_on (IsCutting file size was) was was now (OnFile file (CutTo size left)) (started (IsCutting file size was) was (at_first was can)) is (begun was now left can is);
    last = begun was now left can is;
    syncs = ap (λ (h : History). syncs h.calls) is;
  }

  -- and done
  pub record IsDone (was now : History) : Type 0 where
    pub cut : IsCut was now
    pub reads_are : reads file now ≡ take size (reads file was)
    pub image : IsQuiet file was → MayLeave (disk file now) (reads file now)

  pub done : (was now : History) (left : Option (List ℕ)) → HasPlace file size was → now ≡ then_call was (OnFile file (CutTo size left)) → left ≡ None → IsDone was now
  done was now left can is all =
      let read : reads file now ≡ take size (reads file was) =
      ap (reads file) is ∙ ap (λ d. d.reads) (disk_there was file (CutTo size left)) ∙ ap (λ l. unwrap_or l (take size (reads file was))) all in
      let made : after_cut (disk file was) size (unwrap_or left (take size (reads file was))) ≡ disk file now = sym (ap (disk file) is ∙ disk_there was file (CutTo size left)) in
      record {
        cut = was_cut was now left can is;
        reads_are = read;
        image = λ quiet.
            let here : MayLeave (disk file was) (reads file was) = subst (λ d. MayLeave d (reads file was)) (sym quiet) (is_image (reads file was)) in
            subst (λ bytes. MayLeave (disk file now) bytes) (sym read)
            (subst (λ d. MayLeave d (take size (reads file was))) made (cut_reads (disk file was) size (unwrap_or left (take size (reads file was))) can.within here));
      }

  -- the second call
  syncing : (was mid now : History) (ok : Bool) → IsDone was mid → now ≡ then_call mid (OnFile file (Synced ok)) → IsCutting file size was now
  syncing was mid now ok d is = record {
    cut = λ quiet image may. cut_of ok quiet image (subst (λ x. MayLeave x image) (ap (disk file) is ∙ disk_there mid file (Synced ok)) may);
    other = λ f ne. ap (disk f) is ∙ disk_elsewhere mid file f (Synced ok) ne ∙ d.cut.last.other f ne;
    others = ap others is ∙ d.cut.last.others;
    syncs = let more : syncs now.calls ≡ syncs mid.calls + 1 = ap (λ (h : History). syncs h.calls) is in omega (arith, more, d.cut.syncs);
  }
    where
      cut_of : (ok : Bool) → IsQuiet file was → (image : List ℕ) → MayLeave (cond ok (at_rest (reads file mid)) (disk file mid)) image → Cut size (reads file was) image
      cut_of true quiet image may = subst (λ bytes. Cut size (reads file was) bytes) (sym (only_image (reads file mid) image may)) (d.cut.last.cut quiet (reads file mid) (d.image quiet))
      cut_of false quiet image may = d.cut.last.cut quiet image may

  pub synced : (was mid now : History) (ok : Bool) → IsDone was mid → now ≡ then_call mid (OnFile file (Synced ok)) → Throughout (IsCutting file size was) was now
  synced was mid now ok d is = goes_on (IsCutting file size was) was mid now (OnFile file (Synced ok)) d.cut.during is (syncing was mid now ok d is)

  pub on_disk : (was mid now : History) → IsDone was mid → now ≡ then_call mid (OnFile file (Synced true)) → disk file now ≡ at_rest (take size (reads file was))
  on_disk was mid now d is = ap (disk file) is ∙ disk_there mid file (Synced true) ∙ ap at_rest d.reads_are
