-- Reading changes nothing, at each moment.
use Rattle.std.proofs.Common.{◌≡◌, ℕ, List, refl, sym, ◌∙◌, ap}
use Rattle.std.specs.Prelude.{Option}
use Rattle.kms_host.specs.History.{History, then_call}
use Rattle.kms_host.specs.Disk.{Disk, disk, reads, files, at_rest}
use Rattle.kms_host.specs.Store.{IsAttached, others, syncs}
use Rattle.kms_host.specs.Moment.{Throughout}
use Rattle.kms_host.specs.declared.call.Call.TheVariants.{OnFile}
use Rattle.kms_host.specs.declared.call.FileCall.TheVariants.{Measured, Read}
use Rattle.kms_host.proofs.DiskLaws.{disk_same}
use Rattle.kms_host.proofs.Moments.{started, goes_on, joined, throughout_weaker, at_last}
use Rattle.kms_journal.specs.Cuts.{cuts}
use Rattle.kms_journal.specs.Device.{IsQuietStore, IsUntouched}
use Rattle.kms_journal.proofs.FileLaws.{still_attached}

pub untouched : (was : History) → IsUntouched was was
untouched was = record { disk = λ f. refl; others = refl; syncs = refl; cuts = refl }

pub untouched_then : (was mid now : History) → IsUntouched was mid → IsUntouched mid now → IsUntouched was now
untouched_then was mid now a b = record {
  disk = λ f. b.disk f ∙ a.disk f;
  others = b.others ∙ a.others;
  syncs = b.syncs ∙ a.syncs;
  cuts = b.cuts ∙ a.cuts;
}

measured : (was now : History) (file : ℕ) (size : Option ℕ) → now ≡ then_call was (OnFile file (Measured size)) → IsUntouched was now
measured was now file size is = record {
  disk = λ f. ap (disk f) is ∙ disk_same was file f (Measured size) (λ d. refl);
  others = ap others is;
  syncs = ap (λ (h : History). syncs h.calls) is;
  cuts = ap (λ (h : History). cuts h.calls) is;
}

read : (was now : History) (file at room : ℕ) (bytes : Option (List ℕ)) → now ≡ then_call was (OnFile file (Read at room bytes)) → IsUntouched was now
read was now file at room bytes is = record {
  disk = λ f. ap (disk f) is ∙ disk_same was file f (Read at room bytes) (λ d. refl);
  others = ap others is;
  syncs = ap (λ (h : History). syncs h.calls) is;
  cuts = ap (λ (h : History). cuts h.calls) is;
}

-- while the files are read
pub one_measure : (was now : History) (file : ℕ) (size : Option ℕ) → now ≡ then_call was (OnFile file (Measured size)) → Throughout (IsUntouched was) was now
one_measure was now file size is = goes_on (IsUntouched was) was was now (OnFile file (Measured size)) (started (IsUntouched was) was (untouched was)) is (measured was now file size is)

pub one_read : (was now : History) (file at room : ℕ) (bytes : Option (List ℕ)) → now ≡ then_call was (OnFile file (Read at room bytes)) → Throughout (IsUntouched was) was now
one_read was now file at room bytes is = goes_on (IsUntouched was) was was now (OnFile file (Read at room bytes)) (started (IsUntouched was) was (untouched was)) is (read was now file at room bytes is)

pub no_read : (was : History) → Throughout (IsUntouched was) was was
no_read was = started (IsUntouched was) was (untouched was)

pub reading_then : (was mid now : History) → Throughout (IsUntouched was) was mid → Throughout (IsUntouched mid) mid now → Throughout (IsUntouched was) was now
reading_then was mid now first second =
    joined (IsUntouched was) was mid now first
    (throughout_weaker (IsUntouched mid) (IsUntouched was) mid now (λ h u. untouched_then was mid h (at_last (IsUntouched was) was mid first) u) second)

pub same_reads : (was now : History) → Throughout (IsUntouched was) was now → (f : ℕ) → reads f now ≡ reads f was
same_reads was now t f = ap (λ (d : Disk). d.reads) ((at_last (IsUntouched was) was now t).disk f)

pub same_files : (was now : History) → IsUntouched was now → files now ≡ files was
same_files was now u =
    ap (λ (d : Disk). let x : List ℕ × List ℕ = (d.reads, reads 1 now) in x) (u.disk 0)
    ∙ ap (λ (d : Disk). let x : List ℕ × List ℕ = (reads 0 was, d.reads) in x) (u.disk 1)

pub quiet_after : (was now : History) → IsUntouched was now → IsQuietStore was → IsQuietStore now
quiet_after was now u quiet f low = u.disk f ∙ quiet f low ∙ ap (λ (d : Disk). at_rest d.reads) (sym (u.disk f))

pub attached_after : (was now : History) → Throughout (IsUntouched was) was now → IsAttached was → IsAttached now
attached_after was now t a = still_attached was now (at_last (IsUntouched was) was now t).others a
