-- Each file as it reads is one of its crash images, after any calls.
use Rattle.std.proofs.Common.{◌≡◌, inl, inr, ℕ, List, [], ◌∷◌, ◌≤◌, length, take, sym, subst, Bool, true, false, cond}
use Rattle.std.specs.Prelude.{Option, Some, None, MatchOption, unwrap_or}
use Rattle.std.proofs.lemmas.Bool.Decides.{eqb_tells}
use Rattle.kms_host.specs.History.{History, then_call}
use Rattle.kms_host.specs.Disk.{Disk, disk, of_file, at_rest, put, after_write, after_cut, after_call, MayLeave}
use Rattle.kms_host.specs.Possible.{IsAllowed, IsAllowedOn, ReadsAnImage}
use Rattle.kms_host.specs.declared.call.Call.{Call}
use Rattle.kms_host.specs.declared.call.Call.TheVariants.{Text, Listened, Came, Attached, Took, Gave, Shut, OnFile, Told, Drew}
use Rattle.kms_host.specs.declared.call.FileCall.{FileCall}
use Rattle.kms_host.specs.declared.call.FileCall.TheVariants.{Measured, Read, Wrote, CutTo, Synced}
use Rattle.kms_host.proofs.DiskLaws.{is_image, write_reads, cut_reads, disk_there, disk_elsewhere}

abbrev Reads : ℕ → History → Type 0
Reads file h = MayLeave (disk file h) (disk file h).reads

same_disk : (d e : Disk) → d ≡ e → MayLeave e e.reads → MayLeave d d.reads
same_disk d e is m = subst (λ (x : Disk). MayLeave x x.reads) (sym is) m

by_left_write : (d : Disk) (at : ℕ) (piece : List ℕ) (left : Option (List ℕ)) → at ≤ length d.reads → MatchOption left (Unit {0}) (MayLeave (after_write d at piece d.reads)) → MayLeave d d.reads
    → MayLeave (after_write d at piece (unwrap_or left (put d.reads at piece))) (unwrap_or left (put d.reads at piece))
by_left_write d at piece None le u here = write_reads d at piece (put d.reads at piece) le here
by_left_write d at piece (Some after) le may here = record { no_shorter = may.no_shorter; no_longer = may.no_longer; stays = may.stays }

by_left_cut : (d : Disk) (size : ℕ) (left : Option (List ℕ)) → size ≤ length d.reads → MatchOption left (Unit {0}) (MayLeave (after_cut d size d.reads)) → MayLeave d d.reads
    → MayLeave (after_cut d size (unwrap_or left (take size d.reads))) (unwrap_or left (take size d.reads))
by_left_cut d size None le u here = cut_reads d size (take size d.reads) le here
by_left_cut d size (Some after) le may here = record { no_shorter = may.no_shorter; no_longer = may.no_longer; stays = may.stays }

by_done : (d : Disk) (done : Bool) → MayLeave d d.reads → MayLeave (cond done (at_rest d.reads) d) (cond done (at_rest d.reads) d).reads
by_done d true here = is_image d.reads
by_done d false here = here

pub call_reads : (file : ℕ) (h : History) (c : FileCall) → Reads file h → IsAllowedOn file h c → MayLeave (after_call (disk file h) c) (after_call (disk file h) c).reads
call_reads file h (Measured size) m ok = m
call_reads file h (Read at room bytes) m ok = m
call_reads file h (Wrote at piece left) m ok = by_left_write (disk file h) at piece left ok.0 ok.1 m
call_reads file h (CutTo size left) m ok = by_left_cut (disk file h) size left ok.0 ok.1 m
call_reads file h (Synced done) m ok = by_done (disk file h) done m

after_one : (file : ℕ) (h : History) (c : Call) → Reads file h → IsAllowed h c → Reads file (then_call h c)
after_one file h (Text name room bytes) m ok = m
after_one file h (Listened address done) m ok = m
after_one file h (Came line) m ok = m
after_one file h (Attached name done) m ok = m
after_one file h (Took l room bytes) m ok = m
after_one file h (Gave l piece went) m ok = m
after_one file h (Shut l) m ok = m
after_one file h (OnFile f c) m ok = elim (eqb_tells f file) [
  | inl p ↦ subst (λ (g : ℕ). Reads g (then_call h (OnFile f c))) p.1
      (same_disk _ _ (disk_there h f c) (call_reads f h c (subst (λ (g : ℕ). Reads g h) (sym p.1) m) ok))
  | inr p ↦ same_disk _ _ (disk_elsewhere h f file c p.1) m
]
after_one file h (Told t) m ok = m
after_one file h (Drew purpose bytes) m ok = m

pub reads_an_image : ReadsAnImage
reads_an_image opening key_files [] file all = is_image (of_file file opening)
reads_an_image opening key_files (c ∷ calls) file all =
    after_one file (record { opening = opening; key_files = key_files; calls = calls }) c (reads_an_image opening key_files calls file all.1) all.0
