use Rattle.std.proofs.Common.{◌∙◌, ap, cond, length, take, min}
use Rattle.std.specs.Prelude.{ℕ, List, Bool}
use Rattle.kms_host.specs.Disk.{after_cut}
use Rattle.kms_host.proofs.RecordingLaws.{failed_cut}
use Rattle.kms_host.proofs.memory.store.cut.Goals as goal

pub returns-then-refused-clause-notes : goal.returns-then-refused-clause-notes
returns-then-refused-clause-notes c =
    failed_cut c.args.file c.args.size c.min-place.result c.as_slice-then-refused.result.now c.args.kept.now c.cut.new.self c.cut_not.result _ c.args.log.now c.note.new.self
    c.cut_not.ensures c.note.ensures c.as_slice.ensures.image c.as_slice-then-refused.ensures.value
    (c.cut.ensures ∙ ap (λ (b : Bool). after_cut c.args.kept.now c.min-place.result (cond b c.args.kept.now.reads (take c.min-place.result c.args.kept.now.reads))) c.if-refused.true)
    (c.min-place.ensures ∙ ap (λ (l : List ℕ). min c.args.size (length l)) c.as_slice.ensures.value)
