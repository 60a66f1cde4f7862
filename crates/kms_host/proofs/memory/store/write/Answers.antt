use Rattle.std.proofs.Common.{◌∙◌, ap, subst, length, min}
use Rattle.std.specs.Prelude.{ℕ, List, Ok}
use Rattle.kms_host.specs.File.{HasWritten}
use Rattle.kms_host.specs.declared.memory.file.Written.{Written}
use Rattle.kms_host.proofs.RecordingLaws.{failed_write}
use Rattle.kms_host.proofs.memory.store.write.Goals as goal

pub returns-in-Ok-Refused-clause-notes : goal.returns-in-Ok-Refused-clause-notes
returns-in-Ok-Refused-clause-notes c =
    failed_write c.args.file c.args.at c.min-place.result c.args.piece.now c.as_slice-in-Ok-Refused.result.now c.args.kept.now c.write.new.self c.wrote_not.result _ c.args.log.now c.note-in-Ok-Refused.new.self
    c.wrote_not.ensures c.note-in-Ok-Refused.ensures c.as_slice.ensures.image c.as_slice-in-Ok-Refused.ensures.value
    (subst (λ (w : Written). HasWritten c.min-place.result c.args.piece.now (Ok w) c.args.kept.now c.write.new.self) c.in-Ok-Refused.field-0-is c.in-Ok-Refused.ensures.after)
    (c.min-place.ensures ∙ ap (λ (l : List ℕ). min c.args.at (length l)) c.as_slice.ensures.value)

pub returns-in-Ok-Starved-clause-notes : goal.returns-in-Ok-Starved-clause-notes
returns-in-Ok-Starved-clause-notes c =
    failed_write c.args.file c.args.at c.min-place.result c.args.piece.now c.as_slice-in-Ok-Starved.result.now c.args.kept.now c.write.new.self c.wrote_not-in-Ok-Starved.result _ c.args.log.now c.note-in-Ok-Starved.new.self
    c.wrote_not-in-Ok-Starved.ensures c.note-in-Ok-Starved.ensures c.as_slice.ensures.image c.as_slice-in-Ok-Starved.ensures.value
    (subst (λ (w : Written). HasWritten c.min-place.result c.args.piece.now (Ok w) c.args.kept.now c.write.new.self) c.in-Ok-Starved.field-0-is c.in-Ok-Starved.ensures.after)
    (c.min-place.ensures ∙ ap (λ (l : List ℕ). min c.args.at (length l)) c.as_slice.ensures.value)
