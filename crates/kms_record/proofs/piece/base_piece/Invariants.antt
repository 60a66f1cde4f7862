use Rattle.std.proofs.Common.{◌-◌, drop}
use Rattle.kms_record.specs.Base.{base_bytes}
use Rattle.kms_record.proofs.PieceLaws.{IsCopied}
use Rattle.kms_record.proofs.piece.base_piece.Given as goal

abbrev pub invariant-loop-at : goal.invariant-loop-at
invariant-loop-at l = IsCopied (drop l.from (base_bytes l.change)) l.fn.room l.room l.at l.count

abbrev pub decreases-loop-at : goal.decreases-loop-at
decreases-loop-at l = l.count - l.at
