use Rattle.std.proofs.Common.{take}
use Rattle.std.specs.List.{AllZip}
use Rattle.kms_sealing.proofs.OpeningLaws.{IsOf}
use Rattle.kms_sealing.proofs.opening.unwrapped.Given as goal

-- those unwrapped are of the rows so far
abbrev pub invariant-loop-row : goal.invariant-loop-row
invariant-loop-row l = AllZip (IsOf l.ring) (take l.row-index l.rows) l.keys.items
