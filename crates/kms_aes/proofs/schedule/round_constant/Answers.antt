use Rattle.std.proofs.Common.{◌-◌, arith}
use Rattle.kms_aes.proofs.ScheduleLaws.{constant_entry}
use Rattle.kms_aes.proofs.schedule.round_constant.Goals as goal

pub returns : goal.returns
returns c = let first = c.requires.first in let last = c.requires.last in constant_entry (c.args.round - 1) (omega arith)
