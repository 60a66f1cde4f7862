use Rattle.std.proofs.Common.{List, ℕ, arith, ap, ◌∙◌}
use Rattle.kms_aes.specs.Field.{sum_of}
use Rattle.kms_aes.proofs.States.{sum_of-more, sum_of-all, sum_of-twice}
use Rattle.kms_fernet.proofs.cbc.add.Goals as goal

pub loop-i-preserved : goal.loop-i-preserved
loop-i-preserved c =
    sum_of-more c.args.block.now c.args.other.now c.loop-i.block c.loop-i.i (omega arith) (omega arith) c.loop-i.invariant

pub returns-clause-sum : goal.returns-clause-sum
returns-clause-sum c =
    sum_of-all c.args.block.now c.args.other.now c.loop-i.block c.loop-i.i (omega arith) (omega arith) c.loop-i.invariant

pub returns-clause-twice : goal.returns-clause-twice
returns-clause-twice c =
    ap (λ (t : List ℕ). sum_of t c.args.other.now) (returns-clause-sum c)
    ∙ sum_of-twice c.args.block.now c.args.other.now (omega arith)
