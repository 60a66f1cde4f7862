use Rattle.std.proofs.Common.{◌∙◌, sym, ap, set, arith, refl}
use Rattle.kms_host.specs.Memory.{Source}
use Rattle.kms_host.proofs.SourceLaws.{present_at, advanced_at, present_past, advanced_past}
use Rattle.kms_host.proofs.memory.source.pull.Goals as goal

pub returns-then-line-inputs-clause-first : goal.returns-then-line-inputs-clause-first
returns-then-line-inputs-clause-first c = rw (present_at c.args.line c.args.inputs.now c.index-inputs-line.result c.if-line-inputs.true) c.take.ensures.first

pub returns-then-line-inputs-clause-after : goal.returns-then-line-inputs-clause-after
returns-then-line-inputs-clause-after c =
    ap (λ (s : Source). set c.args.inputs.now c.args.line s) c.take.ensures.after
    ∙ sym (advanced_at c.args.line c.take.result c.args.inputs.now c.index-inputs-line.result c.if-line-inputs.true)

pub returns-else-line-inputs-clause-first : goal.returns-else-line-inputs-clause-first
returns-else-line-inputs-clause-first c = rw (present_past c.args.line c.args.inputs.now (omega (arith, c.if-line-inputs.false))) (record { count = omega arith; same = refl })

pub returns-else-line-inputs-clause-after : goal.returns-else-line-inputs-clause-after
returns-else-line-inputs-clause-after c = sym (advanced_past c.args.line 0 c.args.inputs.now (omega (arith, c.if-line-inputs.false)))
