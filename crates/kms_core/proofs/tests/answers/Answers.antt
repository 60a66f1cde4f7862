use Rattle.std.proofs.Common.{◌∙◌}
use Rattle.kms_core.proofs.DrawnLaws.{placed_while_drawn}
use Rattle.kms_core.proofs.tests.answers.Goals as goal

pub returns-in-Ok-clause-placed : goal.returns-in-Ok-clause-placed
returns-in-Ok-clause-placed g c =
    placed_while_drawn c.args.engine.now.store.journal c.takes_over.new.engine.store.journal (c.takes_over.ensures ∙ c.ask.ensures.store.journal) c.requires.placed c.ask.ensures.told (λ was calls drew. drew.sizes)

pub returns-in-Err-clause-placed : goal.returns-in-Err-clause-placed
returns-in-Err-clause-placed g c =
    placed_while_drawn c.args.engine.now.store.journal c.ask.new.self.store.journal c.ask.ensures.store.journal c.requires.placed c.ask.ensures.told (λ was calls drew. drew.sizes)
