use Rattle.kms_host.proofs.Moments.{tells_weaker, tells_nothing}
use Rattle.kms_store.proofs.CheckpointLaws.{turned, nothing_turned}
use Rattle.kms_store.proofs.checkpointing.checkpoint.Goals as goal

pub returns-in-Some-clause-told : goal.returns-in-Some-clause-told
returns-in-Some-clause-told g c =
    tells_weaker _ c.turn_over.ensures.told
    (λ was now k n stands count. turned c.args.limit c.args.tables.now.kept c.args.steps n c.args.journal.now c.turn_over.new.self was now stands c.in-Some.walk c.in-Some.ensures count c.turn_over.result k)

pub returns-in-None-clause-told : goal.returns-in-None-clause-told
returns-in-None-clause-told g c =
    tells_nothing _ c.requires.placed
    (λ was placed n stands count. nothing_turned c.args.limit c.args.tables.now.kept c.args.steps n c.args.journal.now c.args.journal.now was was stands tt)
