use Rattle.kms_core.proofs.AskLaws.{opens_there}
use Rattle.kms_core.proofs.engine.Engine.show.Goals as goal

pub payload-requires-clause-opens : goal.payload-requires-clause-opens
payload-requires-clause-opens c =
    opens_there c.self.inside.keys.masters c.self.inside.store.kept c.rows.result.now.kept c.rows-2.result.now.kept c.self.invariant.opens c.rows.ensures.kept c.rows-2.ensures.kept c.args.id c.in-Some.secret.now c.in-Some.ensures.found
