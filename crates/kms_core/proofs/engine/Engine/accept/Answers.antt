use Rattle.std.proofs.Common.{refl}
use Rattle.kms_core.specs.Engine.{held}
use Rattle.kms_core.proofs.SettleLaws.{waits_one, waits_seen, leads_seen}
use Rattle.kms_core.proofs.engine.Engine.accept.Goals as goal

pub returns-clause-waits : goal.returns-clause-waits
returns-clause-waits c =
    let inside = held c.self.inside in
    waits_seen inside c.args.self.now _ 1 c.self.view_is
    (waits_one inside _ c.args.step.step c.add_key.ensures.masters refl c.stage.ensures.kept c.stage.ensures.staging c.stage.ensures.steps
    (leads_seen inside c.args.self.now c.args.step c.requires.0 c.self.view_is c.requires.1).reserved)
