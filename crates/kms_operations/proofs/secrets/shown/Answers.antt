use Rattle.std.proofs.Common.{subst}
use Rattle.kms_secret.proofs.RuleLaws.{given_is}
use Rattle.kms_world.specs.Times.{IsTimely}
use Rattle.kms_operations.proofs.FoundLaws.{timely_secret}
use Rattle.kms_operations.proofs.secrets.shown.Goals as goal

pub returns-clause-possible : goal.returns-clause-possible
returns-clause-possible c = record {
  times = subst IsTimely (given_is _ c.in_ok-attributes.field-0 c.in_ok-attributes.ensures) (timely_secret _ _ c.in_ok-secret.ensures.kept);
  change = tt;
}
