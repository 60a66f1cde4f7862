use Rattle.std.proofs.Common.{subst}
use Rattle.kms_secret.proofs.RuleLaws.{given_is}
use Rattle.kms_world.specs.Times.{IsTimelyIfAny}
use Rattle.kms_operations.proofs.FoundLaws.{acl_if_any, timely_if_any}
use Rattle.kms_operations.proofs.access_lists.shown.Goals as goal

pub returns-clause-possible : goal.returns-clause-possible
returns-clause-possible c = record {
  times = subst IsTimelyIfAny (given_is _ c.in_ok-copied.field-0 c.in_ok-copied.ensures) (timely_if_any _ _ (acl_if_any _ _ _ c.acl.ensures.sound c.acl.ensures.found));
  change = tt;
}
