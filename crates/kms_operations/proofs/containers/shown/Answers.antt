use Rattle.std.proofs.Common.{subst}
use Rattle.kms_secret.proofs.RuleLaws.{given_is}
use Rattle.kms_world.specs.Times.{IsTimelyContainer}
use Rattle.kms_world.specs.declared.answer.ContainerView.{ContainerView}
use Rattle.kms_operations.proofs.FoundLaws.{timely_container}
use Rattle.kms_operations.proofs.containers.shown.Goals as goal

pub returns-clause-possible : goal.returns-clause-possible
returns-clause-possible c = record {
  times = subst (λ (v : ContainerView). IsTimelyContainer v.row) (given_is _ c.in_ok-viewed.field-0 c.in_ok-viewed.ensures) (timely_container _ _ c.in_ok-container.ensures.kept);
  change = tt;
}
