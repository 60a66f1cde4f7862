use Rattle.std.proofs.Common.{subst}
use Rattle.kms_box.proofs.RangeLaws.{consumer_in_range}
use Rattle.kms_secret.proofs.RuleLaws.{given_is}
use Rattle.kms_world.specs.Times.{IsTimelyContainer}
use Rattle.kms_world.specs.declared.answer.ContainerView.{ContainerView}
use Rattle.kms_operations.proofs.FoundLaws.{timely_container}
use Rattle.kms_operations.proofs.consumers.posted.Goals as goal

pub added-requires-clause-range : goal.added-requires-clause-range
added-requires-clause-range c = consumer_in_range c.in_ok-body.body c.in_ok-pair.pair c.in_ok-pair.ensures

pub returns-clause-possible : goal.returns-clause-possible
returns-clause-possible c = record {
  times = subst (λ (v : ContainerView). IsTimelyContainer v.row) (given_is _ c.in_ok-viewed.field-0 c.in_ok-viewed.ensures) (timely_container _ _ c.in_ok-container.ensures.kept);
  change = tt;
}
