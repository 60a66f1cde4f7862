use Rattle.std.proofs.Common.{subst, sym}
use Rattle.kms_box.proofs.RangeLaws.{consumer_in_range}
use Rattle.kms_world.specs.Times.{IsTimelyContainer}
use Rattle.kms_world.specs.declared.answer.ContainerView.{ContainerView}
use Rattle.kms_operations.proofs.ConsumerLaws.{removal_fits}
use Rattle.kms_operations.proofs.FoundLaws.{timely_container}
use Rattle.kms_operations.proofs.consumers.deleted.Goals as goal

pub returns-in-Ok-clause-possible : goal.returns-in-Ok-clause-possible
returns-in-Ok-clause-possible c = record {
  times = subst (λ (v : ContainerView). IsTimelyContainer v.row) (sym c.in-Ok.ensures) (timely_container _ _ c.in_ok-container.ensures.kept);
  change = removal_fits _ _ _ _ c.in_ok-container.ensures.kept c.count_of.ensures.count (consumer_in_range c.in_ok-body.body c.in_ok-pair.pair c.in_ok-pair.ensures) (sym c.if-not-is_there.ensures);
}
