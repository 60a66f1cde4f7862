use Rattle.std.proofs.Common.{subst, sym}
use Rattle.kms_world.specs.Times.{IsTimelyContainer}
use Rattle.kms_world.specs.declared.answer.ContainerView.{ContainerView}
use Rattle.kms_operations.proofs.ConsumerLaws.{addition_fits}
use Rattle.kms_operations.proofs.FoundLaws.{timely_container}
use Rattle.kms_operations.proofs.consumers.added.Goals as goal

pub returns-in-Ok-clause-possible : goal.returns-in-Ok-clause-possible
returns-in-Ok-clause-possible c = record {
  times = subst (λ (v : ContainerView). IsTimelyContainer v.row) (sym c.in-Ok.ensures) (timely_container _ _ c.requires.kept);
  change = addition_fits _ _ _ _ _ c.requires.kept c.count_of.ensures.count c.requires.range c.requires.time c.requires.new;
}
