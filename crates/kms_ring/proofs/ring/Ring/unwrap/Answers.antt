use Rattle.std.proofs.Common.{◌∙◌, List, ℕ, subst}
use Rattle.kms_ring.specs.Ring.{IsUnwrapped, IsUnderNone}
use Rattle.kms_ring.proofs.RingLaws.{none_more, none_at_all, here}
use Rattle.kms_ring.proofs.ring.Ring.unwrap.Goals as goal

pub returns-in-Some-clause-key : goal.returns-in-Some-clause-key
returns-in-Some-clause-key c =
    subst (λ (masters : List (List ℕ)). IsUnwrapped masters c.args.wrapped.now c.in-Some.key) (c.as_slice-master-items.ensures.value ∙ c.self.view_is)
    (here c.as_slice-master-items.result.now c.args.wrapped.now c.master-item.result c.in-Some.key c.loop-master.master-index c.loop-master-test.true c.master-item.is c.loop-master.invariant c.in-Some.ensures)

pub loop-master-preserved : goal.loop-master-preserved
loop-master-preserved c =
    none_more c.as_slice-master-items.result.now c.args.wrapped.now c.master-item.result c.loop-master.master-index c.loop-master-test.true c.master-item.is c.loop-master.invariant c.in_default.ensures

pub returns-clause-key : goal.returns-clause-key
returns-clause-key c =
    subst (λ (masters : List (List ℕ)). IsUnderNone masters c.args.wrapped.now) (c.as_slice-master-items.ensures.value ∙ c.self.view_is)
    (none_at_all c.as_slice-master-items.result.now c.args.wrapped.now c.loop-master.master-index c.loop-master-test.false c.loop-master.invariant)
