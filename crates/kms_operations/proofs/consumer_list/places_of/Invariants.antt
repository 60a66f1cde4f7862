use Rattle.kms_world.specs.Id.{is_id}
use Rattle.kms_world.specs.declared.container.ConsumerRow.{ConsumerRow}
use Rattle.kms_operations.specs.Places.{AreThose}
use Rattle.kms_operations.proofs.consumer_list.places_of.Given as goal

abbrev pub invariant-loop-place : goal.invariant-loop-place
invariant-loop-place l = AreThose (λ (r : ConsumerRow). is_id l.id r.container) l.consumers l.place l.places.items
