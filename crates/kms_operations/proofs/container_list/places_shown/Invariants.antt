use Rattle.kms_model.specs.Lists.{shows_container}
use Rattle.kms_operations.specs.Places.{AreThose}
use Rattle.kms_operations.proofs.container_list.places_shown.Given as goal

abbrev pub invariant-loop-place : goal.invariant-loop-place
invariant-loop-place l = AreThose (shows_container l.rows.kept.state l.caller) l.rows.kept.state.containers l.place l.places.items
