use Rattle.kms_model.specs.Lists.{shows_secret}
use Rattle.kms_operations.specs.Places.{AreThose}
use Rattle.kms_operations.proofs.secret_list.places_shown.Given as goal

abbrev pub invariant-loop-place : goal.invariant-loop-place
invariant-loop-place l = AreThose (shows_secret l.rows.kept.state l.caller l.moment) l.rows.kept.state.secrets l.place l.places.items
