use Rattle.std.proofs.Common.{◌≡◌, take}
use Rattle.kms_page.specs.Page.{rows_at}
use Rattle.kms_operations.proofs.consumer_list.consumers_at.Given as goal

abbrev pub invariant-loop-place : goal.invariant-loop-place
invariant-loop-place l = l.list ≡ rows_at l.consumers (take l.place-index l.places)
