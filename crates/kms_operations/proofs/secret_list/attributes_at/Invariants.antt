use Rattle.std.proofs.Common.{◌≡◌, map, take}
use Rattle.kms_page.specs.Page.{rows_at}
use Rattle.kms_world.specs.Secret.{attributes_of}
use Rattle.kms_operations.proofs.secret_list.attributes_at.Given as goal

abbrev pub invariant-loop-place : goal.invariant-loop-place
invariant-loop-place l = l.list ≡ map attributes_of (rows_at l.secrets (take l.place-index l.places))
