use Rattle.std.proofs.Common.{◌≡◌, map, take}
use Rattle.kms_model.specs.Containers.{view_of}
use Rattle.kms_page.specs.Page.{rows_at}
use Rattle.kms_operations.proofs.container_list.views_at.Given as goal

abbrev pub invariant-loop-place : goal.invariant-loop-place
invariant-loop-place l = l.list ≡ map (view_of l.rows.kept.state) (rows_at l.rows.kept.state.containers (take l.place-index l.places))
