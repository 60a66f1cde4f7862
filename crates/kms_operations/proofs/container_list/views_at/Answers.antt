use Rattle.std.proofs.Common.{◌≡◌, ◌+◌, ◌<◌, List, length, map, take, get_or, Some, None, ap, sym, ◌∙◌, arith}
use Rattle.std.specs.Prelude.{option_copied}
use Rattle.std.specs.List.{slice_get}
use Rattle.kms_page.specs.Page.{rows_at}
use Rattle.kms_model.specs.Containers.{view_of}
use Rattle.kms_world.specs.declared.container.ContainerRow.{ContainerRow}
use Rattle.kms_operations.proofs.ListLaws.{mapped_more, rows_more, rows_same}
use Rattle.kms_operations.proofs.container_list.views_at.Goals as goal
use Rattle.kms_operations.proofs.container_list.views_at.Goals.{in-Some+in_ok-view_of+in_ok-push, in_default}

pub loop-place-preserved : goal.loop-place-preserved
loop-place-preserved c =
    let s = c.args.rows.now.kept.state in
    let rows = s.containers in
    let places = c.args.places.now in
    let i = c.loop-place.place-index in
    let here : i < length places = omega arith in
    let looked = ap (λ (l : List ContainerRow). slice_get l (get_or places i 0)) (sym c.containers-containers.ensures) ∙ sym c.row_at.ensures in
    elim c.match-row_at.branch [
      | in-Some+in_ok-view_of+in_ok-push w ↦
          let row : ContainerRow = w.in-Some.row.now in
          let found : slice_get rows (get_or places i 0) ≡ Some row = looked ∙ ap option_copied w.in-Some.is in
          mapped_more (view_of s) (rows_at rows (take i places)) (rows_at rows (take (i + 1) places)) row c.loop-place.list c.match-row_at.list w.in_ok-view_of.field-0
          (rows_more rows places i row here found) c.loop-place.invariant w.in_ok-view_of.ensures (w.list-is ∙ w.in_ok-push.ensures.ok)
      | in_default w ↦
          let none : slice_get rows (get_or places i 0) ≡ None = looked ∙ ap option_copied w.in_default.is in
          w.list-is ∙ c.loop-place.invariant ∙ ap (map (view_of s)) (sym (rows_same rows places i here none))
    ]
