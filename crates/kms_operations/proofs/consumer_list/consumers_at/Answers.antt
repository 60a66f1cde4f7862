use Rattle.std.proofs.Common.{◌≡◌, ◌<◌, List, ◌++◌, ◌∷◌, [], length, take, get_or, Some, ap, sym, ◌∙◌, arith}
use Rattle.std.specs.Prelude.{option_copied}
use Rattle.std.specs.List.{slice_get}
use Rattle.kms_page.specs.Page.{rows_at}
use Rattle.kms_world.specs.declared.container.ConsumerRow.{ConsumerRow}
use Rattle.kms_operations.proofs.ListLaws.{rows_more, rows_same}
use Rattle.kms_operations.proofs.consumer_list.consumers_at.Goals as goal
use Rattle.kms_operations.proofs.consumer_list.consumers_at.Goals.{in-Some+in_ok-copied+in_ok-push, in_default}

pub loop-place-preserved : goal.loop-place-preserved
loop-place-preserved c =
    let rows = c.args.consumers.now in
    let places = c.args.places.now in
    let i = c.loop-place.place-index in
    let here : i < length places = omega arith in
    elim c.match-row_at.branch [
      | in-Some+in_ok-copied+in_ok-push w ↦
          let found : slice_get rows (get_or places i 0) ≡ Some w.in-Some.row.now = sym c.row_at.ensures ∙ ap option_copied w.in-Some.is in
          w.list-is ∙ w.in_ok-push.ensures.ok
          ∙ ap (λ (l : List ConsumerRow). l ++ w.in_ok-copied.field-0 ∷ []) c.loop-place.invariant
          ∙ ap (λ (r : ConsumerRow). rows_at rows (take i places) ++ r ∷ []) w.in_ok-copied.ensures
          ∙ sym (rows_more rows places i w.in-Some.row.now here found)
      | in_default w ↦ w.list-is ∙ c.loop-place.invariant ∙ sym (rows_same rows places i here (sym c.row_at.ensures ∙ ap option_copied w.in_default.is))
    ]
