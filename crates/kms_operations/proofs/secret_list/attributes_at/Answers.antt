use Rattle.std.proofs.Common.{◌≡◌, ◌+◌, ◌<◌, List, length, map, take, get_or, Some, None, ap, sym, ◌∙◌, arith}
use Rattle.std.specs.Prelude.{option_copied}
use Rattle.std.specs.List.{slice_get}
use Rattle.kms_page.specs.Page.{rows_at}
use Rattle.kms_world.specs.Secret.{attributes_of}
use Rattle.kms_world.specs.declared.secret.SecretRow.{SecretRow}
use Rattle.kms_operations.proofs.FoundLaws.{attributes_unsealed}
use Rattle.kms_operations.proofs.ListLaws.{mapped_more, rows_more, rows_same}
use Rattle.kms_operations.proofs.secret_list.attributes_at.Goals as goal
use Rattle.kms_operations.proofs.secret_list.attributes_at.Goals.{in-Some+in_ok-attributes+in_ok-push, in_default}

pub loop-place-preserved : goal.loop-place-preserved
loop-place-preserved c =
    let rows : List SecretRow = c.args.secrets.now in
    let places = c.args.places.now in
    let i = c.loop-place.place-index in
    let here : i < length places = omega arith in
    elim c.match-row_at.branch [
      | in-Some+in_ok-attributes+in_ok-push w ↦
          let row : SecretRow = w.in-Some.secret.now in
          let found : slice_get rows (get_or places i 0) ≡ Some row = sym c.row_at.ensures ∙ ap option_copied w.in-Some.is in
          let shown : w.in_ok-attributes.field-0 ≡ attributes_of row = w.in_ok-attributes.ensures ∙ ap attributes_of w.row.ensures ∙ attributes_unsealed row in
          mapped_more attributes_of (rows_at rows (take i places)) (rows_at rows (take (i + 1) places)) row c.loop-place.list c.match-row_at.list w.in_ok-attributes.field-0
          (rows_more rows places i row here found) c.loop-place.invariant shown (w.list-is ∙ w.in_ok-push.ensures.ok)
      | in_default w ↦
          let none : slice_get rows (get_or places i 0) ≡ None = sym c.row_at.ensures ∙ ap option_copied w.in_default.is in
          w.list-is ∙ c.loop-place.invariant ∙ ap (map attributes_of) (sym (rows_same rows places i here none))
    ]
