use Rattle.std.proofs.Common.{◌≡◌, ◌∙◌, true, sym, ap, arith, get_or}
use Rattle.std.proofs.lemmas.List.{get_or_default}
use Rattle.kms_kept.specs.Kept.{is_key}
use Rattle.kms_store.proofs.KeysLaws.{key_found, key_missing}
use Rattle.kms_sealing.proofs.places.place_of.Goals as goal
use Rattle.kms_sealing.proofs.places.place_of.Goals.{else-at-rows-via-then-at-rows+else-is_it, else-at-rows-via-else-at-rows}

pub returns-then-is_it-clause-found : goal.returns-then-is_it-clause-found
returns-then-is_it-clause-found c = λ d.
    let rows = c.args.rows.now in
    let at = c.key_point-at.result in
    let it : is_key c.args.project.now c.args.number (get_or rows at d) ≡ true =
    ap (is_key c.args.project.now c.args.number) (get_or_default rows at d c.index-rows-at.result c.if-at-rows.true ∙ sym c.index-rows-at.is) ∙ sym c.is_it.ensures ∙ c.if-is_it.true
    in
    key_found c.args.project.now c.args.number rows at d c.key_point-at.ensures.parted c.if-at-rows.true it

pub returns-else-at-rows-clause-missing : goal.returns-else-at-rows-clause-missing
returns-else-at-rows-clause-missing c =
    let rows = c.args.rows.now in
    let at = c.key_point-at.result in
    key_missing c.args.project.now c.args.number rows at c.requires c.key_point-at.ensures.parted
    (λ lt d. elim c.else-at-rows.branch [
      | else-at-rows-via-then-at-rows+else-is_it w ↦
          ap (is_key c.args.project.now c.args.number) (get_or_default rows at d w.index-rows-at.result lt ∙ sym w.index-rows-at.is) ∙ sym w.is_it.ensures ∙ w.if-is_it.false
      | else-at-rows-via-else-at-rows w ↦ absurd (omega (arith, lt, w.if-at-rows.false))
    ])
