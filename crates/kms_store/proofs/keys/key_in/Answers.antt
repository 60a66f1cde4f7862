use Rattle.std.proofs.Common.{◌≡◌, ◌∙◌, true, Some, sym, ap, arith, get_or}
use Rattle.std.proofs.lemmas.List.{get_or_default}
use Rattle.kms_record.specs.declared.key.WrappedKey.{WrappedKey}
use Rattle.kms_kept.specs.Kept.{is_key}
use Rattle.kms_store.proofs.KeysLaws.{key_found, key_missing}
use Rattle.kms_store.proofs.keys.key_in.Goals as goal
use Rattle.kms_store.proofs.keys.key_in.Goals.{else-at-keys-via-then-at-keys+else-is_key, else-at-keys-via-else-at-keys}

pub returns-then-is_key : goal.returns-then-is_key
returns-then-is_key c =
    let keys = c.args.keys.now in
    let at = c.key_point-at.result in
    let first = c.index-keys-at.result in
    let it : is_key c.args.project.now c.args.number (get_or keys at first) ≡ true =
    ap (is_key c.args.project.now c.args.number) (sym c.index-keys-at.is) ∙ sym c.is_key.ensures ∙ c.if-is_key.true
    in
    ap (λ (key : WrappedKey). Some key) (c.index-keys-at-then-is_key.is ∙ get_or_default keys at c.index-keys-at-then-is_key.result first c.if-at-keys.true)
    ∙ sym (key_found c.args.project.now c.args.number keys at first c.key_point-at.ensures.parted c.if-at-keys.true it)

pub returns-else-at-keys : goal.returns-else-at-keys
returns-else-at-keys c =
    let keys = c.args.keys.now in
    let at = c.key_point-at.result in
    sym (key_missing c.args.project.now c.args.number keys at c.requires c.key_point-at.ensures.parted
    (λ lt d. elim c.else-at-keys.branch [
      | else-at-keys-via-then-at-keys+else-is_key w ↦
          ap (is_key c.args.project.now c.args.number) (get_or_default keys at d w.index-keys-at.result lt ∙ sym w.index-keys-at.is) ∙ sym w.is_key.ensures ∙ w.if-is_key.false
      | else-at-keys-via-else-at-keys w ↦ absurd (omega (arith, lt, w.if-at-keys.false))
    ]))
