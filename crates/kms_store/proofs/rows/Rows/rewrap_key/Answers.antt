use Rattle.std.proofs.Common.{arith, ap, ◌∙◌, List}
use Rattle.std.proofs.lemmas.List.{with_items_is}
use Rattle.kms_world.specs.Effect.{change_rows}
use Rattle.kms_record.specs.declared.key.WrappedKey.{WrappedKey}
use Rattle.kms_kept.specs.Kept.{Kept, is_key}
use Rattle.kms_store.specs.Rows.{kept_in}
use Rattle.kms_store.proofs.rows.Rows.rewrap_key.Goals as goal

pub returns-clause-kept : goal.returns-clause-kept
returns-clause-kept c =
    let key = c.args.key in
    ap (λ (keys : List WrappedKey). let kept : Kept = record { state = (kept_in c.args.self.now).state; keys = keys } in kept)
    (with_items_is c.args.self.now.keys c.rewrap_key.new.keys (omega (arith, c.rewrap_key.auto.keys, c.deref_mut.ensures.len)) ∙ c.rewrap_key.ensures ∙ ap (change_rows (is_key key.project key.number) (λ (other : WrappedKey). record other { wrapped = key.wrapped })) c.deref_mut.ensures.value)
