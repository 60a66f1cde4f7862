use Rattle.std.proofs.Common.{◌≡◌, ◌∙◌, ap, arith, ℕ, length}
use Rattle.std.specs.Prelude.{if◌then◌else◌}
use Rattle.kms_kept.specs.Kept.{is_key}
use Rattle.kms_record.specs.declared.key.WrappedKey.{WrappedKey}
use Rattle.kms_store.proofs.EditLaws.{mapped, mapped_all, mapped_more}
use Rattle.kms_store.proofs.keys.rewrap_key.Goals as goal

pub loop-key-preserved : goal.loop-key-preserved
loop-key-preserved c =
    let with = c.args.with.now in
    mapped_more (λ (key : WrappedKey). if is_key with.project with.number key then record key { wrapped = with.wrapped } else key) c.args.keys.now c.loop-key.keys c.loop-key.key-index _ c.key-item.result c.rewrap.new.key
    c.loop-key.invariant c.loop-key-test.true (omega arith) c.rewrap.ensures

pub returns : goal.returns
returns c =
    let with = c.args.with.now in
    let f = λ (key : WrappedKey). if is_key with.project with.number key then record key { wrapped = with.wrapped } else key in
    let all : c.loop-key.key-index ≡ length c.args.keys.now = omega arith in
    c.loop-key.invariant ∙ ap (λ (i : ℕ). mapped f i c.args.keys.now) all ∙ mapped_all f c.args.keys.now
