use Rattle.std.proofs.Common.{◌≡◌, ◌∙◌, ap, arith, ℕ, length}
use Rattle.kms_store.specs.Keyed.{lowered_entry}
use Rattle.kms_store.proofs.EditLaws.{mapped, mapped_all, mapped_more}
use Rattle.kms_store.proofs.places.lower.Goals as goal

pub loop-entry-preserved : goal.loop-entry-preserved
loop-entry-preserved g c =
    mapped_more (lowered_entry c.args.gone) c.args.entries.now c.loop-entry.entries c.loop-entry.entry-index _ c.entry-item.result c.lower_entry.new.entry
    c.loop-entry.invariant c.loop-entry-test.true (omega arith) c.lower_entry.ensures

pub returns : goal.returns
returns g c =
    let all : c.loop-entry.entry-index ≡ length c.args.entries.now = omega arith in
    c.loop-entry.invariant ∙ ap (λ (i : ℕ). mapped (lowered_entry c.args.gone) i c.args.entries.now) all ∙ mapped_all (lowered_entry c.args.gone) c.args.entries.now
