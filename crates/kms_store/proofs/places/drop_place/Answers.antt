use Rattle.std.proofs.Common.{◌≡◌, ◌∙◌, map, ap, subst, sym, arith}
use Rattle.std.proofs.lemmas.List.{with_items_is}
use Rattle.std.specs.Vec.{with_items}
use Rattle.kms_store.specs.Keyed.{lowered_entry}
use Rattle.kms_store.specs.Tally.{Ascend}
use Rattle.kms_store.proofs.KeyedLaws.{ascend_lowered, numbers_left}
use Rattle.kms_store.proofs.places.drop_place.Goals as goal

pub returns-clause-ascend : goal.returns-clause-ascend
returns-clause-ascend g c =
    let k = g.K.IndexKey in
    let taken = c.take.new.entries.items in
    let kept = with_items_is c.take.new.entries c.lower.new.entries (omega (arith, c.lower.auto.entries, c.deref_mut.ensures.len)) in
    let mapped : (with_items c.take.new.entries c.lower.new.entries).items ≡ map (lowered_entry c.args.number) taken = kept ∙ c.lower.ensures ∙ ap (map (lowered_entry c.args.number)) c.deref_mut.ensures.value in
    subst (Ascend k.below) (sym mapped) (ascend_lowered k.is k.below g.met.K.IndexKey.order c.args.number taken c.take.ensures.ascend)

pub returns-clause-numbers : goal.returns-clause-numbers
returns-clause-numbers g c = λ key.
    let k = g.K.IndexKey in
    let taken = c.take.new.entries.items in
    let kept = with_items_is c.take.new.entries c.lower.new.entries (omega (arith, c.lower.auto.entries, c.deref_mut.ensures.len)) in
    let mapped : (with_items c.take.new.entries c.lower.new.entries).items ≡ map (lowered_entry c.args.number) taken = kept ∙ c.lower.ensures ∙ ap (map (lowered_entry c.args.number)) c.deref_mut.ensures.value in
    numbers_left k.is k.below g.met.K.IndexKey.order c.args.number c.args.key.now key c.args.entries.now.items taken (with_items c.take.new.entries c.lower.new.entries).items c.take.ensures.ascend c.requires.number mapped (c.take.ensures.numbers key)
