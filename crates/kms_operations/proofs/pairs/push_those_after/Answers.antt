use Rattle.std.proofs.Common.{◌≡◌, List, ℕ, take, true, sym, subst, ◌∙◌, arith}
use Rattle.std.specs.Prelude.{filter}
use Rattle.std.proofs.lemmas.List.Elements.{All-append}
use Rattle.kms_world.specs.Pairs.{is_below}
use Rattle.kms_operations.specs.Pairs.{IsAfterAll}
use Rattle.kms_operations.proofs.PairLaws.{some_before}
use Rattle.kms_operations.proofs.pairs.push_those_after.Goals as goal

pub push_copy-requires : goal.push_copy-requires
push_copy-requires c =
    let pair = c.pair-item.result in
    let test = λ (p : List ℕ × List ℕ). is_below c.args.key.now p.0 in
    let after : is_below c.args.key.now pair.0 ≡ true = sym c.is_below.ensures ∙ c.if-is_below.true in
    subst (λ (before : List (List ℕ × List ℕ)). IsAfterAll pair before) (sym c.loop-pair.invariant)
    (All-append (λ (p : List ℕ × List ℕ). is_below p.0 pair.0 ≡ true) c.args.before.now (filter test (take c.loop-pair.pair-index c.args.pairs.now))
    (c.requires.around pair after)
    (some_before test c.args.pairs.now c.loop-pair.pair-index pair c.requires.ascends (omega arith) c.pair-item.is))
