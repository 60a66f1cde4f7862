use Rattle.std.proofs.Common.{List, ℕ, sym, subst, arith}
use Rattle.kms_world.specs.Pairs.{is_below}
use Rattle.kms_operations.specs.Pairs.{IsAfterAll}
use Rattle.kms_operations.proofs.PairLaws.{some_before}
use Rattle.kms_operations.proofs.pairs.those_before.Goals as goal

pub push_copy-requires : goal.push_copy-requires
push_copy-requires c =
    subst (λ (before : List (List ℕ × List ℕ)). IsAfterAll c.pair-item.result before) (sym c.loop-pair.invariant)
    (some_before (λ p. is_below p.0 c.args.key.now) c.args.pairs.now c.loop-pair.pair-index c.pair-item.result c.requires (omega arith) c.pair-item.is)
