use Rattle.std.proofs.Common.{List, ℕ, not, sym, subst, arith}
use Rattle.std.specs.Str.{bytes_eq}
use Rattle.kms_operations.specs.Pairs.{IsAfterAll}
use Rattle.kms_operations.proofs.PairLaws.{some_before}
use Rattle.kms_operations.proofs.pairs.those_other.Goals as goal

pub push_copy-requires : goal.push_copy-requires
push_copy-requires c =
    subst (λ (others : List (List ℕ × List ℕ)). IsAfterAll c.pair-item.result others) (sym c.loop-pair.invariant)
    (some_before (λ p. not (bytes_eq c.args.key.now p.0)) c.args.pairs.now c.loop-pair.pair-index c.pair-item.result c.requires (omega arith) c.pair-item.is)
