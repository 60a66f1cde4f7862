use Rattle.std.proofs.Common.{ℕ, List, rules}
use Rattle.std.specs.Cmp.{IsStrictWeakOrder}
use Rattle.std.specs.Ordering.{is_lt}
use Rattle.std.proofs.lemmas.Fn.{always_returns_same}
use Rattle.std.proofs.lemmas.List.Sorted.{ranks_by}
use Rattle.kms_secret.specs.Metadata.{key_cmp}
use Rattle.kms_secret.proofs.KeyLaws.{total}
use Rattle.kms_secret.proofs.SortedLaws.{sorted_is}
use Rattle.kms_secret.proofs.metadata.sort_by_key.Goals as goal

pub returns : goal.returns
returns c =
    let below = λ (p q : List ℕ × List ℕ). is_lt (key_cmp p q) in
    let weak : IsStrictWeakOrder below = ranks_by total (λ (p : List ℕ × List ℕ). p) in
    sorted_is key_cmp total c.args.pairs.now.items c.sort_by.new.self.items
    (c.in_ok-sort_by.ensures.sorted below weak (always_returns_same _ _ _ (λ a r q k. search rules)))
    (c.sort_by.ensures.stable below weak (always_returns_same _ _ _ (λ a r q k. search rules)))
