use Rattle.std.proofs.Common.{ℕ, List, Bool, ap, ◌∙◌, rules}
use Rattle.std.specs.Ordering.{is_lt}
use Rattle.std.specs.Cmp.{IsStrictWeakOrder}
use Rattle.std.proofs.lemmas.Fn.{always_returns_same}
use Rattle.std.proofs.lemmas.List.Sorted.{ranks_by}
use Rattle.kms_page.specs.declared.sorts.SortKey.{SortKey}
use Rattle.kms_page.specs.Order.{place_cmp}
use Rattle.kms_page.specs.Sorted.{sorted}
use Rattle.kms_page.proofs.OrderLaws.{place_total}
use Rattle.kms_page.proofs.SortedLaws.{sorted_is}
use Rattle.kms_page.proofs.paging.sort.Goals as goal

pub returns : goal.returns
returns g c =
    let rows = g.R.Rows.listed c.args.rows.now in
    let sorts = c.as_slice-sorts.result.now in
    let below = λ (p q : ℕ). is_lt (place_cmp rows sorts p q) in
    let weak : IsStrictWeakOrder below = ranks_by (place_total rows sorts) (λ (p : ℕ). p) in
    sorted_is (place_cmp rows sorts) (place_total rows sorts) c.args.places.now c.sort_by.new.self
    (c.in_ok-sort_by.ensures.sorted below weak (always_returns_same _ _ _ (λ a r q k. search rules)))
    (c.sort_by.ensures.stable below weak (always_returns_same _ _ _ (λ a r q k. search rules)))
    ∙ ap (λ (s : List (SortKey × Bool)). sorted (place_cmp rows s) c.args.places.now) c.as_slice-sorts.ensures
