use Rattle.kms_page.specs.Filter.{filtered}
use Rattle.kms_page.specs.Order.{place_cmp}
use Rattle.kms_page.specs.Page.{ordered}
use Rattle.kms_page.specs.Sorted.{sorted}
use Rattle.std.proofs.Common.{ℕ}
use Rattle.std.specs.declared.cmp.Ordering.{Ordering}
use Rattle.kms_page.proofs.CreationLaws.{filtered_rises, by_creation}
use Rattle.kms_page.proofs.OrderLaws.{place_total}
use Rattle.kms_page.proofs.SortedLaws.{IsSorted-sorted, IsPermutation-sorted, IsStable-sorted}
use Rattle.kms_page.proofs.laws.sorting_keeps_each_row.Goals as goal

pub returns-clause-each_once : goal.returns-clause-each_once
unfolding ordered
returns-clause-each_once c =
    IsPermutation-sorted (place_cmp c.args.rows.now c.args.query.now.sort) (place_total _ _) (filtered c.args.rows.now c.args.shown.now c.args.query.now)

pub returns-clause-ascending : goal.returns-clause-ascending
unfolding ordered
returns-clause-ascending c =
    IsSorted-sorted (place_cmp c.args.rows.now c.args.query.now.sort) (place_total _ _) (filtered c.args.rows.now c.args.shown.now c.args.query.now)

pub returns-clause-ties : goal.returns-clause-ties
unfolding ordered
returns-clause-ties c =
    IsStable-sorted (place_cmp c.args.rows.now c.args.query.now.sort) (place_total _ _) (filtered c.args.rows.now c.args.shown.now c.args.query.now)

pub returns-clause-by_creation : goal.returns-clause-by_creation
unfolding ordered
returns-clause-by_creation c = λ up.
    let rows = c.args.rows.now in
    let listed = filtered rows c.args.shown.now c.args.query.now in
    let order : ℕ → ℕ → Ordering = place_cmp rows c.args.query.now.sort in
    by_creation order (place_total _ _) listed (sorted order listed) (filtered_rises rows c.args.shown.now c.args.query.now up)
    (IsSorted-sorted order (place_total _ _) listed) (IsStable-sorted order (place_total _ _) listed)
