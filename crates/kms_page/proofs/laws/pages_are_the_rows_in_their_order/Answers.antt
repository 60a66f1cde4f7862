use Rattle.std.proofs.Common.{refl}
use Rattle.std.proofs.lemmas.List.Sorted.{length_permutation}
use Rattle.kms_page.specs.Filter.{passes, filtered}
use Rattle.kms_page.specs.Order.{place_cmp}
use Rattle.kms_page.specs.Page.{ordered, page_from, page_of_rows}
use Rattle.kms_page.proofs.OrderLaws.{place_total}
use Rattle.kms_page.proofs.SortedLaws.{IsPermutation-sorted}
use Rattle.kms_page.proofs.WalkLaws.{all_pages}
use Rattle.kms_page.proofs.laws.pages_are_the_rows_in_their_order.Goals as goal

pub returns-clause-pages : goal.returns-clause-pages
unfolding page_of_rows page_from ordered filtered passes
returns-clause-pages c n enough =
    all_pages (ordered c.args.rows.now c.args.shown.now c.args.query.now) (page_of_rows c.args.rows.now c.args.shown.now) c.args.query.now (λ offset. refl) n enough

pub returns-clause-total : goal.returns-clause-total
unfolding page_of_rows page_from ordered filtered passes
returns-clause-total c offset =
    length_permutation (filtered c.args.rows.now c.args.shown.now c.args.query.now) (ordered c.args.rows.now c.args.shown.now c.args.query.now)
    (IsPermutation-sorted (place_cmp c.args.rows.now c.args.query.now.sort) (place_total _ _) (filtered c.args.rows.now c.args.shown.now c.args.query.now))
