use Rattle.std.proofs.Common.{take}
use Rattle.kms_page.specs.Filter.{filtered}
use Rattle.kms_page.proofs.PageLaws.{IsWalked}
use Rattle.kms_page.proofs.paging.filtered_page.Given as goal

abbrev pub invariant-loop-place : goal.invariant-loop-place
invariant-loop-place g l =
    IsWalked l.query (filtered (g.R.Rows.listed l.rows) (take l.place-index l.shown) l.query) l.at.items l.total l.place-index
