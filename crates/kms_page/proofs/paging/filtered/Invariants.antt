use Rattle.std.proofs.Common.{◌≡◌, take}
use Rattle.kms_page.specs.Filter as spec
use Rattle.kms_page.proofs.paging.filtered.Given as goal

abbrev pub invariant-loop-place : goal.invariant-loop-place
invariant-loop-place g l = l.places.items ≡ spec.filtered (g.R.Rows.listed l.rows) (take l.place-index l.shown) l.query
