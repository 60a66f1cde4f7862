use Rattle.std.proofs.Common.{◌≡◌, true, false, get_or, take, refl, sym, ap, ◌∙◌, arith}
use Rattle.kms_page.specs.Filter.{passes_at, filtered}
use Rattle.kms_page.proofs.PageLaws.{filtered_more, IsWalked-none, IsWalked-more, IsWalked-skip, IsWalked-all}
use Rattle.kms_page.proofs.paging.filtered_page.Goals as goal
use Rattle.kms_page.proofs.paging.filtered_page.Goals.{then-passes_at+in_ok-keep, else-passes_at}

pub loop-place-init : goal.loop-place-init
loop-place-init g c = IsWalked-none (g.R.Rows.listed c.args.rows.now) c.args.query.now c.new-at.result.items c.new-at.ensures.items

pub loop-place-preserved : goal.loop-place-preserved
loop-place-preserved g c =
    let place = get_or c.args.shown.now c.loop-place.place-index 0 in
    let passed = filtered (g.R.Rows.listed c.args.rows.now) (take c.loop-place.place-index c.args.shown.now) c.args.query.now in
    let more = filtered_more (g.R.Rows.listed c.args.rows.now) c.args.shown.now c.args.query.now c.loop-place.place-index place (omega arith) refl in
    elim c.if-passes_at.branch [
      | then-passes_at+in_ok-keep w ↦
          let pass : passes_at (g.R.Rows.listed c.args.rows.now) c.args.query.now place ≡ true = sym c.passes_at.ensures ∙ w.if-passes_at.true in
          rw (w.total-is, rw pass at more)
          (IsWalked-more c.args.query.now passed c.loop-place.at.items c.if-passes_at.at.items c.loop-place.total c.loop-place.place-index place
          c.loop-place.invariant (ap (λ v. v.items) w.at-is ∙ w.in_ok-keep.ensures))
      | else-passes_at w ↦
          let fails : passes_at (g.R.Rows.listed c.args.rows.now) c.args.query.now place ≡ false = sym c.passes_at.ensures ∙ w.if-passes_at.false in
          rw (w.at-is, w.total-is, rw fails at more)
          (IsWalked-skip c.args.query.now passed c.loop-place.at.items c.loop-place.total c.loop-place.place-index c.loop-place.invariant)
    ]

pub returns : goal.returns
returns g c =
    rw c.from_vec.ensures (IsWalked-all (g.R.Rows.listed c.args.rows.now) c.args.shown.now c.args.query.now c.loop-place.at.items c.loop-place.total c.loop-place.place-index
    (omega arith) c.loop-place.invariant)
