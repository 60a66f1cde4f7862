use Rattle.std.proofs.Common.{◌≡◌, ℕ, ◌++◌, [], ◌∷◌, List, true, false, get_or, refl, sym, ap, ◌∙◌, arith}
use Rattle.kms_page.specs.Filter.{passes_at}
use Rattle.kms_page.proofs.PageLaws.{filtered_more, filtered_none}
use Rattle.kms_page.proofs.paging.filtered.Goals as goal
use Rattle.kms_page.proofs.paging.filtered.Goals.{then-passes_at+in_ok-push, else-passes_at}

pub loop-place-init : goal.loop-place-init
loop-place-init g c = c.new-places.ensures.items ∙ sym (filtered_none (g.R.Rows.listed c.args.rows.now) c.args.query.now)

pub loop-place-preserved : goal.loop-place-preserved
loop-place-preserved g c =
    let place = get_or c.args.shown.now c.loop-place.place-index 0 in
    let more = filtered_more (g.R.Rows.listed c.args.rows.now) c.args.shown.now c.args.query.now c.loop-place.place-index place (omega arith) refl in
    elim c.if-passes_at.branch [
      | then-passes_at+in_ok-push w ↦
          let pass : passes_at (g.R.Rows.listed c.args.rows.now) c.args.query.now place ≡ true = sym c.passes_at.ensures ∙ w.if-passes_at.true in
          ap (λ v. v.items) w.places-is ∙ w.in_ok-push.ensures.items
          ∙ ap (λ (l : List ℕ). l ++ place ∷ []) c.loop-place.invariant ∙ sym (rw pass at more)
      | else-passes_at w ↦
          let fails : passes_at (g.R.Rows.listed c.args.rows.now) c.args.query.now place ≡ false = sym c.passes_at.ensures ∙ w.if-passes_at.false in
          ap (λ v. v.items) w.places-is ∙ c.loop-place.invariant ∙ sym (rw fails at more)
    ]
