use Rattle.std.proofs.Common.{◌≡◌, ℕ, Bool, true, ◌==◌, List, [], ◌∷◌, length, refl, sym, subst, ◌∙◌, arith}
use Rattle.std.specs.Prelude.{IfOk}
use Rattle.std.proofs.lemmas.Bool.{eqb-true}
use Rattle.kms_page.specs.declared.sorts.SortKey.{SortKey}
use Rattle.kms_page.specs.Page.{page_from, page_of_rows}
use Rattle.kms_page.proofs.PlainLaws.{ordered_by_none, filtered_by_none}
use Rattle.kms_page.proofs.paging.page.Goals as goal

none : (sorts : List (SortKey × Bool)) → (length sorts == 0) ≡ true → sorts ≡ []
none [] h = refl
none (s ∷ sorts) h = absurd (let e = eqb-true _ _ h in omega arith)

pub returns-then-has_filter : goal.returns-then-has_filter
unfolding page_of_rows
returns-then-has_filter g c =
    let no_key = sym c.as_slice.ensures ∙ none c.as_slice.result.now (sym c.if-not-is_empty.ensures) in
    subst (λ (l : List ℕ). IfOk c.filtered_page.result (λ page. page ≡ page_from l c.args.query.now))
    (sym (ordered_by_none (g.R.Rows.listed c.args.rows.now) c.args.shown.now c.args.query.now no_key)) c.filtered_page.ensures

pub returns : goal.returns
unfolding page_of_rows
returns g c =
    let no_key = sym c.as_slice.ensures ∙ none c.as_slice.result.now (sym c.if-not-is_empty.ensures) in
    let no_filter = sym c.if-has_filter.ensures in
    subst (λ (l : List ℕ). IfOk c.page_of.result (λ page. page ≡ page_from l c.args.query.now))
    (sym (ordered_by_none (g.R.Rows.listed c.args.rows.now) c.args.shown.now c.args.query.now no_key
    ∙ filtered_by_none (g.R.Rows.listed c.args.rows.now) c.args.shown.now c.args.query.now no_filter c.requires)) c.page_of.ensures
