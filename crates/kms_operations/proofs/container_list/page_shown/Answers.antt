use Rattle.std.proofs.Common.{◌≡◌, ℕ, List, All, length, map, ap, subst, sym, ◌∙◌}
use Rattle.std.specs.Prelude.{filter}
use Rattle.kms_model.specs.Containers.{view_of}
use Rattle.kms_model.specs.Lists.{cut, shows_container}
use Rattle.kms_page.specs.Page.{page_from, rows_at}
use Rattle.kms_world.specs.Times.{IsTimelyContainer}
use Rattle.kms_world.specs.declared.answer.ContainerView.{ContainerView}
use Rattle.kms_operations.proofs.ListLaws.{shown_on_page, timely_views, total_shown}
use Rattle.kms_operations.proofs.container_list.page_shown.Goals as goal

pub returns-clause-is : goal.returns-clause-is
returns-clause-is c =
    let s = c.args.rows.now.kept.state in
    let test = shows_container s c.args.caller.now in
    let places = c.in_ok-places.places.items in
    let query = c.args.query.now in
    let page : c.in_ok-page.page ≡ page_from places query = c.in_ok-page.ensures ∙ ap (λ (l : List ℕ). page_from l query) c.deref.ensures.value in
    let views : c.in_ok-views.views ≡ map (view_of s) (cut query (filter test s.containers)) =
    c.in_ok-views.ensures
    ∙ ap (λ (l : List ℕ). map (view_of s) (rows_at s.containers l)) c.as_slice.ensures
    ∙ ap (map (view_of s)) (shown_on_page test s.containers places c.in_ok-page.page query c.in_ok-places.ensures page) in
    let total : c.in_ok-page.page.total ≡ length (filter test s.containers) = total_shown test s.containers places c.in_ok-page.page query c.in_ok-places.ensures page in
    cc (c.in_ok-of.ensures, views, total)

pub returns-clause-times : goal.returns-clause-times
returns-clause-times c =
    subst (All (λ (view : ContainerView). IsTimelyContainer view.row)) (sym c.in_ok-views.ensures)
    (timely_views c.args.rows.now.kept c.as_slice.result.now c.see.ensures)
