use Rattle.std.proofs.Common.{◌≡◌, ℕ, List, length, ap, subst, ◌∙◌}
use Rattle.std.specs.Prelude.{filter}
use Rattle.kms_model.specs.Lists.{cut}
use Rattle.kms_page.specs.Page.{page_from, rows_at}
use Rattle.kms_world.specs.Id.{is_id}
use Rattle.kms_world.specs.declared.container.ConsumerRow.{ConsumerRow}
use Rattle.kms_operations.specs.Places.{AreThose}
use Rattle.kms_operations.proofs.ListLaws.{shown_on_page, total_shown}
use Rattle.kms_operations.proofs.consumer_list.page_shown.Goals as goal

pub returns : goal.returns
returns c =
    let s = c.args.rows.now.kept.state in
    let test = λ (r : ConsumerRow). is_id c.args.id r.container in
    let places = c.in_ok-places.places.items in
    let query = c.args.query.now in
    let those : AreThose test s.consumers (length s.consumers) places = subst (λ (l : List ConsumerRow). AreThose test l (length l) places) c.consumers.ensures c.in_ok-places.ensures in
    let page : c.in_ok-page.page ≡ page_from places query = c.in_ok-page.ensures ∙ ap (λ (l : List ℕ). page_from l query) c.deref.ensures.value in
    let shown : c.in_ok-consumers.consumers ≡ cut query (filter test s.consumers) =
    c.in_ok-consumers.ensures
    ∙ ap (λ (l : List ConsumerRow). rows_at l c.as_slice.result.now) c.consumers-2.ensures
    ∙ ap (rows_at s.consumers) c.as_slice.ensures
    ∙ shown_on_page test s.consumers places c.in_ok-page.page query those page in
    let total : c.in_ok-page.page.total ≡ length (filter test s.consumers) = total_shown test s.consumers places c.in_ok-page.page query those page in
    cc (c.in_ok-path_of.ensures, shown, total)
