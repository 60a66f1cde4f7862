use Rattle.std.proofs.Common.{◌≡◌, List, map, ap, ◌∙◌}
use Rattle.std.proofs.lemmas.Result.{IfOk-weaker}
use Rattle.kms_page.specs.Page.{page_of_list, page_of_rows, rows_at}
use Rattle.kms_page.specs.declared.places.Page.{Page}
use Rattle.kms_store.specs.KeptSecret.{without_number}
use Rattle.kms_world.specs.Secret.{attributes_of}
use Rattle.kms_world.specs.declared.secret.SecretRow.{SecretRow}
use Rattle.kms_operations.proofs.ListLaws.{attributes_on_page, total_on_page}
use Rattle.kms_operations.proofs.secret_list.page_at.Goals as goal

pub returns-clause-at : goal.returns-clause-at
returns-clause-at c =
    let rows = c.args.rows.now.kept.state.secrets in
    let places = c.args.places.now in
    let query = c.args.query.now in
    let same = ap (λ (l : List SecretRow). page_of_rows (map without_number l) places query) c.secrets.ensures in
    IfOk-weaker c.page.result (λ page. page ≡ page_of_rows (map without_number c.secrets.result.now) places query)
    (λ page. map attributes_of (rows_at rows page.at) ≡ map attributes_of (page_of_list (rows_at rows places) query).0)
    (λ page is. ap (λ (p : Page). map attributes_of (rows_at rows p.at)) (is ∙ same) ∙ attributes_on_page rows places query) c.page.ensures

pub returns-clause-total : goal.returns-clause-total
returns-clause-total c =
    let rows = c.args.rows.now.kept.state.secrets in
    let places = c.args.places.now in
    let query = c.args.query.now in
    let same = ap (λ (l : List SecretRow). page_of_rows (map without_number l) places query) c.secrets.ensures in
    IfOk-weaker c.page.result (λ page. page ≡ page_of_rows (map without_number c.secrets.result.now) places query)
    (λ page. page.total ≡ (page_of_list (rows_at rows places) query).1)
    (λ page is. ap (λ (p : Page). p.total) (is ∙ same) ∙ total_on_page rows places query) c.page.ensures
