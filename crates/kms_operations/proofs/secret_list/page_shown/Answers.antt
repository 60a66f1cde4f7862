use Rattle.std.proofs.Common.{List, All, map, ap, subst, sym, ◌∙◌}
use Rattle.kms_page.specs.Page.{rows_at}
use Rattle.kms_world.specs.Secret.{attributes_of}
use Rattle.kms_world.specs.Times.{IsTimely}
use Rattle.kms_world.specs.declared.secret.SecretRow.{SecretRow}
use Rattle.kms_operations.proofs.ListLaws.{timely_secrets}
use Rattle.kms_operations.proofs.secret_list.page_shown.Goals as goal

pub returns-clause-times : goal.returns-clause-times
returns-clause-times c =
    let at = c.as_slice.result.now in
    subst (All IsTimely) (sym (c.in_ok-secrets.ensures ∙ ap (λ (l : List SecretRow). map attributes_of (rows_at l at)) c.secrets.ensures))
    (timely_secrets c.args.rows.now.kept at c.see.ensures)
