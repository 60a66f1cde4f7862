use Rattle.std.proofs.Common.{◌≡◌, Some, sym, ap, ◌∙◌}
use Rattle.std.specs.Prelude.{option_map}
use Rattle.kms_world.specs.declared.secret.SecretRow.{SecretRow}
use Rattle.kms_store.specs.KeptSecret.{token_alone}
use Rattle.kms_sealing.proofs.PayloadLaws.{seen_as, opens_under, under_as}
use Rattle.kms_sealing.proofs.project_keys.ProjectKeys.opened.Goals as goal

pub returns-in-Err-clause-err : goal.returns-in-Err-clause-err
returns-in-Err-clause-err c = λ apart opens.
    let masters = c.args.self.now.masters in
    let rows = c.args.tables.now.kept.keys in
    let secret = c.args.secret.now in
    let is : option_map token_alone secret.payload ≡ Some c.in-Some.sealed = sym (ap (λ (r : SecretRow). r.payload) c.row-row.ensures) ∙ c.in-Some.is in
    let seen = seen_as secret.project rows secret.payload c.number-number.result c.in-Some.sealed c.requires.under c.number-number.ensures.token is in
    let o = opens_under masters rows secret.project secret.payload opens.0 c.number-number.result c.in-Some.sealed seen opens.1 in
    c.in-Err.ensures.err apart o.0
    (under_as masters rows c.keys.result.now secret.project c.row-row.result.now.project c.in-Some.sealed.bytes c.as_slice-token.result.now c.number-number.result o.0 (sym c.keys.ensures) (sym (ap (λ (r : SecretRow). r.project) c.row-row.ensures)) (sym c.as_slice-token.ensures) o.1)
