use Rattle.std.proofs.Common.{sym, ap, ◌∙◌}
use Rattle.kms_model.specs.Accept.{admits}
use Rattle.kms_operations.proofs.PayloadLaws.{shown_by}
use Rattle.kms_operations.proofs.payloads.shown.Goals as goal

pub returns-clause-plans : goal.returns-clause-plans
returns-clause-plans c =
    shown_by c.args.rows.now.kept.state c.args.caller.now c.args.id c.in-Some.at c.args.accept.now c.args.moment _ c.in_ok-secret.secret.now c.row.result.now c.in-Some-payload.payload
    c.in-Some.is c.live_secret-found.ensures.found c.in_ok-secret.ensures.finds c.row.ensures c.in-Some-payload.is
    (sym (ap (λ m. admits c.args.accept.now m) c.type_of.ensures) ∙ sym c.admits.ensures ∙ c.if-not-admits.false)
