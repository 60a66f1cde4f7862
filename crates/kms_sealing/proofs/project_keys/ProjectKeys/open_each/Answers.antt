use Rattle.std.proofs.Common.{List, sym, ap, subst}
use Rattle.kms_world.specs.declared.id.Id.{Id}
use Rattle.kms_world.specs.declared.secret.SecretRow.{SecretRow}
use Rattle.kms_sealing.specs.Opening.{IsClosed}
use Rattle.kms_sealing.proofs.OpeningLaws.{closed_here}
use Rattle.kms_sealing.proofs.project_keys.ProjectKeys.open_each.Goals as goal

pub returns-in-Err-Closed-clause-err : goal.returns-in-Err-Closed-clause-err
returns-in-Err-Closed-clause-err c =
    let masters = c.args.self.now.masters in
    let keys = c.args.tables.now.kept.keys in
    let items = c.secrets-secret-items.result.now in
    let row = c.secret-item.result in
    let closed = rw c.in-Err-Closed.field-0-is at c.in-Err-Closed.ensures.err in
    subst (λ (rows : List SecretRow). IsClosed masters keys rows c.row.result.now.id) c.secrets-secret-items.ensures
    (subst (λ (i : Id). IsClosed masters keys items i) (sym (ap (λ (r : SecretRow). r.id) c.row.ensures))
    (closed_here masters keys items row c.loop-secret.secret-index c.loop-secret-test.true c.secret-item.is c.loop-secret.invariant (closed (λ e. cc))))
