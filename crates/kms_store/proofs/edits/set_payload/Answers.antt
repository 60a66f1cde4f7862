use Rattle.std.proofs.Common.{◌≡◌, List, get_or, set, ap, sym, subst, ◌∙◌}
use Rattle.kms_world.specs.Effect.{with_payload}
use Rattle.kms_kept.specs.Snapshot.{sealed}
use Rattle.kms_world.specs.declared.secret.SecretRow.{SecretRow}
use Rattle.kms_store.specs.Table.{Tabular}
use Rattle.kms_store.proofs.TableLaws.{changed_there, changed_nowhere, still_indexed}
use Rattle.kms_store.proofs.edits.set_payload.Goals as goal

pub invariant_of-secrets : goal.invariant_of-secrets
invariant_of-secrets c =
    let table = c.secrets.inside in
    let old = c.index_mut-secret.result.now in
    still_indexed (λ (r : SecretRow). r.id) table.ids table.rows table.spare c.in-Some.at c.set_payload.new.self old c.secrets.invariant (ap (λ (r : SecretRow). r.id) (c.set_payload.ensures ∙ ap (with_payload c.args.updated (sealed c.args.number c.args.payload)) c.index_mut-secret.ensures.value))

pub returns-in-Some-clause-items : goal.returns-in-Some-clause-items
returns-in-Some-clause-items c =
    let rows = c.args.secrets.now.items in
    let old = c.index_mut-secret.result.now in
    let new = c.set_payload.new.self in
    let at = c.in-Some.at in
    let is = ap (λ (t : Tabular SecretRow). t.items) c.secrets.view_is in
    let value : old ≡ get_or rows at old = subst (λ (xs : List SecretRow). old ≡ get_or xs at old) is c.index_mut-secret.ensures.value in
    ap (λ (xs : List SecretRow). set xs at new) is
    ∙ changed_there (λ (r : SecretRow). r.id) c.args.id (with_payload c.args.updated (sealed c.args.number c.args.payload)) old new rows at c.requires (sym c.find_at.ensures ∙ c.in-Some.is) (c.set_payload.ensures ∙ ap (with_payload c.args.updated (sealed c.args.number c.args.payload)) value)

pub returns-in_default-clause-items : goal.returns-in_default-clause-items
returns-in_default-clause-items c = changed_nowhere (λ (r : SecretRow). r.id) c.args.id (with_payload c.args.updated (sealed c.args.number c.args.payload)) c.args.secrets.now.items (sym c.find_at.ensures ∙ c.in_default.is)
