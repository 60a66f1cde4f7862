use Rattle.std.proofs.Common.{◌∷◌, Bool, refl, sym, subst, ℕ, List, Option, None, Some}
use Rattle.kms_world.specs.State.{State}
use Rattle.kms_record.specs.declared.quota.QuotaLimits.{QuotaLimits}
use Rattle.kms_record.specs.ChangeEffect.{quota_effect}
use Rattle.kms_store.specs.declared.counts.Counts.{Counts}
use Rattle.kms_world.specs.Effect.{after_effect, with_payload, with_metadata}
use Rattle.kms_world.specs.Id.{id_at, is_id}
use Rattle.kms_record.specs.declared.change.Change.{Change}
use Rattle.kms_world.specs.declared.secret.SecretRow.{SecretRow}
use Rattle.kms_kept.specs.Kept.{state_changed, token_replaced}
use Rattle.kms_store.specs.Counts.{AreCounted}
use Rattle.kms_store.specs.Rows.{kept_in}
use Rattle.kms_store.proofs.TalliedLaws.{secrets_changed}
use Rattle.kms_store.proofs.counts.Counts.count.Goals as goal

pub returns-in-TokenReplaced-clause-counted : goal.returns-in-TokenReplaced-clause-counted
returns-in-TokenReplaced-clause-counted c =
    let s = (kept_in c.args.rows.now).state in
    let put = c.in-TokenReplaced.field-0 in
    let test : SecretRow → Bool = λ r. is_id (id_at s.tag put.secret) r.id in
    subst (λ (change : Change). AreCounted c.args.self.now (state_changed change s)) (sym c.in-TokenReplaced.is) (secrets_changed c.args.self.now s test (token_replaced (put.number ∷ put.token)) (λ row. refl) c.requires.counted)

pub returns-in-PayloadPut-clause-counted : goal.returns-in-PayloadPut-clause-counted
returns-in-PayloadPut-clause-counted c =
    let s = (kept_in c.args.rows.now).state in
    let put = c.in-PayloadPut.field-0 in
    let test : SecretRow → Bool = λ r. is_id (id_at s.tag put.secret) r.id in
    subst (λ (change : Change). AreCounted c.args.self.now (state_changed change s)) (sym c.in-PayloadPut.is) (secrets_changed c.args.self.now s test (with_payload put.updated (record { media = put.media; bytes = put.number ∷ put.token })) (λ row. refl) c.requires.counted)

pub returns-in-MetadataPut-clause-counted : goal.returns-in-MetadataPut-clause-counted
returns-in-MetadataPut-clause-counted c =
    let s = (kept_in c.args.rows.now).state in
    let put = c.in-MetadataPut.field-0 in
    let test : SecretRow → Bool = λ r. is_id (id_at s.tag put.secret) r.id in
    subst (λ (change : Change). AreCounted c.args.self.now (state_changed change s)) (sym c.in-MetadataPut.is) (secrets_changed c.args.self.now s test (with_metadata put.updated put.pairs) (λ row. refl) c.requires.counted)

-- what isn't a secret, a container, an order or a consumer isn't counted
pub returns-in-AclPut-clause-counted : goal.returns-in-AclPut-clause-counted
returns-in-AclPut-clause-counted c =
    let s = (kept_in c.args.rows.now).state in
    let counted = c.requires.counted in
    subst (λ (change : Change). AreCounted c.args.self.now (state_changed change s)) (sym c.in-AclPut.is)
    (record { secrets = counted.secrets; containers = counted.containers; orders = counted.orders; consumers = counted.consumers })

pub returns-in-AclDropped-clause-counted : goal.returns-in-AclDropped-clause-counted
returns-in-AclDropped-clause-counted c =
    let s = (kept_in c.args.rows.now).state in
    let counted = c.requires.counted in
    subst (λ (change : Change). AreCounted c.args.self.now (state_changed change s)) (sym c.in-AclDropped.is)
    (record { secrets = counted.secrets; containers = counted.containers; orders = counted.orders; consumers = counted.consumers })

quota_counted : (c : Counts) (project : List ℕ) (limits : Option QuotaLimits) (s : State) → AreCounted c s → AreCounted c (after_effect (quota_effect project limits) s)
quota_counted c project None s counted = record { secrets = counted.secrets; containers = counted.containers; orders = counted.orders; consumers = counted.consumers }
quota_counted c project (Some limits) s counted = record { secrets = counted.secrets; containers = counted.containers; orders = counted.orders; consumers = counted.consumers }

pub returns-in-QuotaPut-clause-counted : goal.returns-in-QuotaPut-clause-counted
returns-in-QuotaPut-clause-counted c =
    let s = (kept_in c.args.rows.now).state in
    let put = c.in-QuotaPut.field-0 in
    subst (λ (change : Change). AreCounted c.args.self.now (state_changed change s)) (sym c.in-QuotaPut.is) (quota_counted c.args.self.now put.project put.limits s c.requires.counted)
