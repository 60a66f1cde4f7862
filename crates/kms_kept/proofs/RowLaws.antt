-- The change that puts a row is the one that was put.
use Rattle.std.proofs.Common.{◌≡◌, ℕ, List, [], ◌∷◌, map, Option, Some, None, refl, sym, ap, subst, ◌∙◌}
use Rattle.std.specs.Prelude.{option_map}
use Rattle.std.specs.List.{AllByRecursion}
use Rattle.kms_record.specs.declared.acl.AclPut.{AclPut as Acl}
use Rattle.kms_record.specs.declared.change.Change.TheVariants.{ContainerPut, ConsumerAdded, AclPut, OrderPut, QuotaPut}
use Rattle.kms_record.specs.declared.consumer.ConsumerAdded.{ConsumerAdded as Consumer}
use Rattle.kms_record.specs.declared.container.ContainerPut.{ContainerPut as Container}
use Rattle.kms_record.specs.declared.member.Member.{Member}
use Rattle.kms_record.specs.declared.order.OrderPut.{OrderPut as Order}
use Rattle.kms_record.specs.declared.order.OrderPutState.{OrderPutState}
use Rattle.kms_record.specs.declared.order.OrderPutState.TheVariants.{Pending, Active, Error}
use Rattle.kms_record.specs.declared.quota.QuotaLimit.{QuotaLimit}
use Rattle.kms_record.specs.declared.quota.QuotaLimit.TheVariants.{Unlimited, AtMost}
use Rattle.kms_record.specs.declared.quota.QuotaLimits.{QuotaLimits}
use Rattle.kms_record.specs.declared.quota.QuotaPut.{QuotaPut as Quota}
use Rattle.kms_record.specs.Base.{member_of, container_put_of, consumer_added_of, acl_put_of, put_state, order_put_of, limit_of, quota_limits_of}
use Rattle.kms_record.specs.ChangeEffect.{row_member, container_at, consumer_at, acl_at, order_state_at, order_at, limit_value, quota_at}
use Rattle.kms_record.specs.Container.{IsMemberInRange}
use Rattle.kms_record.specs.Grammar.{IsChange}
use Rattle.kms_record.specs.Order.{IsStateInRange}
use Rattle.kms_kept.specs.OfGrammar.{IsContainer, IsConsumer, IsAcl, IsOrder, IsQuota}
use Rattle.kms_kept.proofs.CountLaws.{count_back}

-- ---- containers

members_back : (tag : ℕ) (members : List Member) → AllByRecursion IsMemberInRange members → map member_of (map (row_member tag) members) ≡ members
members_back tag [] each = refl
members_back tag (m ∷ ms) each =
    ap (λ (n : ℕ). let member : Member = record { name = m.name; secret = n } in member ∷ map member_of (map (row_member tag) ms)) (count_back tag m.secret each.0.secret)
    ∙ ap (λ (others : List Member). m ∷ others) (members_back tag ms each.1)

pub container_back : (tag : ℕ) (put : Container) → IsChange (ContainerPut put) → container_put_of (container_at tag put) ≡ put
container_back tag put fits =
    ap (λ (n : ℕ). let p : Container = record put { id = n; members = map member_of (map (row_member tag) put.members) } in p) (count_back tag put.id fits.0.id)
    ∙ ap (λ (ms : List Member). let p : Container = record put { members = ms } in p) (members_back tag put.members fits.0.members.each)

pub container_of_grammar : (tag : ℕ) (put : Container) → IsChange (ContainerPut put) → IsContainer tag (container_at tag put)
container_of_grammar tag put fits =
    let back = container_back tag put fits in
    record { put = ap (container_at tag) back; grammar = subst (λ (p : Container). IsChange (ContainerPut p)) (sym back) fits }

-- ---- consumers

consumer_back : (tag : ℕ) (put : Consumer) → IsChange (ConsumerAdded put) → consumer_added_of (consumer_at tag put) ≡ put
consumer_back tag put fits = ap (λ (n : ℕ). let p : Consumer = record put { container = n } in p) (count_back tag put.container fits.0.container)

pub consumer_of_grammar : (tag : ℕ) (put : Consumer) → IsChange (ConsumerAdded put) → IsConsumer tag (consumer_at tag put)
consumer_of_grammar tag put fits =
    let back = consumer_back tag put fits in
    record { put = ap (consumer_at tag) back; grammar = subst (λ (p : Consumer). IsChange (ConsumerAdded p)) (sym back) fits }

-- ---- access lists

acl_back : (tag : ℕ) (put : Acl) → IsChange (AclPut put) → acl_put_of (acl_at tag put) ≡ put
acl_back tag put fits = ap (λ (n : ℕ). let p : Acl = record put { target = n } in p) (count_back tag put.target fits.0.target)

pub acl_of_grammar : (tag : ℕ) (put : Acl) → IsChange (AclPut put) → IsAcl tag (acl_at tag put)
acl_of_grammar tag put fits =
    let back = acl_back tag put fits in
    record { put = ap (acl_at tag) back; grammar = subst (λ (p : Acl). IsChange (AclPut p)) (sym back) fits }

-- ---- orders

state_back : (tag : ℕ) (state : OrderPutState) → IsStateInRange state → put_state (order_state_at tag state) ≡ state
state_back tag Pending fits = refl
state_back tag (Active secret) fits = ap (λ (n : ℕ). Active n) (count_back tag secret fits)
state_back tag (Error cause) fits = refl

order_back : (tag : ℕ) (put : Order) → IsChange (OrderPut put) → order_put_of (order_at tag put) ≡ put
order_back tag put fits =
    ap (λ (n : ℕ). let p : Order = record put { id = n; state = put_state (order_state_at tag put.state) } in p) (count_back tag put.id fits.0.id)
    ∙ ap (λ (s : OrderPutState). let p : Order = record put { state = s } in p) (state_back tag put.state fits.0.state)

pub order_of_grammar : (tag : ℕ) (put : Order) → IsChange (OrderPut put) → IsOrder tag (order_at tag put)
order_of_grammar tag put fits =
    let back = order_back tag put fits in
    record { put = ap (order_at tag) back; grammar = subst (λ (p : Order). IsChange (OrderPut p)) (sym back) fits }

-- ---- quotas

limit_back : (limit : Option QuotaLimit) → option_map limit_of (option_map limit_value limit) ≡ limit
limit_back None = refl
limit_back (Some Unlimited) = refl
limit_back (Some (AtMost count)) = refl

limits_back : (project : List ℕ) (limits : QuotaLimits) → quota_limits_of (quota_at project limits) ≡ limits
limits_back project limits =
    ap (λ (o : Option QuotaLimit). let l : QuotaLimits = record (quota_limits_of (quota_at project limits)) { secrets = o } in l) (limit_back limits.secrets)
    ∙ ap (λ (o : Option QuotaLimit). let l : QuotaLimits = record (quota_limits_of (quota_at project limits)) { secrets = limits.secrets; orders = o } in l) (limit_back limits.orders)
    ∙ ap (λ (o : Option QuotaLimit). let l : QuotaLimits = record limits { containers = o; consumers = option_map limit_of (option_map limit_value limits.consumers) } in l) (limit_back limits.containers)
    ∙ ap (λ (o : Option QuotaLimit). let l : QuotaLimits = record limits { consumers = o } in l) (limit_back limits.consumers)

abbrev with_limits : (project : List ℕ) → QuotaLimits → Quota
with_limits project limits = record { project = project; limits = Some limits }

pub quota_of_grammar : (project : List ℕ) (limits : QuotaLimits) → IsChange (QuotaPut (with_limits project limits)) → IsQuota (quota_at project limits)
quota_of_grammar project limits fits =
    let back = limits_back project limits in
    record { put = ap (quota_at project) back; grammar = subst (λ (l : QuotaLimits). IsChange (QuotaPut (with_limits project l))) (sym back) fits }
