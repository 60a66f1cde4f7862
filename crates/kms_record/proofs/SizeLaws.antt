-- How long spellings are.
use Rattle.std.proofs.Common.{◌≡◌, ℕ, suc, ◌+◌, ◌*◌, ◌^◌, ◌≤◌, ◌<◌, Bool, true, false, List, [], ◌∷◌, length, Option, Some, None, refl, arith, length-append}
use Rattle.std.specs.Prelude.{IfSome, sum_by}
use Rattle.std.specs.List.{flat_map, AllByRecursion}
use Rattle.std.proofs.lemmas.List.Concat.{flat_map-cons, length-flat_map}
use Rattle.std.proofs.lemmas.List.Sums.{sum_by-cons}
use Rattle.kms_record.specs.declared.change.Change.{Change}
use Rattle.kms_record.specs.declared.change.Change.TheVariants as changes
use Rattle.kms_record.specs.declared.key.WrappedKey.{WrappedKey}
use Rattle.kms_record.specs.declared.key.KeyDropped.{KeyDropped}
use Rattle.kms_record.specs.declared.payload.TokenReplaced.{TokenReplaced}
use Rattle.kms_record.specs.declared.payload.PayloadPut.{PayloadPut}
use Rattle.kms_record.specs.declared.secret_put.SecretPut.{SecretPut}
use Rattle.kms_record.specs.declared.metadata.MetadataPut.{MetadataPut}
use Rattle.kms_record.specs.declared.container.ContainerPut.{ContainerPut}
use Rattle.kms_record.specs.declared.consumer.ConsumerAdded.{ConsumerAdded}
use Rattle.kms_record.specs.declared.consumer.ConsumerDropped.{ConsumerDropped}
use Rattle.kms_record.specs.declared.acl.AclPut.{AclPut}
use Rattle.kms_record.specs.declared.order.OrderPut.{OrderPut}
use Rattle.kms_record.specs.declared.quota.QuotaPut.{QuotaPut}
use Rattle.kms_record.specs.declared.member.Member.{Member}
use Rattle.kms_record.specs.declared.order.OrderPutState.{OrderPutState}
use Rattle.kms_record.specs.declared.order.OrderPutState.TheVariants.{Pending, Active, Error}
use Rattle.kms_record.specs.declared.quota.QuotaLimits.{QuotaLimits}
use Rattle.kms_record.specs.declared.quota.QuotaLimit.{QuotaLimit}
use Rattle.kms_record.specs.declared.quota.QuotaLimit.TheVariants.{Unlimited, AtMost}
use Rattle.kms_record.specs.Fields.{u8_bytes, u16_bytes, u32_bytes, u64_bytes, text_bytes, option_bytes, mark_bytes, token_bytes, secret_kind_number, container_kind_number, media_number, cause_number, IsShort}
use Rattle.kms_record.specs.Size.{most_bytes}
use Rattle.kms_record.specs.Grammar.{change_bytes, IsChangeInRange, step_bytes, IsStepInRange, record_bytes}
use Rattle.kms_record.specs.Key.{wrapped_key_bytes, IsWrappedKeyInRange, key_dropped_bytes, IsKeyDroppedInRange}
use Rattle.kms_record.specs.Payload.{token_replaced_bytes, IsTokenReplacedInRange, payload_put_bytes, IsPayloadPutInRange}
use Rattle.kms_record.specs.SecretPut.{secret_put_bytes, IsInRange}
use Rattle.kms_record.specs.Metadata.{pair_bytes, IsPairInRange, ArePairsInRange, metadata_put_bytes, IsMetadataPutInRange}
use Rattle.kms_record.specs.Container.{member_bytes, IsMemberInRange, AreMembersInRange, container_put_bytes, IsContainerPutInRange}
use Rattle.kms_record.specs.Consumer.{consumer_added_bytes, IsConsumerAddedInRange, consumer_dropped_bytes, IsConsumerDroppedInRange}
use Rattle.kms_record.specs.Acl.{IsUserInRange, AreUsersInRange, acl_put_bytes, IsAclPutInRange}
use Rattle.kms_record.specs.Order.{state_bytes, order_put_bytes, IsOrderPutInRange}
use Rattle.kms_record.specs.Quota.{limit_bytes, limits_bytes, quota_put_bytes, IsQuotaPutInRange}

length-u8 : (n : ℕ) → length (u8_bytes n) ≡ 1
unfolding u8_bytes
length-u8 n = refl

length-u16 : (n : ℕ) → length (u16_bytes n) ≡ 2
unfolding u16_bytes
length-u16 n = refl

length-u32 : (n : ℕ) → length (u32_bytes n) ≡ 4
unfolding u32_bytes
length-u32 n = refl

length-u64 : (n : ℕ) → length (u64_bytes n) ≡ 8
unfolding u64_bytes
length-u64 n = refl

length-text : (t : List ℕ) → length (text_bytes t) ≡ 2 + length t
unfolding text_bytes
length-text t = omega (arith, length-append (u16_bytes (length t)) t, length-u16 (length t))

optional_text_is_short : (o : Option (List ℕ)) → IfSome o IsShort → length (option_bytes text_bytes o) ≤ 258
optional_text_is_short None h = omega arith
optional_text_is_short (Some t) h = omega (arith, length-text t)

optional_u16_is_short : (o : Option ℕ) → length (option_bytes u16_bytes o) ≤ 3
optional_u16_is_short None = omega arith
optional_u16_is_short (Some n) = omega (arith, length-u16 n)

optional_u64_is_short : (o : Option ℕ) → length (option_bytes u64_bytes o) ≤ 9
optional_u64_is_short None = omega arith
optional_u64_is_short (Some n) = omega (arith, length-u64 n)

length-mark : (b : Bool) → length (mark_bytes b) ≡ 1
unfolding mark_bytes
length-mark true = refl
length-mark false = refl

length-token : (t : List ℕ) → length (token_bytes t) ≡ 4 + length t
unfolding token_bytes
length-token t = omega (arith, length-append (u32_bytes (length t)) t, length-u32 (length t))

flat_map_is_short : {A : Type 0} (spell : A → List ℕ) (P : A → Type 0) (most : ℕ) → ((x : A) → P x → length (spell x) ≤ most) → (xs : List A) → AllByRecursion P xs → length (flat_map spell xs) ≤ most * length xs
flat_map_is_short {A} spell P most each [] all = omega arith
flat_map_is_short {A} spell P most each (x ∷ xs) all =
    let first : length (spell x) ≤ most = each x all.0 in
    let others : length (flat_map spell xs) ≤ most * length xs = flat_map_is_short spell P most each xs all.1 in
    let grown : most * suc (length xs) ≡ most * length xs + most = grind arith in
    rw flat_map-cons (omega (arith, length-append (spell x) (flat_map spell xs), first, others, grown))

pair_is_short : (pair : List ℕ × List ℕ) → IsPairInRange pair → length (pair_bytes pair) ≤ 514
unfolding pair_bytes
pair_is_short pair r = omega (arith, length-append (text_bytes pair.0) (text_bytes pair.1), length-text pair.0, length-text pair.1, r.key, r.value)

pairs_are_short : (pairs : List (List ℕ × List ℕ)) → ArePairsInRange pairs → length (u8_bytes (length pairs)) + length (flat_map pair_bytes pairs) ≤ 51401
pairs_are_short pairs r =
    omega (arith, length-u8 (length pairs), flat_map_is_short pair_bytes IsPairInRange 514 pair_is_short pairs r.each, r.few)

member_is_short : (member : Member) → IsMemberInRange member → length (member_bytes member) ≤ 266
unfolding member_bytes
member_is_short member r = omega (arith, length-append (option_bytes text_bytes member.name) (u64_bytes member.secret), optional_text_is_short member.name r.name, length-u64 member.secret)

members_are_short : (members : List Member) → AreMembersInRange members → length (u8_bytes (length members)) + length (flat_map member_bytes members) ≤ 26601
members_are_short members r =
    omega (arith, length-u8 (length members), flat_map_is_short member_bytes IsMemberInRange 266 member_is_short members r.each, r.few)

users_are_short : (users : List (List ℕ)) → AreUsersInRange users → length (u8_bytes (length users)) + length (flat_map text_bytes users) ≤ 6601
users_are_short users r =
    omega (arith, length-u8 (length users), flat_map_is_short text_bytes IsUserInRange 66 (λ u h. omega (arith, length-text u, h)) users r.each, r.few)

state_is_short : (state : OrderPutState) → length (state_bytes state) ≤ 9
state_is_short Pending = omega arith
state_is_short (Active secret) = omega (arith, length-u64 secret)
state_is_short (Error cause) = omega (arith, length-u8 (cause_number cause))

limit_is_short : (limit : Option QuotaLimit) → length (limit_bytes limit) ≤ 5
limit_is_short None = omega arith
limit_is_short (Some Unlimited) = omega arith
limit_is_short (Some (AtMost count)) = omega (arith, length-u32 count)

limits_are_short : (limits : Option QuotaLimits) → length (option_bytes limits_bytes limits) ≤ 21
unfolding limits_bytes
limits_are_short None = omega arith
limits_are_short (Some limits) = simp length-append (omega (arith, limit_is_short limits.secrets, limit_is_short limits.orders, limit_is_short limits.containers, limit_is_short limits.consumers))

wrapped_key_is_short : (put : WrappedKey) → IsWrappedKeyInRange put → length (wrapped_key_bytes put) ≤ 210
unfolding wrapped_key_bytes
wrapped_key_is_short put r = simp length-append (omega (arith, length-text put.project, r.project, length-u32 put.number, r.wrapped))

key_dropped_is_short : (put : KeyDropped) → IsKeyDroppedInRange put → length (key_dropped_bytes put) ≤ 70
unfolding key_dropped_bytes
key_dropped_is_short put r = simp length-append (omega (arith, length-text put.project, r.project, length-u32 put.number))

token_replaced_is_short : (put : TokenReplaced) → IsTokenReplacedInRange put → length (token_replaced_bytes put) ≤ 26780
unfolding token_replaced_bytes
token_replaced_is_short put r = simp length-append (omega (arith, length-u64 put.secret, length-u32 put.number, length-token put.token, r.token.1))

payload_put_is_short : (put : PayloadPut) → IsPayloadPutInRange put → length (payload_put_bytes put) ≤ 26789
unfolding payload_put_bytes
payload_put_is_short put r = simp length-append (omega (arith, length-u64 put.secret, length-u64 put.updated, length-u8 (media_number put.media), length-u32 put.number, length-token put.token, r.token.1))

secret_put_is_short : (put : SecretPut) → IsInRange put → length (secret_put_bytes put) ≤ 943
unfolding secret_put_bytes
secret_put_is_short put r = simp length-append (omega (arith, length-u64 put.id, length-text put.project, r.project, length-text put.creator, r.creator, length-u64 put.created, length-u64 put.updated, optional_text_is_short put.name r.name, optional_text_is_short put.algorithm r.algorithm, optional_u16_is_short put.bit_length, optional_text_is_short put.mode r.mode, length-u8 (secret_kind_number put.kind), optional_u64_is_short put.expiration))

metadata_put_is_short : (put : MetadataPut) → IsMetadataPutInRange put → length (metadata_put_bytes put) ≤ 51417
unfolding metadata_put_bytes
metadata_put_is_short put r = simp length-append (omega (arith, length-u64 put.secret, length-u64 put.updated, pairs_are_short put.pairs r.pairs))

container_put_is_short : (put : ContainerPut) → IsContainerPutInRange put → length (container_put_bytes put) ≤ 27016
unfolding container_put_bytes
container_put_is_short put r = simp length-append (omega (arith, length-u64 put.id, length-text put.project, r.project, length-text put.creator, r.creator, length-u64 put.created, length-u64 put.updated, optional_text_is_short put.name r.name, length-u8 (container_kind_number put.kind), members_are_short put.members r.members))

consumer_added_is_short : (put : ConsumerAdded) → IsConsumerAddedInRange put → length (consumer_added_bytes put) ≤ 530
unfolding consumer_added_bytes
consumer_added_is_short put r = simp length-append (omega (arith, length-u64 put.container, length-text put.name, r.name, length-text put.url, r.url, length-u64 put.created))

consumer_dropped_is_short : (put : ConsumerDropped) → IsConsumerDroppedInRange put → length (consumer_dropped_bytes put) ≤ 522
unfolding consumer_dropped_bytes
consumer_dropped_is_short put r = simp length-append (omega (arith, length-u64 put.container, length-text put.name, r.name, length-text put.url, r.url))

acl_put_is_short : (put : AclPut) → IsAclPutInRange put → length (acl_put_bytes put) ≤ 6626
unfolding acl_put_bytes
acl_put_is_short put r = simp length-append (omega (arith, length-u64 put.target, length-mark put.project_access, length-u64 put.created, length-u64 put.updated, users_are_short put.users r.users))

order_put_is_short : (put : OrderPut) → IsOrderPutInRange put → length (order_put_bytes put) ≤ 949
unfolding order_put_bytes
order_put_is_short put r = simp length-append (omega (arith, length-u64 put.id, length-text put.project, r.project, length-text put.creator, r.creator, length-u64 put.created, length-u64 put.updated, length-text put.algorithm, r.algorithm, length-u16 put.bit_length, optional_text_is_short put.mode r.mode, optional_text_is_short put.name r.name, optional_u64_is_short put.expiration, state_is_short put.state))

quota_put_is_short : (put : QuotaPut) → IsQuotaPutInRange put → length (quota_put_bytes put) ≤ 87
unfolding quota_put_bytes
quota_put_is_short put r = simp length-append (omega (arith, length-text put.project, r.project, limits_are_short put.limits))

pub change_is_short : (change : Change) → IsChangeInRange change → length (change_bytes change) ≤ most_bytes change
change_is_short (changes.KeyAdded put) r = omega (arith, wrapped_key_is_short put r)
change_is_short (changes.KeyRewrapped put) r = omega (arith, wrapped_key_is_short put r)
change_is_short (changes.TokenReplaced put) r = omega (arith, token_replaced_is_short put r)
change_is_short (changes.KeyDropped put) r = omega (arith, key_dropped_is_short put r)
change_is_short (changes.SecretPut put) r = omega (arith, secret_put_is_short put r)
change_is_short (changes.PayloadPut put) r = omega (arith, payload_put_is_short put r)
change_is_short (changes.MetadataPut put) r = omega (arith, metadata_put_is_short put r)
change_is_short (changes.ContainerPut put) r = omega (arith, container_put_is_short put r)
change_is_short (changes.ConsumerAdded put) r = omega (arith, consumer_added_is_short put r)
change_is_short (changes.ConsumerDropped put) r = omega (arith, consumer_dropped_is_short put r)
change_is_short (changes.AclPut put) r = omega (arith, acl_put_is_short put r)
change_is_short (changes.AclDropped put) r = omega (arith, length-u64 put)
change_is_short (changes.OrderPut put) r = omega (arith, order_put_is_short put r)
change_is_short (changes.QuotaPut put) r = omega (arith, quota_put_is_short put r)
change_is_short (changes.Deleted put) r = omega (arith, length-u64 put)

changes_are_short : (changes : List Change) → AllByRecursion IsChangeInRange changes → length (flat_map change_bytes changes) ≤ sum_by most_bytes changes
changes_are_short [] each = omega arith
changes_are_short (change ∷ changes) each =
    rw (flat_map-cons, sum_by-cons) (omega (arith, length-append (change_bytes change) (flat_map change_bytes changes), change_is_short change each.0, changes_are_short changes each.1))

pub most_is_few : (change : Change) → most_bytes change < 65536
most_is_few (changes.KeyAdded put) = omega arith
most_is_few (changes.KeyRewrapped put) = omega arith
most_is_few (changes.TokenReplaced put) = omega arith
most_is_few (changes.KeyDropped put) = omega arith
most_is_few (changes.SecretPut put) = omega arith
most_is_few (changes.PayloadPut put) = omega arith
most_is_few (changes.MetadataPut put) = omega arith
most_is_few (changes.ContainerPut put) = omega arith
most_is_few (changes.ConsumerAdded put) = omega arith
most_is_few (changes.ConsumerDropped put) = omega arith
most_is_few (changes.AclPut put) = omega arith
most_is_few (changes.AclDropped put) = omega arith
most_is_few (changes.OrderPut put) = omega arith
most_is_few (changes.QuotaPut put) = omega arith
most_is_few (changes.Deleted put) = omega arith

pub step_is_short_lem : (step : List Change) → IsStepInRange step → length (step_bytes step) ≤ 2 + sum_by most_bytes step
step_is_short_lem step is = omega (arith, length-append (u16_bytes (length step)) (flat_map change_bytes step), length-u16 (length step), changes_are_short step is.each)

pub length-record_bytes : (steps : List (List Change)) → length (record_bytes steps) ≡ 4 + sum_by (λ step. length (step_bytes step)) steps
length-record_bytes steps = omega (arith, length-append (u32_bytes (length steps)) (flat_map step_bytes steps), length-u32 (length steps), length-flat_map step_bytes steps)

steps_are_short : (steps : List (List Change)) → AllByRecursion (λ step. length (step_bytes step) < 2 ^ 16) steps → length (flat_map step_bytes steps) ≤ 2 ^ 16 * length steps
steps_are_short [] each = omega arith
steps_are_short (step ∷ steps) each =
    rw flat_map-cons (omega (arith, length-append (step_bytes step) (flat_map step_bytes steps), each.0, steps_are_short steps each.1))

pub record_is_short : (steps : List (List Change)) → AllByRecursion (λ step. length (step_bytes step) < 2 ^ 16) steps → length (record_bytes steps) ≤ 4 + 2 ^ 16 * length steps
record_is_short steps each = omega (arith, length-append (u32_bytes (length steps)) (flat_map step_bytes steps), length-u32 (length steps), steps_are_short steps each)
