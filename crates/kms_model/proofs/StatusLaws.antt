-- Each answer that has a status of its own has one of success.
use Rattle.std.proofs.Common.{ℕ, Bool, true, false, if◌then◌else◌, inl, inr, None, Result, Ok, Err, refl}
use Rattle.std.specs.Prelude.{is_none}
use Rattle.std.specs.Str.{bytes_eq}
use Rattle.kms_box.specs.Consumer.{checked_consumer}
use Rattle.kms_box.specs.Member.{checked_member}
use Rattle.kms_page.specs.declared.listing.Listing.TheVariants as listing
use Rattle.kms_policy.specs.Acl.{change_of}
use Rattle.kms_policy.specs.Limits.{limits_of}
use Rattle.kms_secret.specs.Metadata.{checked_metadata, checked_pair}
use Rattle.kms_secret.specs.Payload.{checked_payload}
use Rattle.kms_world.specs.LookUp.{quota_of}
use Rattle.kms_world.specs.State.{State}
use Rattle.kms_world.specs.declared.action.Action.TheVariants.{SecretGet, SecretDecrypt, SecretWrite, SecretDelete, SecretList, AclGet, AclWrite, ContainerGet, ContainerWrite, ContainerDelete, ContainerList, ConsumerGet, ConsumerWrite, QuotaGet, QuotaAdmin}
use Rattle.kms_world.specs.declared.caller.Caller.{Caller}
use Rattle.kms_world.specs.declared.operation.Op.{Op}
use Rattle.kms_world.specs.declared.operation.Op.TheVariants.{ListSecrets, PostSecret, GetSecret, PutPayload, DeleteSecret, GetPayload, GetMetadata, PutMetadata, PostPair, GetPair, PutPair, DeletePair, GetAcl, PutAcl, PatchAcl, DeleteAcl, ListContainers, PostContainer, GetContainer, DeleteContainer, PostMember, DeleteMember, ListConsumers, PostConsumer, DeleteConsumer, GetQuotas, ListQuotas, GetProjectQuotas, PutProjectQuotas, DeleteProjectQuotas}
use Rattle.kms_world.specs.declared.quota.QuotaKind.TheVariants.{Secrets, Containers, Consumers}
use Rattle.kms_world.specs.declared.refusal.Field.TheVariants.{Key}
use Rattle.kms_world.specs.declared.refusal.Refusal.{Refusal}
use Rattle.kms_world.specs.declared.refusal.Refusal.TheVariants.{BadBody, Conflict, IdsSpent, NoObject, NotAcceptable}
use Rattle.kms_world.specs.declared.reply.Media2.TheVariants.{Json}
use Rattle.kms_model.specs.Accept.{admits}
use Rattle.kms_model.specs.AccessLists.{target_for}
use Rattle.kms_model.specs.Ask.{answer_to}
use Rattle.kms_model.specs.Consumers.{consumer_added, is_there}
use Rattle.kms_model.specs.Containers.{any_container, container_for, container_wanted, gives_up_member, takes_member}
use Rattle.kms_model.specs.Done.{Done, ◌>>=◌, answer_by, only_if, there}
use Rattle.kms_model.specs.Lists.{query_asked}
use Rattle.kms_model.specs.Metadata.{may_add, pair_of}
use Rattle.kms_model.specs.Payloads.{type_of}
use Rattle.kms_model.specs.Permission.{granted}
use Rattle.kms_model.specs.Quotas.{within_quota}
use Rattle.kms_model.specs.Secrets.{any_secret, has_id, live_secret, secret_for, wanted}
use Rattle.kms_model.specs.Statuses.{HasStatus}

-- a refusal has none; else what comes after the test has one of success, if it has one
after : {A : Type 0} (test : Result A Refusal) (rest : A → Result Done Refusal) → ((x : A) → HasStatus (answer_by (rest x))) → HasStatus (answer_by (test >>= rest))
after (Ok x) rest h = h x
after (Err refusal) rest h = tt

either : (b : Bool) (x y : Result Done Refusal) → HasStatus (answer_by x) → HasStatus (answer_by y) → HasStatus (answer_by (if b then x else y))
either true x y first second = first
either false x y first second = second

pub has_status : (s : State) (caller : Caller) (op : Op) (t : ℕ) → HasStatus (answer_to s caller op t)
has_status s caller (PostSecret body) t =
    after (wanted caller body t) _ (λ a. after (within_quota s caller.project Secrets) _ (λ b. after (only_if (has_id s) IdsSpent) _ (λ c. inr (inl refl))))
has_status s caller (GetSecret id accept) t = after (secret_for s caller SecretGet (live_secret s id t)) _ (λ a. after (only_if (admits accept Json) NotAcceptable) _ (λ b. tt))
has_status s caller (PutPayload id put body) t =
    after (secret_for s caller SecretWrite (live_secret s id t)) _ (λ a. after (checked_payload put body) _ (λ b. after (only_if (is_none a.payload) Conflict) _ (λ c. inr (inr (inr refl)))))
has_status s caller (GetPayload id accept) t =
    after (secret_for s caller SecretDecrypt (live_secret s id t)) _ (λ a. after (there a.payload) _ (λ b. after (only_if (admits accept (type_of b.media)) NotAcceptable) _ (λ c. tt)))
has_status s caller (DeleteSecret id) t = after (secret_for s caller SecretDelete (any_secret s id)) _ (λ a. inr (inr (inr refl)))
has_status s caller (GetMetadata id) t = after (secret_for s caller SecretGet (live_secret s id t)) _ (λ a. tt)
has_status s caller (PutMetadata id body) t =
    after (secret_for s caller SecretWrite (live_secret s id t)) _ (λ a. after body _ (λ b. after (checked_metadata b) _ (λ c. inr (inl refl))))
has_status s caller (PostPair id body) t =
    after (secret_for s caller SecretWrite (live_secret s id t)) _ (λ a. after body _ (λ b. after (checked_pair b) _ (λ c. after (may_add c.0 a.metadata) _ (λ d. inr (inl refl)))))
has_status s caller (GetPair id key) t = after (secret_for s caller SecretGet (live_secret s id t)) _ (λ a. after (there (pair_of key a.metadata)) _ (λ b. inl refl))
has_status s caller (PutPair id key body) t =
    after (secret_for s caller SecretWrite (live_secret s id t)) _ (λ a. after (there (pair_of key a.metadata)) _ (λ b. after body _ (λ c. after (checked_pair c) _ (λ d. after (only_if (bytes_eq d.0 b.0) (BadBody Key)) _ (λ e. inl refl)))))
has_status s caller (DeletePair id key) t = after (secret_for s caller SecretWrite (live_secret s id t)) _ (λ a. after (there (pair_of key a.metadata)) _ (λ b. inr (inr (inr refl))))
has_status s caller (GetAcl kind id) t = after (target_for s caller AclGet kind id t) _ (λ a. tt)
has_status s caller (PutAcl kind id body) t = after (target_for s caller AclWrite kind id t) _ (λ a. after body _ (λ b. after (change_of b) _ (λ c. inl refl)))
has_status s caller (PatchAcl kind id body) t = after (target_for s caller AclWrite kind id t) _ (λ a. after body _ (λ b. after (change_of b) _ (λ c. inl refl)))
has_status s caller (DeleteAcl kind id) t = after (target_for s caller AclWrite kind id t) _ (λ a. inl refl)
has_status s caller (PostContainer body) t =
    after (container_wanted s caller body t) _ (λ a. after (within_quota s caller.project Containers) _ (λ b. after (only_if (has_id s) IdsSpent) _ (λ c. inr (inl refl))))
has_status s caller (GetContainer id) t = after (container_for s caller ContainerGet (any_container s id)) _ (λ a. tt)
has_status s caller (DeleteContainer id) t = after (container_for s caller ContainerDelete (any_container s id)) _ (λ a. inr (inr (inr refl)))
has_status s caller (PostMember id body) t =
    after (container_for s caller ContainerWrite (any_container s id)) _ (λ a. after body _ (λ b. after (checked_member b) _ (λ c. after (takes_member s caller a c t) _ (λ d. inr (inl refl)))))
has_status s caller (DeleteMember id body) t =
    after (container_for s caller ContainerWrite (any_container s id)) _ (λ a. after body _ (λ b. after (checked_member b) _ (λ c. after (gives_up_member a c) _ (λ d. inr (inr (inr refl))))))
has_status s caller (ListSecrets text) t = after (granted caller SecretList None) _ (λ a. after (query_asked listing.Secrets text) _ (λ b. tt))
has_status s caller (ListContainers text) t = after (granted caller ContainerList None) _ (λ a. after (query_asked listing.Containers text) _ (λ b. tt))
has_status s caller (ListConsumers id text) t = after (container_for s caller ConsumerGet (any_container s id)) _ (λ a. after (query_asked listing.Consumers text) _ (λ b. tt))
has_status s caller (ListQuotas text) t = after (granted caller QuotaAdmin None) _ (λ a. after (query_asked listing.Quotas text) _ (λ b. tt))
has_status s caller (PostConsumer id body) t =
    after (container_for s caller ConsumerWrite (any_container s id)) _ (λ a. after body _ (λ b. after (checked_consumer b) _
    (λ c. either (is_there s a.id c) _ (consumer_added s a c t) tt (after (within_quota s a.project Consumers) _ (λ d. tt)))))
has_status s caller (DeleteConsumer id body) t =
    after (container_for s caller ConsumerWrite (any_container s id)) _ (λ a. after body _ (λ b. after (checked_consumer b) _ (λ c. after (only_if (is_there s a.id c) NoObject) _ (λ d. tt))))
has_status s caller GetQuotas t = after (granted caller QuotaGet None) _ (λ a. tt)
has_status s caller (GetProjectQuotas project) t = after (there project) _ (λ a. after (granted caller QuotaAdmin None) _ (λ b. after (there (quota_of a s.quotas)) _ (λ c. tt)))
has_status s caller (PutProjectQuotas project body) t =
    after (there project) _ (λ a. after (granted caller QuotaAdmin None) _ (λ b. after body _ (λ c. after (limits_of c) _ (λ d. inr (inr (inr refl))))))
has_status s caller (DeleteProjectQuotas project) t =
    after (there project) _ (λ a. after (granted caller QuotaAdmin None) _ (λ b. after (there (quota_of a s.quotas)) _ (λ c. inr (inr (inr refl)))))
has_status s caller op t = tt
