-- The plain key manager: what comes of an operation of a caller at a time, one equation for each operation; what it
-- answers, and the state after it.
use Rattle.std.specs.Prelude.{ℕ, Bool, List, Result, Err}
use Rattle.std.specs.List.{list_any}
use Rattle.kms_world.specs.Effect.{Effect, after_effects}
use Rattle.kms_world.specs.State.{State}
use Rattle.kms_world.specs.declared.caller.Caller.{Caller}
use Rattle.kms_world.specs.declared.operation.Op.{Op}
use Rattle.kms_world.specs.declared.operation.Op.TheVariants.{ListSecrets, PostSecret, GetSecret, PutPayload, DeleteSecret, GetPayload, GetMetadata, PutMetadata, PostPair, GetPair, PutPair, DeletePair, GetAcl, PutAcl, PatchAcl, DeleteAcl, ListContainers, PostContainer, GetContainer, DeleteContainer, PostMember, DeleteMember, ListConsumers, PostConsumer, DeleteConsumer, ListOrders, PostOrder, GetOrder, DeleteOrder, GetQuotas, ListQuotas, GetProjectQuotas, PutProjectQuotas, DeleteProjectQuotas}
use Rattle.kms_world.specs.declared.answer.Answer.{Answer}
use Rattle.kms_world.specs.declared.refusal.Refusal.{Refusal}
use Rattle.kms_world.specs.declared.refusal.Refusal.TheVariants.{NoRoute}
use Rattle.kms_model.specs.AccessLists.{acl_shown, acl_put, acl_patched, acl_deleted}
use Rattle.kms_model.specs.Consumers.{consumer_posted, consumer_deleted}
use Rattle.kms_model.specs.Containers.{container_posted, container_shown, container_deleted, member_posted, member_deleted}
use Rattle.kms_model.specs.Done.{Done, answer_by, effects_by, has_some}
use Rattle.kms_model.specs.Lists.{secrets_listed, containers_listed, consumers_listed, quotas_listed}
use Rattle.kms_model.specs.Metadata.{metadata_shown, metadata_put, pair_posted, pair_shown, pair_put, pair_deleted}
use Rattle.kms_model.specs.Payloads.{is_payload_put, payload_put, payload_shown}
use Rattle.kms_model.specs.Quotas.{quotas_shown, project_quotas_shown, project_quotas_put, project_quotas_deleted}
use Rattle.kms_model.specs.Secrets.{posted, shown, deleted}

-- an operation that isn't served is refused as a path that isn't there
abbrev pub asked : State → Caller → Op → ℕ → Result Done Refusal
asked s caller (ListSecrets query) t = secrets_listed s caller query t
asked s caller (PostSecret body) t = posted s caller body t
asked s caller (GetSecret id accept) t = shown s caller id accept t
asked s caller (PutPayload id put body) t = payload_put s caller id put body t
asked s caller (DeleteSecret id) t = deleted s caller id
asked s caller (GetPayload id accept) t = payload_shown s caller id accept t
asked s caller (GetMetadata id) t = metadata_shown s caller id t
asked s caller (PutMetadata id body) t = metadata_put s caller id body t
asked s caller (PostPair id body) t = pair_posted s caller id body t
asked s caller (GetPair id key) t = pair_shown s caller id key t
asked s caller (PutPair id key body) t = pair_put s caller id key body t
asked s caller (DeletePair id key) t = pair_deleted s caller id key t
asked s caller (GetAcl kind id) t = acl_shown s caller kind id t
asked s caller (PutAcl kind id body) t = acl_put s caller kind id body t
asked s caller (PatchAcl kind id body) t = acl_patched s caller kind id body t
asked s caller (DeleteAcl kind id) t = acl_deleted s caller kind id t
asked s caller (ListContainers query) t = containers_listed s caller query
asked s caller (PostContainer body) t = container_posted s caller body t
asked s caller (GetContainer id) t = container_shown s caller id
asked s caller (DeleteContainer id) t = container_deleted s caller id
asked s caller (PostMember id body) t = member_posted s caller id body t
asked s caller (DeleteMember id body) t = member_deleted s caller id body t
asked s caller (ListConsumers id query) t = consumers_listed s caller id query
asked s caller (PostConsumer id body) t = consumer_posted s caller id body t
asked s caller (DeleteConsumer id body) t = consumer_deleted s caller id body t
asked s caller (ListOrders query) t = Err NoRoute
asked s caller (PostOrder body) t = Err NoRoute
asked s caller (GetOrder id) t = Err NoRoute
asked s caller (DeleteOrder id) t = Err NoRoute
asked s caller GetQuotas t = quotas_shown s caller
asked s caller (ListQuotas query) t = quotas_listed s caller query
asked s caller (GetProjectQuotas project) t = project_quotas_shown s caller project
asked s caller (PutProjectQuotas project body) t = project_quotas_put s caller project body
asked s caller (DeleteProjectQuotas project) t = project_quotas_deleted s caller project

abbrev pub answer_to : State → Caller → Op → ℕ → Answer
answer_to s caller op t = answer_by (asked s caller op t)

abbrev pub effects_of : State → Caller → Op → ℕ → List Effect
effects_of s caller op t = effects_by (asked s caller op t)

abbrev pub state_after : State → Caller → Op → ℕ → State
state_after s caller op t = after_effects (effects_of s caller op t) s

-- the operation is accepted and writes
abbrev pub stores : State → Caller → Op → ℕ → Bool
stores s caller op t = has_some (effects_of s caller op t)

-- it is accepted, and puts a payload
abbrev pub puts_payload : State → Caller → Op → ℕ → Bool
puts_payload s caller op t = list_any is_payload_put (effects_of s caller op t)
