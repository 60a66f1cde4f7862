-- What a request asks for, by its shape and the bytes of its body: where the operation has a JSON body, what that says.
use Rattle.std.specs.Prelude.{ℕ, List}
use Rattle.kms_world.specs.declared.operation.Op.{Op}
use Rattle.kms_world.specs.declared.operation.Op.TheVariants as op
use Rattle.kms_world.specs.declared.shape.Shape.{Shape}
use Rattle.kms_world.specs.declared.shape.Shape.TheVariants.{ListSecrets, PostSecret, GetSecret, PutPayload, DeleteSecret, GetPayload, GetMetadata, PutMetadata, PostPair, GetPair, PutPair, DeletePair, GetAcl, PutAcl, PatchAcl, DeleteAcl, ListContainers, PostContainer, GetContainer, DeleteContainer, PostMember, DeleteMember, ListConsumers, PostConsumer, DeleteConsumer, ListOrders, PostOrder, GetOrder, DeleteOrder, GetQuotas, ListQuotas, GetProjectQuotas, PutProjectQuotas, DeleteProjectQuotas}
use Rattle.kms_requests.specs.AclBody.{acl_body}
use Rattle.kms_requests.specs.ConsumerBody.{consumer_body}
use Rattle.kms_requests.specs.ContainerBody.{container_body}
use Rattle.kms_requests.specs.MemberBody.{member_body}
use Rattle.kms_requests.specs.MetadataBody.{metadata_body}
use Rattle.kms_requests.specs.OrderBody.{order_body}
use Rattle.kms_requests.specs.PairBody.{pair_body}
use Rattle.kms_requests.specs.QuotaBody.{quota_body}
use Rattle.kms_requests.specs.SecretBody.{secret_body}

unfoldable pub op_of : Shape → (bytes : List ℕ) → Op
op_of (ListSecrets query) bytes = op.ListSecrets query
op_of (PostSecret content_type) bytes = op.PostSecret (secret_body content_type bytes)
op_of (GetSecret id accept) bytes = op.GetSecret id accept
op_of (PutPayload id put) bytes = op.PutPayload id put bytes
op_of (DeleteSecret id) bytes = op.DeleteSecret id
op_of (GetPayload id accept) bytes = op.GetPayload id accept
op_of (GetMetadata id) bytes = op.GetMetadata id
op_of (PutMetadata id content_type) bytes = op.PutMetadata id (metadata_body content_type bytes)
op_of (PostPair id content_type) bytes = op.PostPair id (pair_body content_type bytes)
op_of (GetPair id key) bytes = op.GetPair id key
op_of (PutPair id key content_type) bytes = op.PutPair id key (pair_body content_type bytes)
op_of (DeletePair id key) bytes = op.DeletePair id key
op_of (GetAcl kind id) bytes = op.GetAcl kind id
op_of (PutAcl kind id content_type) bytes = op.PutAcl kind id (acl_body content_type bytes)
op_of (PatchAcl kind id content_type) bytes = op.PatchAcl kind id (acl_body content_type bytes)
op_of (DeleteAcl kind id) bytes = op.DeleteAcl kind id
op_of (ListContainers query) bytes = op.ListContainers query
op_of (PostContainer content_type) bytes = op.PostContainer (container_body content_type bytes)
op_of (GetContainer id) bytes = op.GetContainer id
op_of (DeleteContainer id) bytes = op.DeleteContainer id
op_of (PostMember id content_type) bytes = op.PostMember id (member_body content_type bytes)
op_of (DeleteMember id content_type) bytes = op.DeleteMember id (member_body content_type bytes)
op_of (ListConsumers id query) bytes = op.ListConsumers id query
op_of (PostConsumer id content_type) bytes = op.PostConsumer id (consumer_body content_type bytes)
op_of (DeleteConsumer id content_type) bytes = op.DeleteConsumer id (consumer_body content_type bytes)
op_of (ListOrders query) bytes = op.ListOrders query
op_of (PostOrder content_type) bytes = op.PostOrder (order_body content_type bytes)
op_of (GetOrder id) bytes = op.GetOrder id
op_of (DeleteOrder id) bytes = op.DeleteOrder id
op_of GetQuotas bytes = op.GetQuotas
op_of (ListQuotas query) bytes = op.ListQuotas query
op_of (GetProjectQuotas project) bytes = op.GetProjectQuotas project
op_of (PutProjectQuotas project content_type) bytes = op.PutProjectQuotas project (quota_body content_type bytes)
op_of (DeleteProjectQuotas project) bytes = op.DeleteProjectQuotas project
