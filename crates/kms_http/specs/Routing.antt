-- What a request asks for, by its path, its method and its fields, before its body is read.
use Rattle.std.specs.Prelude.{◌≡◌, ℕ, List, [], ◌∷◌, ◌++◌, map, length, Bool, ◌&&◌, nat_le, Option, Some, None, is_some, Result, Ok, Err, if◌then◌else◌, codes, ⊤}
use Rattle.std.specs.List.{list_all}
use Rattle.std.specs.Str.{is_utf8}
use Rattle.kms_world.specs.Name.{is_name, is_name_byte}
use Rattle.kms_world.specs.declared.caller.Caller.{Caller}
use Rattle.kms_world.specs.declared.id.Id.{Id}
use Rattle.kms_world.specs.declared.operation.AclKind.{AclKind}
use Rattle.kms_world.specs.declared.operation.AclKind.TheVariants as kind
use Rattle.kms_world.specs.declared.operation.PutShape.{PutShape}
use Rattle.kms_world.specs.declared.refusal.Refusal.{Refusal}
use Rattle.kms_world.specs.declared.refusal.Refusal.TheVariants.{NoIdentity, NoRoute, WrongMethod}
use Rattle.kms_world.specs.declared.shape.Shape.{Shape}
use Rattle.kms_world.specs.declared.shape.Shape.TheVariants as shape
use Rattle.kms_text.specs.IdText.{read_id_of}
use Rattle.kms_http.specs.declared.message.Head.{Head}
use Rattle.kms_http.specs.declared.method.Method.{Method}
use Rattle.kms_http.specs.declared.method.Method.TheVariants.{Get, Post, Put, Patch, Delete}
use Rattle.kms_http.specs.declared.path.Path.{Path}
use Rattle.kms_http.specs.declared.path.Path.TheVariants as path
use Rattle.kms_http.specs.declared.routing.RouteFault.{RouteFault}
use Rattle.kms_http.specs.declared.routing.RouteFault.TheVariants.{Refused, NoMemory}
use Rattle.kms_http.specs.Fields.{values_of}
use Rattle.kms_http.specs.Identity.{caller_in}
use Rattle.kms_http.specs.Methods.{method_of, has_method, allow_of}
use Rattle.kms_http.specs.Routes.{path_of}
use Rattle.kms_http.specs.Targets.{path_text, query_text, segment}

-- the id, the metadata key and the project that the path names, each where it is of its form
abbrev pub id_in : Head → Option Id
id_in head = read_id_of (segment 3 (path_text head.target))

-- 1 to 255 bytes of A-Z a-z 0-9 - _ .
abbrev pub is_key : List ℕ → Bool
is_key key = nat_le 1 (length key) && nat_le (length key) 255 && list_all is_name_byte key

abbrev pub key_by : List ℕ → Option (List ℕ)
key_by text = if is_key text then Some text else None

abbrev pub key_in : Head → Option (List ℕ)
key_in head = key_by (segment 5 (path_text head.target))

abbrev pub name_by : List ℕ → Option (List ℕ)
name_by text = if is_name text then Some text else None

abbrev pub project_in : Head → Option (List ℕ)
project_in head = name_by (segment 3 (path_text head.target))

abbrev pub query_in : Head → List ℕ
query_in head = query_text head.target

-- a value that is no text counts as the empty one
abbrev pub value_text : List ℕ → List ℕ
value_text value = if is_utf8 value then value else []

-- the text of a field that may stand once; the empty one where it stands more than once
abbrev pub alone : List (List ℕ) → Option (List ℕ)
alone [] = None
alone (value ∷ []) = Some (value_text value)
alone (value ∷ other ∷ more) = Some []

abbrev pub content_type_in : Head → Option (List ℕ)
content_type_in head = alone (values_of (codes "content-type") head.fields)

abbrev pub content_encoding_in : Head → Option (List ℕ)
content_encoding_in head = alone (values_of (codes "content-encoding") head.fields)

-- texts with a comma between them
abbrev pub joined : List (List ℕ) → List ℕ
joined [] = []
joined (text ∷ []) = text
joined (text ∷ other ∷ more) = text ++ 44 ∷ joined (other ∷ more)

-- a text more
abbrev pub with_text : (is_first : Bool) → (texts text : List ℕ) → List ℕ
with_text is_first texts text = if is_first then texts ++ text else texts ++ 44 ∷ text

-- the texts of a field that may stand more than once, as one list
abbrev pub together : List (List ℕ) → Option (List ℕ)
together [] = None
together (value ∷ more) = Some (joined (map value_text (value ∷ more)))

abbrev pub accept_in : Head → Option (List ℕ)
accept_in head = together (values_of (codes "accept") head.fields)

abbrev pub put_in : Head → PutShape
put_in head = record { content_type = content_type_in head; content_encoding = content_encoding_in head }

-- what each path's methods ask for; None where a path hasn't the method
abbrev pub secrets_shape : Method → Head → Option Shape
secrets_shape Get head = Some (shape.ListSecrets (query_in head))
secrets_shape Post head = Some (shape.PostSecret (content_type_in head))
secrets_shape method head = None

abbrev pub secret_shape : Method → Head → Option Shape
secret_shape Get head = Some (shape.GetSecret (id_in head) (accept_in head))
secret_shape Put head = Some (shape.PutPayload (id_in head) (put_in head))
secret_shape Delete head = Some (shape.DeleteSecret (id_in head))
secret_shape method head = None

abbrev pub payload_shape : Method → Head → Option Shape
payload_shape Get head = Some (shape.GetPayload (id_in head) (accept_in head))
payload_shape method head = None

abbrev pub metadata_shape : Method → Head → Option Shape
metadata_shape Get head = Some (shape.GetMetadata (id_in head))
metadata_shape Put head = Some (shape.PutMetadata (id_in head) (content_type_in head))
metadata_shape Post head = Some (shape.PostPair (id_in head) (content_type_in head))
metadata_shape method head = None

abbrev pub pair_shape : Method → Head → Option Shape
pair_shape Get head = Some (shape.GetPair (id_in head) (key_in head))
pair_shape Put head = Some (shape.PutPair (id_in head) (key_in head) (content_type_in head))
pair_shape Delete head = Some (shape.DeletePair (id_in head) (key_in head))
pair_shape method head = None

abbrev pub acl_shape : AclKind → Method → Head → Option Shape
acl_shape of Get head = Some (shape.GetAcl of (id_in head))
acl_shape of Put head = Some (shape.PutAcl of (id_in head) (content_type_in head))
acl_shape of Patch head = Some (shape.PatchAcl of (id_in head) (content_type_in head))
acl_shape of Delete head = Some (shape.DeleteAcl of (id_in head))
acl_shape of method head = None

abbrev pub containers_shape : Method → Head → Option Shape
containers_shape Get head = Some (shape.ListContainers (query_in head))
containers_shape Post head = Some (shape.PostContainer (content_type_in head))
containers_shape method head = None

abbrev pub container_shape : Method → Head → Option Shape
container_shape Get head = Some (shape.GetContainer (id_in head))
container_shape Delete head = Some (shape.DeleteContainer (id_in head))
container_shape method head = None

abbrev pub members_shape : Method → Head → Option Shape
members_shape Post head = Some (shape.PostMember (id_in head) (content_type_in head))
members_shape Delete head = Some (shape.DeleteMember (id_in head) (content_type_in head))
members_shape method head = None

abbrev pub consumers_shape : Method → Head → Option Shape
consumers_shape Get head = Some (shape.ListConsumers (id_in head) (query_in head))
consumers_shape Post head = Some (shape.PostConsumer (id_in head) (content_type_in head))
consumers_shape Delete head = Some (shape.DeleteConsumer (id_in head) (content_type_in head))
consumers_shape method head = None

abbrev pub orders_shape : Method → Head → Option Shape
orders_shape Get head = Some (shape.ListOrders (query_in head))
orders_shape Post head = Some (shape.PostOrder (content_type_in head))
orders_shape method head = None

abbrev pub order_shape : Method → Head → Option Shape
order_shape Get head = Some (shape.GetOrder (id_in head))
order_shape Delete head = Some (shape.DeleteOrder (id_in head))
order_shape method head = None

abbrev pub quotas_on : Method → Option Shape
quotas_on Get = Some shape.GetQuotas
quotas_on method = None

abbrev pub project_quotas_shape : Method → Head → Option Shape
project_quotas_shape Get head = Some (shape.ListQuotas (query_in head))
project_quotas_shape method head = None

abbrev pub project_quota_shape : Method → Head → Option Shape
project_quota_shape Get head = Some (shape.GetProjectQuotas (project_in head))
project_quota_shape Put head = Some (shape.PutProjectQuotas (project_in head) (content_type_in head))
project_quota_shape Delete head = Some (shape.DeleteProjectQuotas (project_in head))
project_quota_shape method head = None

unfoldable pub shape_on : Path → Method → Head → Option Shape
shape_on path.Secrets method head = secrets_shape method head
shape_on path.Secret method head = secret_shape method head
shape_on path.Payload method head = payload_shape method head
shape_on path.Metadata method head = metadata_shape method head
shape_on path.Pair method head = pair_shape method head
shape_on path.SecretAcl method head = acl_shape kind.Secret method head
shape_on path.ContainerAcl method head = acl_shape kind.Container method head
shape_on path.Containers method head = containers_shape method head
shape_on path.Container method head = container_shape method head
shape_on path.Members method head = members_shape method head
shape_on path.Consumers method head = consumers_shape method head
shape_on path.Orders method head = orders_shape method head
shape_on path.Order method head = order_shape method head
shape_on path.Quotas method head = quotas_on method
shape_on path.ProjectQuotas method head = project_quotas_shape method head
shape_on path.ProjectQuota method head = project_quota_shape method head

-- the methods that a path's Allow names are those that it has
abbrev pub AllowTells : Type 0
AllowTells = (path : Path) (method : Method) (head : Head) → is_some (shape_on path method head) ≡ has_method (allow_of path) method

abbrev pub with_shape : Path → Option Shape → Result Shape Refusal
with_shape path None = Err (WrongMethod (allow_of path))
with_shape path (Some shape) = Ok shape

abbrev pub with_method : Path → Option Method → Head → Result Shape Refusal
with_method path None head = Err (WrongMethod (allow_of path))
with_method path (Some method) head = with_shape path (shape_on path method head)

-- by the path of the table, if the target has one
abbrev pub with_path : Option Path → Head → Result Shape Refusal
with_path None head = Err NoRoute
with_path (Some path) head = with_method path (method_of head.method) head

unfoldable pub asked : Head → Result Shape Refusal
asked head = with_path (path_of (path_text head.target)) head

abbrev pub with_asked : Caller → Result Shape Refusal → Result (Caller × Shape) Refusal
with_asked caller (Err refusal) = Err refusal
with_asked caller (Ok shape) = Ok (caller, shape)

abbrev pub with_caller : Option Caller → Head → Result (Caller × Shape) Refusal
with_caller None head = Err NoIdentity
with_caller (Some caller) head = with_asked caller (asked head)

-- who calls and what is asked for; or the first refusal: no identity, no such path, not this method
unfoldable pub routed : Head → Result (Caller × Shape) Refusal
routed head = with_caller (caller_in head.fields) head

-- an answer is what the definition says, but where there was no memory
abbrev pub IsRouted : {A : Type 0} → Result A RouteFault → Result A Refusal → Type 0
IsRouted (Ok value) said = said ≡ Ok value
IsRouted (Err (Refused refusal)) said = said ≡ Err refusal
IsRouted (Err NoMemory) said = ⊤
