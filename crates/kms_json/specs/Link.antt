-- The answer to a change: an object with the link to what was made or changed (Barbican API v1, as the responses to
-- POST /v1/secrets and PUT /v1/secrets/{id}/acl).
use Rattle.std.specs.Prelude.{ℕ, List, ◌++◌, codes}
use Rattle.serde_json.specs.Data.{Data, string, object, member, no_members}
use Rattle.kms_world.specs.declared.answer.Link.{Link}
use Rattle.kms_world.specs.declared.answer.Link.TheVariants.{Secret, Metadata, SecretAcl, ContainerAcl, Container, Order}
use Rattle.kms_world.specs.declared.id.Id.{Id}
use Rattle.kms_text.specs.declared.link.Kind.{Kind}
use Rattle.kms_text.specs.declared.link.Kind.TheVariants as kind
use Rattle.kms_text.specs.Link.{link_of}

-- what a link leads to, by the name of its object
abbrev pub kind_of : Link → Kind
kind_of Secret = kind.Secret
kind_of Metadata = kind.Secret
kind_of SecretAcl = kind.Secret
kind_of ContainerAcl = kind.Container
kind_of Container = kind.Container
kind_of Order = kind.Order

abbrev pub key_of : Link → List ℕ
key_of Secret = codes "secret_ref"
key_of Metadata = codes "metadata_ref"
key_of SecretAcl = codes "acl_ref"
key_of ContainerAcl = codes "acl_ref"
key_of Container = codes "container_ref"
key_of Order = codes "order_ref"

-- what stands behind the object's own link
abbrev pub part_of : Link → List ℕ
part_of Secret = codes ""
part_of Metadata = codes "/metadata"
part_of SecretAcl = codes "/acl"
part_of ContainerAcl = codes "/acl"
part_of Container = codes ""
part_of Order = codes ""

-- under an endpoint
abbrev pub link_data : List ℕ → Link → Id → Data
link_data endpoint link id = object (member (key_of link) (string (link_of endpoint (kind_of link) id ++ part_of link)) no_members)
