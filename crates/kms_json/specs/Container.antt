-- Containers and their consumers as objects (Barbican API v1, the responses to GET /v1/containers/{uuid} and
-- /v1/containers/{uuid}/consumers), their keys in the order of their bytes.
use Rattle.std.specs.Prelude.{ℕ, List, map, Option, codes}
use Rattle.serde_json.specs.Data.{Data, string, array, object, member, no_members}
use Rattle.serde_json.specs.View.{items_of}
use Rattle.kms_world.specs.ContainerKind.{word_of}
use Rattle.kms_world.specs.declared.answer.ContainerView.{ContainerView}
use Rattle.kms_world.specs.declared.container.ConsumerRow.{ConsumerRow}
use Rattle.kms_world.specs.declared.id.Id.{Id}
use Rattle.kms_text.specs.declared.link.Kind.TheVariants as kind
use Rattle.kms_text.specs.Link.{link_of}
use Rattle.kms_json.specs.Values.{text_or_null, time_data}

abbrev pub consumer_data : ConsumerRow → Data
consumer_data row = object (member (codes "URL") (string row.url) (member (codes "name") (string row.name) no_members))

abbrev pub consumers_data : List ConsumerRow → Data
consumers_data rows = array (items_of (map consumer_data rows))

-- a secret that the container names; links are under an endpoint
abbrev pub member_data : List ℕ → Option (List ℕ) × Id → Data
member_data endpoint one = object (
    member (codes "name") (text_or_null one.0) (
    member (codes "secret_ref") (string (link_of endpoint kind.Secret one.1)) no_members))

abbrev pub members_data : List ℕ → List (Option (List ℕ) × Id) → Data
members_data endpoint members = array (items_of (map (member_data endpoint) members))

abbrev pub container_data : List ℕ → ContainerView → Data
container_data endpoint view = object (
    member (codes "consumers") (consumers_data view.consumers) (
    member (codes "container_ref") (string (link_of endpoint kind.Container view.row.id)) (
    member (codes "created") (time_data view.row.created) (
    member (codes "creator_id") (string view.row.creator) (
    member (codes "name") (text_or_null view.row.name) (
    member (codes "secret_refs") (members_data endpoint view.row.secrets) (
    member (codes "status") (string (codes "ACTIVE")) (
    member (codes "type") (string (word_of view.row.kind)) (
    member (codes "updated") (time_data view.row.updated) no_members)))))))))
