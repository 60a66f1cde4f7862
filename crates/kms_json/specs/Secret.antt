-- A secret's attributes as an object (Barbican API v1, the response to GET /v1/secrets/{uuid}), its keys in the order of
-- their bytes.
use Rattle.std.specs.Prelude.{ℕ, List, Option, option_map, codes}
use Rattle.serde_json.specs.Data.{Data, string, object, Members, member, no_members}
use Rattle.kms_world.specs.declared.payload.Media.{Media}
use Rattle.kms_world.specs.Media.{word_of as media_word}
use Rattle.kms_world.specs.declared.secret.SecretRow.{SecretRow}
use Rattle.kms_world.specs.SecretKind.{word_of}
use Rattle.kms_text.specs.declared.link.Kind.TheVariants as kind
use Rattle.kms_text.specs.Link.{link_of}
use Rattle.kms_json.specs.Tokens.{with_optional}
use Rattle.kms_json.specs.Values.{text_or_null, number_or_null, time_data, time_or_null}

-- the type of a secret's payload, where it has one
abbrev pub media_of : SecretRow → Option Media
media_of row = option_map (λ payload. payload.media) row.payload

abbrev pub content_types_data : Media → Data
content_types_data media = object (member (codes "default") (string (media_word media)) no_members)

-- the members behind the type of the payload; links are under an endpoint
abbrev pub later_members : List ℕ → SecretRow → Members
later_members endpoint row =
    member (codes "created") (time_data row.created) (
    member (codes "creator_id") (string row.creator) (
    member (codes "expiration") (time_or_null row.expiration) (
    member (codes "mode") (text_or_null row.mode) (
    member (codes "name") (text_or_null row.name) (
    member (codes "secret_ref") (string (link_of endpoint kind.Secret row.id)) (
    member (codes "secret_type") (string (word_of row.kind)) (
    member (codes "status") (string (codes "ACTIVE")) (
    member (codes "updated") (time_data row.updated) no_members))))))))

-- the members of a secret
abbrev pub secret_members : List ℕ → SecretRow → Members
secret_members endpoint row =
    member (codes "algorithm") (text_or_null row.algorithm) (
    member (codes "bit_length") (number_or_null row.bit_length) (
    with_optional (codes "content_types") (option_map content_types_data (media_of row)) (later_members endpoint row)))

abbrev pub secret_data : List ℕ → SecretRow → Data
secret_data endpoint row = object (secret_members endpoint row)
