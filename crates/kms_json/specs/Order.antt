-- Orders as objects (Barbican API v1, the response to GET /v1/orders/{uuid}), their keys in the order of their bytes.
use Rattle.std.specs.Prelude.{ℕ, List, Option, Some, None, option_map, codes}
use Rattle.serde_json.specs.Data.{unsigned, Data, number, string, object, Members, member, no_members}
use Rattle.kms_world.specs.Media.{word_of as media_word}
use Rattle.kms_world.specs.declared.id.Id.{Id}
use Rattle.kms_world.specs.declared.payload.Media.TheVariants.{OctetStream}
use Rattle.kms_world.specs.declared.order.Cause.{Cause}
use Rattle.kms_world.specs.declared.order.Cause.TheVariants.{Unsupported, QuotaReached, IdsSpent}
use Rattle.kms_world.specs.declared.order.OrderRow.{OrderRow}
use Rattle.kms_world.specs.declared.order.OrderState.{OrderState}
use Rattle.kms_world.specs.declared.order.OrderState.TheVariants.{Pending, Active, Error}
use Rattle.kms_text.specs.declared.link.Kind.TheVariants as kind
use Rattle.kms_text.specs.Link.{link_of}
use Rattle.kms_json.specs.Tokens.{with_optional}
use Rattle.kms_json.specs.Values.{text_or_null, time_data, time_or_null}

abbrev pub status_of : OrderState → List ℕ
status_of Pending = codes "PENDING"
status_of (Active secret) = codes "ACTIVE"
status_of (Error cause) = codes "ERROR"

-- the status that a request for such a key would have
abbrev pub code_of : Cause → List ℕ
code_of Unsupported = codes "400"
code_of QuotaReached = codes "403"
code_of IdsSpent = codes "500"

abbrev pub reason_of : Cause → List ℕ
reason_of Unsupported = codes "algorithm and bit_length not offered"
reason_of QuotaReached = codes "quota of secrets reached"
reason_of IdsSpent = codes "ids spent"

-- why the order failed, if it did
abbrev pub cause_of : OrderState → Option Cause
cause_of Pending = None
cause_of (Active secret) = None
cause_of (Error cause) = Some cause

-- the secret that was made, if there is one
abbrev pub secret_of : OrderState → Option Id
secret_of Pending = None
secret_of (Active secret) = Some secret
secret_of (Error cause) = None

abbrev pub reason_data : Cause → Data
reason_data cause = string (reason_of cause)

abbrev pub code_data : Cause → Data
code_data cause = string (code_of cause)

-- links are under an endpoint
abbrev pub secret_link : List ℕ → Id → Data
secret_link endpoint id = string (link_of endpoint kind.Secret id)

-- what was ordered
abbrev pub meta_data : OrderRow → Data
meta_data row = object (
    member (codes "algorithm") (string row.algorithm) (
    member (codes "bit_length") (number (unsigned row.bit_length)) (
    member (codes "expiration") (time_or_null row.expiration) (
    member (codes "mode") (text_or_null row.mode) (
    member (codes "name") (text_or_null row.name) (
    member (codes "payload_content_type") (string (media_word OctetStream)) no_members))))))

-- the members from the status on
abbrev pub last_members : OrderRow → Members
last_members row =
    member (codes "status") (string (status_of row.state)) (
    member (codes "type") (string (codes "key")) (
    member (codes "updated") (time_data row.updated) no_members))

-- what was ordered, and the members behind it; links are under an endpoint
abbrev pub later_members : List ℕ → OrderRow → Members
later_members endpoint row =
    member (codes "meta") (meta_data row) (
    member (codes "order_ref") (string (link_of endpoint kind.Order row.id)) (
    with_optional (codes "secret_ref") (option_map (secret_link endpoint) (secret_of row.state)) (last_members row)))

-- the members of an order
abbrev pub order_members : List ℕ → OrderRow → Members
order_members endpoint row =
    member (codes "created") (time_data row.created) (
    member (codes "creator_id") (string row.creator) (
    with_optional (codes "error_reason") (option_map reason_data (cause_of row.state)) (
    with_optional (codes "error_status_code") (option_map code_data (cause_of row.state)) (later_members endpoint row))))

abbrev pub order_data : List ℕ → OrderRow → Data
order_data endpoint row = object (order_members endpoint row)
