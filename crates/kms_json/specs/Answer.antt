-- Answers as replies: each body but a payload is JSON (RFC 8259) without white space.
use Rattle.std.specs.Prelude.{◌≡◌, ℕ, List, [], Option, Some, None, Result, Ok, Err, true, is_some}
use Rattle.http.specs.StatusCode.{reason_phrase}
use Rattle.serde_json.specs.Data.{Data}
use Rattle.serde_json.specs.Written.{compact_text}
use Rattle.kms_world.specs.declared.answer.Answer.{Answer}
use Rattle.kms_world.specs.declared.answer.Answer.TheVariants.{Refused, Empty, Link, Secret, Payload, Metadata, Pair, Acl, Order, Container, Quotas, ProjectQuotas, List as ListAnswer}
use Rattle.kms_world.specs.declared.answer.ListRows.{ListRows}
use Rattle.kms_world.specs.declared.payload.Media.{Media}
use Rattle.kms_world.specs.declared.payload.Media.TheVariants as media
use Rattle.kms_world.specs.declared.payload.Payload.{Payload as PayloadBytes}
use Rattle.kms_world.specs.declared.refusal.Field.{Field}
use Rattle.kms_world.specs.declared.refusal.Refusal.{Refusal}
use Rattle.kms_world.specs.declared.refusal.Refusal.TheVariants.{BadBody}
use Rattle.kms_world.specs.declared.refusal.Allow.{Allow}
use Rattle.kms_world.specs.declared.reply.Reply.{Reply}
use Rattle.kms_world.specs.declared.reply.Media2.{Media2}
use Rattle.kms_world.specs.declared.reply.Media2.TheVariants.{Json, TextPlain, OctetStream}
use Rattle.kms_page.specs.Query.{query_of}
use Rattle.kms_page.specs.declared.query.Query.{Query}
use Rattle.kms_json.specs.Acl.{acl_data}
use Rattle.kms_json.specs.Container.{container_data}
use Rattle.kms_json.specs.Refused.{status_of, error_data, allow_of}
use Rattle.kms_json.specs.Link.{link_data}
use Rattle.kms_json.specs.List.{listing_of, list_data}
use Rattle.kms_json.specs.Metadata.{metadata_data, pair_data}
use Rattle.kms_json.specs.Order.{order_data}
use Rattle.kms_json.specs.Quota.{quotas_data, project_quotas_data}
use Rattle.kms_json.specs.Secret.{secret_data}

abbrev pub json_reply : ℕ → Option Allow → Data → Reply
json_reply status allow body = record { status = status; media = Some Json; allow = allow; body = compact_text body }

abbrev pub refused_reply : Refusal → Reply
refused_reply refusal = json_reply (status_of refusal) (allow_of refusal) (error_data refusal)

abbrev pub empty_reply : ℕ → Reply
empty_reply status = record { status = status; media = None; allow = None; body = [] }

abbrev pub media_of : Media → Media2
media_of media.TextPlain = TextPlain
media_of media.OctetStream = OctetStream

-- the bytes themselves
abbrev pub payload_reply : PayloadBytes → Reply
payload_reply payload = record { status = 200; media = Some (media_of payload.media); allow = None; body = payload.bytes }

-- a page of a list under an endpoint, by its query; one that breaks a rule is refused
abbrev pub list_reply : (endpoint path : List ℕ) → Result Query Field → ListRows → (total : ℕ) → Reply
list_reply endpoint path (Ok query) rows total = json_reply 200 None (list_data endpoint path query rows total)
list_reply endpoint path (Err field) rows total = refused_reply (BadBody field)

-- the answer has a form: its status has a reason phrase
abbrev pub HasForm : Answer → Type 0
HasForm (Refused refusal) = Unit {0}
HasForm (Empty status) = is_some (reason_phrase status) ≡ true
HasForm (Link status link id) = is_some (reason_phrase status) ≡ true
HasForm (Secret row) = Unit {0}
HasForm (Payload payload) = Unit {0}
HasForm (Metadata pairs) = Unit {0}
HasForm (Pair status key value) = is_some (reason_phrase status) ≡ true
HasForm (Acl row) = Unit {0}
HasForm (Order row) = Unit {0}
HasForm (Container view) = Unit {0}
HasForm (Quotas row) = Unit {0}
HasForm (ProjectQuotas row) = Unit {0}
HasForm (ListAnswer path query rows total) = Unit {0}

-- Links are under an endpoint.
unfoldable pub reply_of : List ℕ → Answer → Reply
reply_of endpoint (Refused refusal) = refused_reply refusal
reply_of endpoint (Empty status) = empty_reply status
reply_of endpoint (Link status link id) = json_reply status None (link_data endpoint link id)
reply_of endpoint (Secret row) = json_reply 200 None (secret_data endpoint row)
reply_of endpoint (Payload payload) = payload_reply payload
reply_of endpoint (Metadata pairs) = json_reply 200 None (metadata_data pairs)
reply_of endpoint (Pair status key value) = json_reply status None (pair_data key value)
reply_of endpoint (Acl row) = json_reply 200 None (acl_data row)
reply_of endpoint (Order row) = json_reply 200 None (order_data endpoint row)
reply_of endpoint (Container view) = json_reply 200 None (container_data endpoint view)
reply_of endpoint (Quotas row) = json_reply 200 None (quotas_data row)
reply_of endpoint (ProjectQuotas row) = json_reply 200 None (project_quotas_data row)
reply_of endpoint (ListAnswer path query rows total) = list_reply endpoint path (query_of (listing_of rows) query) rows total
