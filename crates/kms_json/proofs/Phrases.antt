-- Each status of an answer has a reason phrase.
use Rattle.std.proofs.Common.{◌≡◌, ℕ, List, Some, is_some, Result, Ok, Err, true, refl, ap, arith}
use Rattle.http.specs.StatusCode.{IsStatusCode, reason_phrase}
use Rattle.kms_world.specs.declared.answer.ListRows.{ListRows}
use Rattle.kms_world.specs.declared.refusal.Field.{Field}
use Rattle.kms_world.specs.declared.refusal.Refusal.{Refusal}
use Rattle.kms_world.specs.declared.refusal.Refusal.TheVariants.{BadMessage, HeadTooLong, BodyTooLong, LengthRequired, NoIdentity, NoRoute, WrongMethod, NoObject, Denied, NotAcceptable, WrongType, BadBody, PayloadTooLong, NotOffered, Conflict, QuotaReached, IdsSpent}
use Rattle.kms_world.specs.declared.answer.Answer.{Answer}
use Rattle.kms_world.specs.declared.answer.Answer.TheVariants.{Refused, Empty, Link, Secret, Payload, Metadata, Pair, Acl, Order, Container, Quotas, ProjectQuotas, List as ListAnswer}
use Rattle.kms_json.specs.Refused.{status_of, title_of}
use Rattle.kms_page.specs.Query.{query_of}
use Rattle.kms_page.specs.declared.query.Query.{Query}
use Rattle.kms_json.specs.List.{listing_of}
use Rattle.kms_json.specs.Answer.{HasForm, list_reply, reply_of}

pub IsStatusCode-status_of : (refusal : Refusal) → IsStatusCode (status_of refusal)
IsStatusCode-status_of BadMessage = (omega arith, omega arith)
IsStatusCode-status_of HeadTooLong = (omega arith, omega arith)
IsStatusCode-status_of BodyTooLong = (omega arith, omega arith)
IsStatusCode-status_of LengthRequired = (omega arith, omega arith)
IsStatusCode-status_of NoIdentity = (omega arith, omega arith)
IsStatusCode-status_of NoRoute = (omega arith, omega arith)
IsStatusCode-status_of (WrongMethod allow) = (omega arith, omega arith)
IsStatusCode-status_of NoObject = (omega arith, omega arith)
IsStatusCode-status_of (Denied rule) = (omega arith, omega arith)
IsStatusCode-status_of NotAcceptable = (omega arith, omega arith)
IsStatusCode-status_of WrongType = (omega arith, omega arith)
IsStatusCode-status_of (BadBody field) = (omega arith, omega arith)
IsStatusCode-status_of PayloadTooLong = (omega arith, omega arith)
IsStatusCode-status_of NotOffered = (omega arith, omega arith)
IsStatusCode-status_of Conflict = (omega arith, omega arith)
IsStatusCode-status_of (QuotaReached kind limit) = (omega arith, omega arith)
IsStatusCode-status_of IdsSpent = (omega arith, omega arith)

pub reason_phrase-status_of : (refusal : Refusal) → reason_phrase (status_of refusal) ≡ Some (title_of refusal)
reason_phrase-status_of BadMessage = refl
reason_phrase-status_of HeadTooLong = refl
reason_phrase-status_of BodyTooLong = refl
reason_phrase-status_of LengthRequired = refl
reason_phrase-status_of NoIdentity = refl
reason_phrase-status_of NoRoute = refl
reason_phrase-status_of (WrongMethod allow) = refl
reason_phrase-status_of NoObject = refl
reason_phrase-status_of (Denied rule) = refl
reason_phrase-status_of NotAcceptable = refl
reason_phrase-status_of WrongType = refl
reason_phrase-status_of (BadBody field) = refl
reason_phrase-status_of PayloadTooLong = refl
reason_phrase-status_of NotOffered = refl
reason_phrase-status_of Conflict = refl
reason_phrase-status_of (QuotaReached kind limit) = refl
reason_phrase-status_of IdsSpent = refl

phrase_of_list : (endpoint path : List ℕ) (query : Result Query Field) (rows : ListRows) (total : ℕ) → is_some (reason_phrase (list_reply endpoint path query rows total).status) ≡ true
phrase_of_list endpoint path (Ok query) rows total = refl
phrase_of_list endpoint path (Err field) rows total = refl

-- and so has the reply of each answer that has a form
pub reason_phrase-reply_of : (endpoint : List ℕ) (answer : Answer) → HasForm answer → is_some (reason_phrase (reply_of endpoint answer).status) ≡ true
unfolding reply_of
reason_phrase-reply_of endpoint (Refused refusal) h = ap is_some (reason_phrase-status_of refusal)
reason_phrase-reply_of endpoint (Empty status) h = h
reason_phrase-reply_of endpoint (Link status link id) h = h
reason_phrase-reply_of endpoint (Secret row) h = refl
reason_phrase-reply_of endpoint (Payload payload) h = refl
reason_phrase-reply_of endpoint (Metadata pairs) h = refl
reason_phrase-reply_of endpoint (Pair status key value) h = h
reason_phrase-reply_of endpoint (Acl row) h = refl
reason_phrase-reply_of endpoint (Order row) h = refl
reason_phrase-reply_of endpoint (Container view) h = refl
reason_phrase-reply_of endpoint (Quotas row) h = refl
reason_phrase-reply_of endpoint (ProjectQuotas row) h = refl
reason_phrase-reply_of endpoint (ListAnswer path query rows total) h = phrase_of_list endpoint path (query_of (listing_of rows) query) rows total
