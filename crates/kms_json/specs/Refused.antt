-- Refusals as they are answered (statuses: RFC 9110 section 15, 431: RFC 6585 section 5).
use Rattle.std.specs.Prelude.{ℕ, List, [], ◌++◌, codes, decimal, Option, Some, None, unwrap_or}
use Rattle.http.specs.StatusCode.{reason_phrase}
use Rattle.serde_json.specs.Data.{unsigned, Data, number, string, object, member, no_members}
use Rattle.kms_world.specs.declared.refusal.Allow.{Allow}
use Rattle.kms_world.specs.declared.refusal.Refusal.{Refusal}
use Rattle.kms_world.specs.declared.refusal.Refusal.TheVariants.{BadMessage, HeadTooLong, BodyTooLong, LengthRequired, NoIdentity, NoRoute, WrongMethod, NoObject, Denied, NotAcceptable, WrongType, BadBody, PayloadTooLong, NotOffered, Conflict, QuotaReached, IdsSpent}
use Rattle.kms_world.specs.Action as action
use Rattle.kms_world.specs.Why as why
use Rattle.kms_world.specs.Field as field
use Rattle.kms_world.specs.QuotaKind as quota

abbrev pub status_of : Refusal → ℕ
status_of BadMessage = 400
status_of HeadTooLong = 431
status_of BodyTooLong = 413
status_of LengthRequired = 411
status_of NoIdentity = 401
status_of NoRoute = 404
status_of (WrongMethod allow) = 405
status_of NoObject = 404
status_of (Denied rule) = 403
status_of NotAcceptable = 406
status_of WrongType = 415
status_of (BadBody f) = 400
status_of PayloadTooLong = 413
status_of NotOffered = 400
status_of Conflict = 409
status_of (QuotaReached kind limit) = 403
status_of IdsSpent = 500

abbrev pub name_of : Refusal → List ℕ
name_of BadMessage = codes "BadMessage"
name_of HeadTooLong = codes "HeadTooLong"
name_of BodyTooLong = codes "BodyTooLong"
name_of LengthRequired = codes "LengthRequired"
name_of NoIdentity = codes "NoIdentity"
name_of NoRoute = codes "NoRoute"
name_of (WrongMethod allow) = codes "WrongMethod"
name_of NoObject = codes "NoObject"
name_of (Denied rule) = codes "Denied"
name_of NotAcceptable = codes "NotAcceptable"
name_of WrongType = codes "WrongType"
name_of (BadBody f) = codes "BadBody"
name_of PayloadTooLong = codes "PayloadTooLong"
name_of NotOffered = codes "NotOffered"
name_of Conflict = codes "Conflict"
name_of (QuotaReached kind limit) = codes "QuotaReached"
name_of IdsSpent = codes "IdsSpent"

-- the name, and behind it the rule that denies, the faulty field, or the quota and its limit
abbrev pub description_of : Refusal → List ℕ
description_of (Denied rule) = codes "Denied: " ++ action.word_of rule.action ++ codes "/" ++ why.word_of rule.why
description_of (BadBody f) = codes "BadBody: " ++ field.word_of f
description_of (QuotaReached kind limit) = codes "QuotaReached: " ++ quota.word_of kind ++ codes " " ++ decimal limit
description_of refusal = name_of refusal

-- the reason phrase of the status: each of these has one
abbrev pub title_of : Refusal → List ℕ
title_of refusal = unwrap_or (reason_phrase (status_of refusal)) []

-- the body of the answer, its keys in the order of their bytes
abbrev pub error_data : Refusal → Data
error_data refusal = object (
    member (codes "code") (number (unsigned (status_of refusal))) (
    member (codes "description") (string (description_of refusal)) (
    member (codes "title") (string (title_of refusal)) no_members)))

-- the methods of the path, where the request had another (RFC 9110 section 15.5.6)
abbrev pub allow_of : Refusal → Option Allow
allow_of (WrongMethod allow) = Some allow
allow_of _ = None
