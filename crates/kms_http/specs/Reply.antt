-- The bytes of a reply (RFC 9112 sections 2.1 and 4).
use Rattle.std.specs.Prelude.{ℕ, List, [], ◌++◌, length, Bool, ◌==◌, Option, Some, None, unwrap_or, if◌then◌else◌, codes}
use Rattle.std.specs.Fmt.{decimal}
use Rattle.http.specs.StatusCode.{code_digits, reason_phrase}
use Rattle.kms_world.specs.declared.reply.Reply.{Reply}
use Rattle.kms_world.specs.declared.reply.Media2.{Media2}
use Rattle.kms_world.specs.declared.reply.Media2.TheVariants.{Json, TextPlain, OctetStream}
use Rattle.kms_world.specs.declared.refusal.Allow.{Allow}
use Rattle.kms_http.specs.declared.fault.FaultReply.{FaultReply}
use Rattle.kms_http.specs.declared.fault.FaultReply.TheVariants.{F1, F2, F3}
use Rattle.kms_http.specs.Allow.{allow_text}
use Rattle.kms_http.specs.Date.{date_of}
use Rattle.kms_http.specs.Lines.{with_crlf, field}
use Rattle.kms_http.specs.Lines.{crlf}

abbrev pub media_text : Media2 → List ℕ
media_text Json = codes "application/json"
media_text TextPlain = codes "text/plain"
media_text OctetStream = codes "application/octet-stream"

-- the phrase of a status in the registry of http
unfoldable pub reason_of : ℕ → List ℕ
reason_of status = unwrap_or (reason_phrase status) []

-- `HTTP/1.1 201 Created`
unfoldable pub status_line : ℕ → List ℕ
status_line status = with_crlf (codes "HTTP/1.1 " ++ code_digits status ++ codes " " ++ reason_of status)

-- the type of the body, where it has one
abbrev pub media_field : Option Media2 → List ℕ
media_field None = []
media_field (Some media) = field (codes "Content-Type") (media_text media)

-- with every status but 204 (RFC 9110 section 8.6)
abbrev pub length_field : (status size : ℕ) → List ℕ
length_field status size = if status == 204 then [] else field (codes "Content-Length") (decimal size)

abbrev pub allowed : Option Allow → List ℕ
allowed None = []
allowed (Some a) = allow_text a

-- with 405 (RFC 9110 section 15.5.6)
abbrev pub allow_field : (status : ℕ) → Option Allow → List ℕ
allow_field status allow = if status == 405 then field (codes "Allow") (allowed allow) else []

-- with 401 (RFC 9110 section 15.5.2)
abbrev pub challenge_field : (status : ℕ) → List ℕ
challenge_field status = if status == 401 then field (codes "WWW-Authenticate") (codes "Keystone") else []

-- where the line ends behind the reply (RFC 9112 section 9.6)
abbrev pub close_field : Bool → List ℕ
close_field close = if close then field (codes "Connection") (codes "close") else []

unfoldable pub printed : Reply → (moment : ℕ) → (close : Bool) → List ℕ
printed reply moment close =
    status_line reply.status
    ++ field (codes "Date") (date_of moment)
    ++ media_field reply.media
    ++ length_field reply.status (length reply.body)
    ++ allow_field reply.status reply.allow
    ++ challenge_field reply.status
    ++ close_field close
    ++ crlf ++ reply.body

-- the replies that tell of a fault of the server
unfoldable pub fault_reply_of : FaultReply → List ℕ
fault_reply_of F1 =
    with_crlf (codes "HTTP/1.1 503 Service Unavailable") ++ field (codes "Content-Length") (codes "0")
    ++ field (codes "Connection") (codes "close") ++ crlf
fault_reply_of F2 =
    with_crlf (codes "HTTP/1.1 503 Service Unavailable") ++ field (codes "Content-Length") (codes "0")
    ++ field (codes "Retry-After") (codes "1") ++ crlf
fault_reply_of F3 = with_crlf (codes "HTTP/1.1 507 Insufficient Storage") ++ field (codes "Content-Length") (codes "0") ++ crlf
