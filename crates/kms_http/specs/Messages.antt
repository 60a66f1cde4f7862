-- The message at the front of a stream, as a function of all its bytes (RFC 9112 section 2.2).
use Rattle.std.specs.Prelude.{ℕ, List, Bool, ◌==◌, nat_lt, length, take, drop, map, Option, Some, None, Result, Ok, Err, if◌then◌else◌}
use Rattle.std.specs.List.{count_by}
use Rattle.httparse.specs.Grammar.{RequestHead}
use Rattle.httparse.specs.Spans.{name_and_value}
use Rattle.kms_http.specs.Fields.{Pair}
use Rattle.kms_http.specs.Framing.{framing, closes}
use Rattle.kms_http.specs.HeadEnd.{head_len}
use Rattle.kms_http.specs.declared.message.Head.{Head}
use Rattle.kms_http.specs.declared.message.Message.{Message}
use Rattle.kms_http.specs.HeadEnd.{head_limit}
use Rattle.kms_http.specs.Heads.{whole_head}
use Rattle.kms_world.specs.declared.refusal.Refusal.{Refusal}
use Rattle.kms_world.specs.declared.refusal.Refusal.TheVariants.{BadMessage, HeadTooLong}

-- what stands at the front: a whole message and the bytes after it; what is no message, and why; or a part of one
pub data Front : Type 0 where
  Whole : Message → (rest : List ℕ) → Front
  Bad : Refusal → Front
  Part : Front

abbrev pub line_feeds : List ℕ → ℕ
line_feeds bytes = count_by (λ b. b == 10) bytes

-- a head has at most so many line feeds, and so at most 64 fields
abbrev pub feed_limit : ℕ
feed_limit = 66

abbrev pub pairs_of : RequestHead → List Pair
pairs_of h = map name_and_value h.fields

abbrev pub head_of : RequestHead → Head
head_of h = record { method = h.method; target = h.target; fields = pairs_of h }

-- with the size of the body
abbrev pub with_size : Result ℕ Refusal → Head → (close : Bool) → List ℕ → Front
with_size (Err refusal) head close rest = Bad refusal
with_size (Ok size) head close rest =
    if nat_lt (length rest) size then Part else Whole (record { head = head; body = take size rest; close = close }) (drop size rest)

abbrev pub with_parts : Head → (minor : ℕ) → List ℕ → Front
with_parts head minor rest = with_size (framing head.method head.fields) head (closes minor head.fields) rest

-- with the request head that the head is, and the bytes after it
abbrev pub with_request : Option RequestHead → List ℕ → Front
with_request None rest = Bad BadMessage
with_request (Some h) rest = with_parts (head_of h) h.minor rest

-- with a head and the bytes after it
abbrev pub with_head : List ℕ → List ℕ → Front
with_head head rest = if nat_lt feed_limit (line_feeds head) then Bad HeadTooLong else with_request (whole_head head) rest

-- with the length of the head, where the first bytes, up to the limit, hold a whole one
abbrev pub with_end : Option ℕ → List ℕ → Front
with_end None bytes = if nat_lt (length bytes) head_limit then Part else Bad HeadTooLong
with_end (Some n) bytes = with_head (take n bytes) (drop n bytes)

unfoldable pub front : List ℕ → Front
front bytes = with_end (head_len (take head_limit bytes)) bytes
