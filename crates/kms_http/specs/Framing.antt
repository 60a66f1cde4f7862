-- How many bytes the body of a request has (RFC 9112 section 6.3), in this server's profile.
use Rattle.std.specs.Prelude.{ℕ, ◌+◌, ◌-◌, ◌*◌, List, [], ◌∷◌, length, Bool, ◌&&◌, ◌||◌, ◌==◌, nat_lt, nat_le, Result, Ok, Err, if◌then◌else◌, codes}
use Rattle.std.specs.List.{list_all, list_any}
use Rattle.std.specs.Str.{str_eq_ignore_ascii_case, bytes_eq}
use Rattle.kms_http.specs.Elements.{has_element}
use Rattle.kms_http.specs.Fields.{Pair, values_of}
use Rattle.kms_world.specs.declared.refusal.Refusal.{Refusal}
use Rattle.kms_world.specs.declared.refusal.Refusal.TheVariants.{BadMessage, BodyTooLong, LengthRequired}

abbrev pub body_limit : ℕ
body_limit = 65536

abbrev pub is_digit : ℕ → Bool
is_digit b = nat_le 48 b && nat_le b 57

-- the number that decimal digits show, after the digits of v
abbrev pub number : ℕ → List ℕ → ℕ
number v [] = v
number v (b ∷ bytes) = number (v * 10 + (b - 48)) bytes

-- one digit or more
abbrev pub is_number : List ℕ → Bool
is_number value = nat_lt 0 (length value) && list_all is_digit value

-- a body has to say its length
abbrev pub wants_length : List ℕ → Bool
wants_length method = bytes_eq method (codes "POST") || (bytes_eq method (codes "PUT") || bytes_eq method (codes "PATCH"))

-- by the values of Content-Length
unfoldable pub size_by : List ℕ → List (List ℕ) → Result ℕ Refusal
size_by method [] = if wants_length method then Err LengthRequired else Ok 0
size_by method (value ∷ []) =
    if is_number value then (if nat_lt body_limit (number 0 value) then Err BodyTooLong else Ok (number 0 value)) else Err BadMessage
size_by method (value ∷ other ∷ more) = Err BadMessage

-- by the values of Transfer-Encoding too
unfoldable pub framed_by : List ℕ → List (List ℕ) → List (List ℕ) → Result ℕ Refusal
framed_by method [] lengths = size_by method lengths
framed_by method (value ∷ more) lengths = Err LengthRequired

abbrev pub framing : List ℕ → List Pair → Result ℕ Refusal
framing method fields = framed_by method (values_of (codes "transfer-encoding") fields) (values_of (codes "content-length") fields)

-- a Connection field asks it
abbrev pub is_closing : Pair → Bool
is_closing p = str_eq_ignore_ascii_case p.0 (codes "connection") && has_element (codes "close") p.1

abbrev pub any_closes : List Pair → Bool
any_closes fields = list_any is_closing fields

-- the message asks that the line ends after it (RFC 9112 section 9.6)
unfoldable pub closes : ℕ → List Pair → Bool
closes minor fields = (minor == 0) || any_closes fields
