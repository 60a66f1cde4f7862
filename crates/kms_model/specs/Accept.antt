-- The media types that a client accepts (RFC 9110 section 12.5.1), whatever weights it gives them.
use Rattle.std.specs.Prelude.{ℕ, Bool, true, ◌||◌, List, take, codes, Option, Some, None}
use Rattle.std.specs.List.{list_any}
use Rattle.std.specs.Str.{str_eq_ignore_ascii_case}
use Rattle.httparse.specs.Grammar.{trim_ows}
use Rattle.kms_elements.specs.Elements.{elements, length_before}
use Rattle.kms_world.specs.declared.reply.Media2.{Media2}
use Rattle.kms_world.specs.declared.reply.Media2.TheVariants.{Json, TextPlain, OctetStream}

-- an element without its parameters, which follow a semicolon
abbrev pub range_of : List ℕ → List ℕ
range_of element = trim_ows (take (length_before 59 element) element)

abbrev pub type_of : Media2 → List ℕ
type_of Json = codes "application/json"
type_of TextPlain = codes "text/plain"
type_of OctetStream = codes "application/octet-stream"

-- each type with the same main type
abbrev pub main_type_of : Media2 → List ℕ
main_type_of Json = codes "application/*"
main_type_of TextPlain = codes "text/*"
main_type_of OctetStream = codes "application/*"

-- the range, in any case, is that of each type, of each with the same main type, or of the type itself
abbrev pub is_range_of : Media2 → List ℕ → Bool
is_range_of media range =
    str_eq_ignore_ascii_case range (codes "*/*") || str_eq_ignore_ascii_case range (main_type_of media)
    || str_eq_ignore_ascii_case range (type_of media)

abbrev pub admits_in : Media2 → (element : List ℕ) → Bool
admits_in media element = is_range_of media (range_of element)

abbrev pub some_admits : Media2 → (accept : List ℕ) → Bool
some_admits media accept = list_any (admits_in media) (elements accept)

-- an answer of this type is accepted; without an Accept field each is
abbrev pub admits : Option (List ℕ) → Media2 → Bool
admits None media = true
admits (Some accept) media = some_admits media accept
