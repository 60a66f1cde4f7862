-- The object that a body is (RFC 8259): UTF-8 alone, and arrays and objects nest to 127. Of one key twice the last counts.
use Rattle.std.specs.Prelude.{◌==◌, ◌&&◌, ◌||◌, ℕ, Bool, true, List, [], ◌∷◌, take, drop, codes, Option, Some, None, Result, Ok, Err, option_and_then, if◌then◌else◌}
use Rattle.std.specs.List.{before_first, list_all}
use Rattle.std.specs.Str.{is_utf8, str_eq_ignore_ascii_case}
use Rattle.serde_json.specs.Data.{Data, object, Members}
use Rattle.serde_json.specs.Find.{as_object}
use Rattle.serde_json.specs.Read.{read}
use Rattle.kms_world.specs.declared.refusal.Field.TheVariants.{Body}
use Rattle.kms_world.specs.declared.refusal.Refusal.{Refusal}
use Rattle.kms_world.specs.declared.refusal.Refusal.TheVariants.{BadBody, WrongType}

-- what a body says, or is refused for
abbrev pub Said : Type 0 → Type 0
Said A = Result A Refusal

-- space or tab
abbrev pub is_blank : ℕ → Bool
is_blank b = (b == 32) || (b == 9)

abbrev pub past_blanks : List ℕ → List ℕ
past_blanks [] = []
past_blanks (b ∷ bytes) = if is_blank b then past_blanks bytes else b ∷ bytes

-- a media type without parameters is this one: in any case, with blanks around it
abbrev pub is_json_type : List ℕ → Bool
is_json_type text =
    let rest = past_blanks text in
    str_eq_ignore_ascii_case (take 16 rest) (codes "application/json") && list_all is_blank (drop 16 rest)

-- the Content-Type is absent, or JSON's with any parameters (RFC 9110 section 8.3.1)
unfoldable pub is_json : Option (List ℕ) → Bool
is_json None = true
is_json (Some text) = is_json_type (before_first (λ b. b == 59) text)

-- the value of the bytes
unfoldable pub value_of : List ℕ → Option Data
value_of bytes = if is_utf8 bytes then read bytes else None

-- the members of the object that the bytes are
abbrev pub body_of : List ℕ → Option Members
body_of bytes = option_and_then as_object (value_of bytes)

abbrev pub object_or_fault : Option Members → Said Data
object_or_fault None = Err (BadBody Body)
object_or_fault (Some members) = Ok (object members)

-- the object of a body with this Content-Type
abbrev pub body_object : Option (List ℕ) → List ℕ → Said Data
body_object content_type bytes = if is_json content_type then object_or_fault (body_of bytes) else Err WrongType
