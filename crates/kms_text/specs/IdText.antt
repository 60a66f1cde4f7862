-- The text of an id (RFC 9562 section 4): hexadecimal digits in groups of 8, 4, 4, 4 and 12, with hyphens between them.
use Rattle.std.specs.Prelude.{ℕ, List, Option}
use Rattle.std.specs.Option.{option_map}
use Rattle.std.specs.Int.{w128, to_be_bytes, from_be_bytes}
use Rattle.kms_world.specs.declared.id.Id.{Id}
use Rattle.uuid.specs.Text.{hyphenated_text, lower, parsed_hyphenated}

-- the 36 characters of an id, in lower case
unfoldable pub id_text_of : Id → List ℕ
id_text_of id = hyphenated_text lower (to_be_bytes w128 id.0)

-- the id with this number
abbrev pub id_of_number : ℕ → Id
id_of_number number = record { 0 = number }

-- the id of 16 bytes, the first the most significant
abbrev pub id_of_bytes : List ℕ → Id
id_of_bytes bytes = id_of_number (from_be_bytes w128 bytes)

-- the id that a text of that form shows, in either case
unfoldable pub read_id_of : List ℕ → Option Id
read_id_of text = option_map id_of_bytes (parsed_hyphenated text)
