-- Media types of payloads, as clients may write them.
use Rattle.std.specs.Prelude.{ℕ, ◌==◌, Bool, not, List, codes, filter, Option, Some, None, if◌then◌else◌}
use Rattle.std.specs.Str.{bytes_eq, str_to_ascii_lowercase}
use Rattle.kms_world.specs.declared.payload.Media.{Media}
use Rattle.kms_world.specs.declared.payload.Media.TheVariants.{TextPlain, OctetStream}

-- in lower case (ASCII) and without spaces
abbrev pub plain_form : List ℕ → List ℕ
plain_form text = str_to_ascii_lowercase (filter (λ b. not (b == 32)) text)

-- the text has this plain form
abbrev pub has_form : List ℕ → List ℕ → Bool
has_form form text = bytes_eq (plain_form text) form

-- the media type that a text names
abbrev pub media_of : List ℕ → Option Media
media_of text =
    if has_form (codes "text/plain") text then Some TextPlain else
    if has_form (codes "text/plain;charset=utf-8") text then Some TextPlain else
    if has_form (codes "application/octet-stream") text then Some OctetStream else None
