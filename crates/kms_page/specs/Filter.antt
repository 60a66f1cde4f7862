-- Which secrets a query's filters let through.
use Rattle.std.specs.Prelude.{ℕ, Bool, true, false, ◌&&◌, ◌==◌, List, filter, Option, Some, None}
use Rattle.std.specs.Option.{option_map_or}
use Rattle.std.specs.List.{slice_get}
use Rattle.std.specs.Str.{bytes_eq}
use Rattle.kms_world.specs.SecretKind.{word_of}
use Rattle.kms_world.specs.declared.secret.SecretKind.{SecretKind}
use Rattle.kms_world.specs.declared.secret.SecretRow.{SecretRow}
use Rattle.kms_page.specs.declared.query.Query.{Query}

-- an absent attribute equals no value
abbrev pub has_text : List ℕ → Option (List ℕ) → Bool
has_text wanted None = false
has_text wanted (Some text) = bytes_eq text wanted

abbrev pub has_number : ℕ → Option ℕ → Bool
has_number wanted None = false
has_number wanted (Some number) = number == wanted

-- without a filter each attribute passes
abbrev pub passes_text : Option (List ℕ) → Option (List ℕ) → Bool
passes_text None attribute = true
passes_text (Some wanted) attribute = has_text wanted attribute

abbrev pub passes_number : Option ℕ → Option ℕ → Bool
passes_number None attribute = true
passes_number (Some wanted) attribute = has_number wanted attribute

abbrev pub passes_kind : Option SecretKind → SecretKind → Bool
passes_kind None kind = true
passes_kind (Some wanted) kind = bytes_eq (word_of kind) (word_of wanted)

-- the secret passes every filter
unfoldable pub passes : Query → SecretRow → Bool
passes query row =
    passes_text query.name row.name
    && passes_text query.alg row.algorithm
    && passes_number query.bits row.bit_length
    && passes_text query.mode row.mode
    && passes_kind query.secret_type row.kind

-- the row at the place passes
abbrev pub passes_at : List SecretRow → Query → ℕ → Bool
passes_at rows query place = option_map_or (passes query) (slice_get rows place) false

-- the places of the rows that pass
unfoldable pub filtered : List SecretRow → List ℕ → Query → List ℕ
filtered rows shown query = filter (passes_at rows query) shown
