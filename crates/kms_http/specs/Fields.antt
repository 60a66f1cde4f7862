-- The fields of a head, by name (RFC 9110 section 5.1).
use Rattle.std.specs.Prelude.{◌≡◌, ℕ, ◌<◌, List, [], ◌∷◌, length, if◌then◌else◌}
use Rattle.std.specs.Str.{str_eq_ignore_ascii_case}
use Rattle.kms_http.specs.declared.fields.Occurrence.{Occurrence}
use Rattle.kms_http.specs.declared.fields.Occurrence.TheVariants.{Absent, Once, Repeated}

-- a name and a value
abbrev pub Pair : Type 0
Pair = List ℕ × List ℕ

-- the values of the fields of this name, in their order
abbrev pub values_of : List ℕ → List Pair → List (List ℕ)
values_of name [] = []
values_of name (p ∷ ps) = if str_eq_ignore_ascii_case p.0 name then p.1 ∷ values_of name ps else values_of name ps

-- what a look-up says of those values
abbrev pub IsOccurrence : Occurrence → List (List ℕ) → Type 0
IsOccurrence Absent values = values ≡ []
IsOccurrence (Once value) values = values ≡ value.now ∷ []
IsOccurrence Repeated values = 1 < length values
