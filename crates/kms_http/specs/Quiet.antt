-- How far a head's end was looked for.
use Rattle.std.specs.Prelude.{◌≡◌, ℕ, ◌<◌, List, drop, None}
use Rattle.kms_http.specs.HeadEnd.{past, empty_line}

-- no empty line begins before this place
abbrev pub IsQuiet : ℕ → List ℕ → Type 0
IsQuiet place bytes = (k : ℕ) → k < place → past empty_line (drop k bytes) ≡ None
