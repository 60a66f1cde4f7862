-- The lines of a head (RFC 9112 sections 2.1 and 5).
use Rattle.std.specs.Prelude.{ℕ, List, [], ◌∷◌, ◌++◌, codes}

abbrev pub crlf : List ℕ
crlf = 13 ∷ 10 ∷ []

-- one line of a head
abbrev pub with_crlf : List ℕ → List ℕ
with_crlf text = text ++ crlf

-- `Name: value` and the line's end
abbrev pub field : List ℕ → List ℕ → List ℕ
field name value = with_crlf (name ++ codes ": " ++ value)
