-- Where the head of a message ends.
use Rattle.std.specs.Prelude.{ℕ, ◌+◌, List, [], ◌∷◌, ◌++◌, ◌==◌, Option, Some, None, is_some, option_map, if◌then◌else◌}
use Rattle.kms_http.specs.Lines.{crlf}

abbrev pub empty_line : List ℕ
empty_line = crlf ++ crlf

-- the bytes after a text, where they begin with it
unfoldable pub past : List ℕ → List ℕ → Option (List ℕ)
past [] bytes = Some bytes
past (x ∷ xs) [] = None
past (x ∷ xs) (y ∷ ys) = if x == y then past xs ys else None

-- how many bytes a head has: those up to and with the first CR LF CR LF (RFC 9112 section 2.1)
unfoldable pub head_len : List ℕ → Option ℕ
head_len [] = None
head_len (b ∷ bytes) = if is_some (past empty_line (b ∷ bytes)) then Some 4 else option_map (λ n. n + 1) (head_len bytes)

-- a head has at most so many bytes
abbrev pub head_limit : ℕ
head_limit = 16384
