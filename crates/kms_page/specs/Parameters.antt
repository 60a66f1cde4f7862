-- The parameters of a query's text (URL Standard, section 5: application/x-www-form-urlencoded).
use Rattle.std.specs.Prelude.{ℕ, List, map, find, Option, option_map}
use Rattle.std.specs.Str.{bytes_eq}
use Rattle.std.specs.Str.Lossy.{utf8_lossy}
use Rattle.form_urlencoded.specs.Form.{raw_pairs, decode}

-- what a name or a value stands for; bytes that aren't UTF-8 become U+FFFD
abbrev pub decoded : List ℕ → List ℕ
decoded bytes = utf8_lossy (decode bytes)

-- names and values in their order
abbrev pub parameters_of : List ℕ → List (List ℕ × List ℕ)
parameters_of text = map (λ p. (decoded p.0, decoded p.1)) (raw_pairs text)

-- the value of the first parameter of this name
abbrev pub value_of : List ℕ → List (List ℕ × List ℕ) → Option (List ℕ)
value_of name parameters = option_map (λ p. p.1) (find (λ p. bytes_eq p.0 name) parameters)
