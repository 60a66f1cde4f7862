-- Words among the comma elements of a field's value.
use Rattle.std.specs.Prelude.{ℕ, List, Bool}
use Rattle.std.specs.List.{list_any}
use Rattle.std.specs.Str.{str_eq_ignore_ascii_case}
use Rattle.httparse.specs.Grammar.{trim_ows}
use Rattle.kms_elements.specs.Elements.{elements}

-- an element is a word, in any case and with white space around it
abbrev pub is_word : (word element : List ℕ) → Bool
is_word word element = str_eq_ignore_ascii_case (trim_ows element) word

-- one of the elements is the word
abbrev pub has_element : (word value : List ℕ) → Bool
has_element word value = list_any (is_word word) (elements value)
