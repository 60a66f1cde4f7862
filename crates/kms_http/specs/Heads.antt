-- The head of a request, read from all its bytes. The tree is httparse's; a reading is right where the tree is valid and
-- its bytes are those that were read, so each step only has to find where its part ends.
use Rattle.std.specs.Prelude.{◌≡◌, ℕ, zero, suc, ◌-◌, List, [], ◌∷◌, length, drop, get_or, Bool, true, ◌&&◌, ◌==◌, nat_le, nat_lt, Option, Some, None, if◌then◌else◌}
use Rattle.std.specs.List.{list_all}
use Rattle.std.specs.Str.{is_utf8, bytes_eq}
use Rattle.httparse.specs.Grammar.{LineEnd, crlf, lf, Field, RequestHead, print_request, ReadsRequest, is_token, is_token_byte, is_uri_byte, is_value_byte}
use Rattle.httparse.specs.Pieces.{is_newline}

-- the bytes from the front on that pass the test, and those after them
abbrev pub run : (ℕ → Bool) → List ℕ → List ℕ
run test [] = []
run test (b ∷ bytes) = if test b then b ∷ run test bytes else []

abbrev pub after_run : (ℕ → Bool) → List ℕ → List ℕ
after_run test [] = []
after_run test (b ∷ bytes) = if test b then after_run test bytes else b ∷ bytes

-- a CR before a line end
abbrev pub with_cr : List LineEnd → List LineEnd
with_cr [] = []
with_cr (e ∷ ends) = crlf ∷ ends

-- the line ends among some bytes
abbrev pub ends_in : List ℕ → List LineEnd
ends_in [] = []
ends_in (b ∷ bytes) = if b == 10 then lf ∷ ends_in bytes else with_cr (ends_in bytes)

-- the line end at the front, and the bytes after it
abbrev pub end_at : List ℕ → LineEnd
end_at [] = lf
end_at (b ∷ bytes) = if b == 13 then crlf else lf

abbrev pub after_end : List ℕ → List ℕ
after_end [] = []
after_end (b ∷ bytes) = if b == 13 then drop 1 bytes else bytes

-- the field line at the front, and the bytes after it
abbrev pub value_at : List ℕ → List ℕ
value_at bytes = drop 1 (after_run is_token_byte bytes)

abbrev pub field_at : List ℕ → Field
field_at bytes = record {
  name = run is_token_byte bytes;
  raw = run is_value_byte (value_at bytes);
  end = end_at (after_run is_value_byte (value_at bytes));
}

abbrev pub after_field : List ℕ → List ℕ
after_field bytes = after_end (after_run is_value_byte (value_at bytes))

-- a line end is at the front, or nothing is
abbrev pub is_last : List ℕ → Bool
is_last [] = true
is_last (b ∷ bytes) = is_newline b

-- the field lines up to the empty line, at most so many, and the empty line
unfoldable pub fields_at : ℕ → List ℕ → List Field
fields_at zero bytes = []
fields_at (suc most) bytes = if is_last bytes then [] else field_at bytes ∷ fields_at most (after_field bytes)

unfoldable pub last_at : ℕ → List ℕ → LineEnd
last_at zero bytes = end_at bytes
last_at (suc most) bytes = if is_last bytes then end_at bytes else last_at most (after_field bytes)

-- the parts of the bytes, as if they were a head
abbrev pub at_method : List ℕ → List ℕ
at_method bytes = after_run is_newline bytes

abbrev pub at_target : List ℕ → List ℕ
at_target bytes = drop 1 (after_run is_token_byte (at_method bytes))

abbrev pub at_version : List ℕ → List ℕ
at_version bytes = drop 1 (after_run is_uri_byte (at_target bytes))

abbrev pub at_fields : List ℕ → List ℕ
at_fields bytes = after_end (drop 8 (at_version bytes))

unfoldable pub parts_of : List ℕ → RequestHead
parts_of bytes = record {
  blank = ends_in (run is_newline bytes);
  method = run is_token_byte (at_method bytes);
  target = run is_uri_byte (at_target bytes);
  minor = get_or (at_version bytes) 7 0 - 48;
  line_end = end_at (drop 8 (at_version bytes));
  fields = fields_at (length (at_fields bytes)) (at_fields bytes);
  last = last_at (length (at_fields bytes)) (at_fields bytes);
}

-- httparse's conditions on a head, as a test
abbrev pub is_field : Field → Bool
is_field f = is_token f.name && list_all is_value_byte f.raw

unfoldable pub is_head : RequestHead → Bool
is_head h =
    is_token h.method && ((nat_lt 0 (length h.target) && list_all is_uri_byte h.target)
    && (is_utf8 h.target && (nat_le h.minor 1 && list_all is_field h.fields)))

abbrev pub if_head : RequestHead → List ℕ → Option RequestHead
if_head h bytes = if is_head h && bytes_eq (print_request h) bytes then Some h else None

-- the request head that the bytes are, as a whole
unfoldable pub whole_head : List ℕ → Option RequestHead
whole_head bytes = if_head (parts_of bytes) bytes

-- it is httparse's: the law of the function above
abbrev pub IsWholeHead : Type 0
IsWholeHead =
    ((bytes : List ℕ) (h : RequestHead) → whole_head bytes ≡ Some h → ReadsRequest bytes h [])
    × ((bytes : List ℕ) (h : RequestHead) → ReadsRequest bytes h [] → whole_head bytes ≡ Some h)
