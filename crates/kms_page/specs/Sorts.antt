-- The parameter `sort`: keys and directions with commas between them.
use Rattle.std.specs.Prelude.{ℕ, Bool, true, false, ◌==◌, List, [], ◌∷◌, drop, codes, Option, Some, None, option_map, if◌then◌else◌, find}
use Rattle.std.specs.Option.{option_and_then}
use Rattle.std.specs.List.{slice_split, before_first, position_or_len, list_any}
use Rattle.std.specs.Str.{bytes_eq}
use Rattle.kms_page.specs.declared.sorts.SortKey.{SortKey}
use Rattle.kms_page.specs.declared.sorts.SortKey.TheVariants.{Name, Alg, Bits, Mode, SecretType, Created, Updated, Expiration}

abbrev pub word_of : SortKey → List ℕ
word_of Name = codes "name"
word_of Alg = codes "alg"
word_of Bits = codes "bits"
word_of Mode = codes "mode"
word_of SecretType = codes "secret_type"
word_of Created = codes "created"
word_of Updated = codes "updated"
word_of Expiration = codes "expiration"

abbrev pub sort_keys : List SortKey
sort_keys = Name ∷ Alg ∷ Bits ∷ Mode ∷ SecretType ∷ Created ∷ Updated ∷ Expiration ∷ []

-- the key whose word this is
abbrev pub key_of : List ℕ → Option SortKey
key_of word = find (λ key. bytes_eq (word_of key) word) sort_keys

-- what stands behind a key: true where it asks for descending order
abbrev pub direction_of : List ℕ → Option Bool
direction_of rest =
    if bytes_eq rest [] then Some false else
    if bytes_eq rest (codes ":asc") then Some false else
    if bytes_eq rest (codes ":desc") then Some true else None

abbrev pub is_colon : ℕ → Bool
is_colon b = b == 58

abbrev pub is_comma : ℕ → Bool
is_comma b = b == 44

-- a key and whether it descends
abbrev pub sort_from : Option SortKey → Option Bool → Option (SortKey × Bool)
sort_from None direction = None
sort_from (Some key) direction = option_map (λ descends. (key, descends)) direction

abbrev pub sort_of : List ℕ → Option (SortKey × Bool)
sort_of piece =
    sort_from (key_of (before_first is_colon piece)) (direction_of (drop (position_or_len is_colon piece) piece))

-- one of the sorts has this key
abbrev pub has_key : SortKey → List (SortKey × Bool) → Bool
has_key key sorts = list_any (λ s. bytes_eq (word_of s.0) (word_of key)) sorts

-- the sorts with one more in front; none where one of them has its key
abbrev pub before : SortKey × Bool → List (SortKey × Bool) → Option (List (SortKey × Bool))
before sort sorts = if has_key sort.0 sorts then None else Some (sort ∷ sorts)

-- each piece is a sort, and no key stands twice
abbrev pub sorts_from : List (List ℕ) → Option (List (SortKey × Bool))
sorts_from [] = Some []
sorts_from (piece ∷ pieces) =
    option_and_then (λ sort. option_and_then (before sort) (sorts_from pieces)) (sort_of piece)

abbrev pub sorts_of : List ℕ → Option (List (SortKey × Bool))
sorts_of text = sorts_from (slice_split is_comma text)
