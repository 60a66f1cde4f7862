-- The text of an id reads as that id.
use Rattle.std.proofs.Common.{◌≡◌, ℕ, zero, suc, ◌^◌, ◌<◌, All, get_or, Option, Some, None, inl, refl, sym, ap, ◌∙◌, arith}
use Rattle.std.specs.Option.{option_map}
use Rattle.kms_world.specs.declared.id.Id.{Id}
use Rattle.kms_world.specs.Id.{id_number}
use Rattle.std.specs.Int.{w128, to_be_bytes}
use Rattle.std.specs.Int.{byte_at, bytes_high_first}
use Rattle.uuid.specs.Text.{lower}
use Rattle.uuid.proofs.TextLemmas.{all_fit}
use Rattle.uuid.proofs.RoundTrips.{parses_hyphenated_text}
use Rattle.kms_text.specs.IdText.{id_text_of, read_id_of, id_of_number, id_of_bytes}
use Rattle.kms_text.proofs.NumberLemmas.{from_be_bytes-to_be_bytes_16}

byte_small : (i n : ℕ) → byte_at i n < 256
byte_small zero n = omega arith
byte_small (suc i) n = omega arith

bytes_small : (k n i : ℕ) → get_or (bytes_high_first k n) i 0 < 256
bytes_small zero n i = omega arith
bytes_small (suc k) n zero = byte_small k n
bytes_small (suc k) n (suc i) = bytes_small k n i

-- the text of an id reads as that id
pub id_read : (id : Id) → id.0 < 2 ^ 128 → read_id_of (id_text_of id) ≡ Some id
unfolding read_id_of id_text_of
id_read id fits =
    let bytes = to_be_bytes w128 id.0 in
    let small : All (λ b. b < 256) bytes = all_fit bytes (λ k h. bytes_small 16 id.0 k) in
    sym (ap (option_map id_of_bytes) (parses_hyphenated_text lower bytes (inl refl) refl small))
    ∙ ap (λ n. Some (id_of_number n)) (from_be_bytes-to_be_bytes_16 id.0 fits)

number_in : Option Id → ℕ
number_in None = 0
number_in (Some id) = id.0

-- so two ids with one text have one number
pub id_text_apart : (a b : ℕ) → a < 2 ^ 128 → b < 2 ^ 128 → id_text_of (id_of_number a) ≡ id_text_of (id_of_number b) → a ≡ b
unfolding number_in
id_text_apart a b fits_a fits_b equal =
    let same : Some (id_of_number a) ≡ Some (id_of_number b) = sym (id_read (id_of_number a) fits_a) ∙ ap read_id_of equal ∙ id_read (id_of_number b) fits_b in ap number_in same

-- and two of one tag one count
pub counts_equal : (tag first second : ℕ) → tag < 2 ^ 60 → first < 2 ^ 62 → second < 2 ^ 62
    → id_text_of (id_of_number (id_number tag first)) ≡ id_text_of (id_of_number (id_number tag second)) → first ≡ second
counts_equal tag first second small a b equal =
    let same = id_text_apart (id_number tag first) (id_number tag second) (omega arith) (omega arith) equal in omega arith
