-- How many bytes a text is the base64url of, and what is decoded into just that room.
use Rattle.std.proofs.Common.{◌≡◌, ◌≢◌, ℕ, ◌+◌, ◌-◌, ◌*◌, ◌/◌, ◌%◌, ◌<◌, ◌≤◌, Bool, true, false, nat_lt, inl, inr, List, [], ◌∷◌, ◌++◌, Result, Ok, Err, length, get_or, take, drop, replicate, arith, refl, sym, ap, ◌∙◌}
use Rattle.std.specs.Prelude.{if◌then◌else◌, Option, None, Some}
use Rattle.std.proofs.lemmas.List.{take_at, get_or-drop, length-drop, length-append}
use Rattle.std.proofs.lemmas.Bool.{cases_lt, lt-ltb, le-ltb}
use Rattle.base64.specs.Engines.{url_safe}
use Rattle.base64.specs.GeneralPurpose.{decode_slice_of, decoded_bytes_of, engine_symbols, IsBytes}
use Rattle.base64.specs.Rfc4648.{encode_symbols, padding_len}
use Rattle.base64.specs.Decode.{or_else, or_error, bytes_fit, decode_outcome, groups_before_last, groups_bytes, suffix_bytes}
use Rattle.base64.specs.declared.decode.DecodeError.{DecodeError}
use Rattle.base64.specs.declared.decode.DecodeSliceError.{DecodeSliceError}
use Rattle.base64.specs.declared.decode.DecodeSliceError.TheVariants.{OutputSliceTooSmall}
use Rattle.base64.proofs.Tables.{is_alphabet_symbol, are_tables_alphabet}
use Rattle.base64.proofs.RoundTrip.{drop_encoded}
use Rattle.base64.proofs.Decoding.{length-groups_bytes}
use Rattle.kms_fernet.specs.Key.{IsBase64url, IsNoBase64url, DecodesWithin}
use Rattle.kms_fernet.proofs.KeyLaws.{length-base64url, decoded_base64url, decoded_front}

-- ---- how many bytes there are

-- no symbol is `=`
symbol_apart : (v : ℕ) → v < 64 → get_or (engine_symbols url_safe) v 0 ≢ 61
symbol_apart v h =
    (is_alphabet_symbol (engine_symbols url_safe) 61 v
    (are_tables_alphabet (engine_symbols url_safe) url_safe.decode_table 61 url_safe.tables) h).2

-- what ends a text: the symbols of the last bytes, from one to three, and the padding
record EndsIn (text : List ℕ) (n : ℕ) : Type 0 where
  one : n % 3 ≡ 1 → (get_or text (length text - 1) 0 ≡ 61) × (get_or text (length text - 2) 0 ≡ 61)
  two : n % 3 ≡ 2 → (get_or text (length text - 1) 0 ≡ 61) × (get_or text (length text - 2) 0 ≢ 61)
  three : n % 3 ≡ 0 → get_or text (length text - 1) 0 ≢ 61

last_one : (m : List ℕ) → length m ≡ 1
    → (get_or (encode_symbols (engine_symbols url_safe) m ++ replicate 2 61) 3 0 ≡ 61)
    × (get_or (encode_symbols (engine_symbols url_safe) m ++ replicate 2 61) 2 0 ≡ 61)
unfolding encode_symbols
last_one [] e = absurd (omega arith)
last_one (a ∷ []) e = (refl, refl)
last_one (a ∷ b ∷ m) e = absurd (omega arith)

last_two : (m : List ℕ) → length m ≡ 2
    → (get_or (encode_symbols (engine_symbols url_safe) m ++ replicate 1 61) 3 0 ≡ 61)
    × (get_or (encode_symbols (engine_symbols url_safe) m ++ replicate 1 61) 2 0 ≢ 61)
unfolding encode_symbols
last_two [] e = absurd (omega arith)
last_two (a ∷ []) e = absurd (omega arith)
last_two (a ∷ b ∷ []) e = (refl, symbol_apart (b % 16 * 4) (omega arith))
last_two (a ∷ b ∷ c ∷ m) e = absurd (omega arith)

last_three : (m : List ℕ) → length m ≡ 3
    → get_or (encode_symbols (engine_symbols url_safe) m ++ replicate 0 61) 3 0 ≢ 61
unfolding encode_symbols
last_three [] e = absurd (omega arith)
last_three (a ∷ []) e = absurd (omega arith)
last_three (a ∷ b ∷ []) e = absurd (omega arith)
last_three (a ∷ b ∷ c ∷ []) e = symbol_apart (c % 64) (omega arith)
last_three (a ∷ b ∷ c ∷ d ∷ m) e = absurd (omega arith)

-- how many bytes come before the last group
before_last : ℕ → ℕ
before_last n = (n - 1) / 3

-- an element of the last group
of_last : (text bytes : List ℕ) (i j p : ℕ) → IsBase64url text bytes → padding_len (length bytes) ≡ p
    → i ≡ 4 * before_last (length bytes) + j
    → get_or text i 0
    ≡ get_or (encode_symbols (engine_symbols url_safe) (drop (3 * before_last (length bytes)) bytes) ++ replicate p 61) j 0
unfolding before_last
of_last text bytes i j p is padding place =
    let q = before_last (length bytes) in
    ap (λ (k : ℕ). get_or text k 0) place
    ∙ sym (get_or-drop (4 * q) text j 0)
    ∙ ap (λ (t : List ℕ). get_or (drop (4 * q) t) j 0) is.spelled
    ∙ ap (λ (t : List ℕ). get_or t j 0)
    (drop_encoded (engine_symbols url_safe) bytes (replicate (padding_len (length bytes)) 61) q (omega arith))
    ∙ ap (λ (k : ℕ). get_or (encode_symbols (engine_symbols url_safe) (drop (3 * q) bytes) ++ replicate k 61) j 0) padding

ends_in : (text bytes : List ℕ) → IsBase64url text bytes → 4 ≤ length text → EndsIn text (length bytes)
unfolding before_last
ends_in text bytes is long =
    let n = length bytes in
    let size = length-base64url bytes n refl in
    let all : length text ≡ (4 * n + 2) / 3 + (3 - n % 3) % 3 = ap length is.spelled ∙ size in
    let q = before_last n in
    let left = length-drop (3 * q) bytes in
    record {
      one = λ e.
          let last = last_one (drop (3 * q) bytes) (omega arith) in (
            of_last text bytes (length text - 1) 3 2 is (omega arith) (omega arith) ∙ last.0,
            of_last text bytes (length text - 2) 2 2 is (omega arith) (omega arith) ∙ last.1,
          );
      two = λ e.
          let last = last_two (drop (3 * q) bytes) (omega arith) in (
            of_last text bytes (length text - 1) 3 1 is (omega arith) (omega arith) ∙ last.0,
            λ same. last.1 (sym (of_last text bytes (length text - 2) 2 1 is (omega arith) (omega arith)) ∙ same),
          );
      three = λ e same.
          last_three (drop (3 * q) bytes) (omega arith)
          (sym (of_last text bytes (length text - 1) 3 0 is (omega arith) (omega arith)) ∙ same);
    }

-- the length of a base64url
size_of : (text bytes : List ℕ) → IsBase64url text bytes
    → length text ≡ (4 * length bytes + 2) / 3 + (3 - length bytes % 3) % 3
size_of text bytes is = ap length is.spelled ∙ length-base64url bytes (length bytes) refl

-- a room of three bytes for each four characters or fewer
pub within_thirds : (text bytes : List ℕ) → IsBase64url text bytes → length bytes ≤ (length text + 3) / 4 * 3
within_thirds text bytes is = let all = size_of text bytes is in omega arith

-- the bytes of a text that is shorter than a group
pub none_of_short : (text bytes : List ℕ) → length text < 4 → IsBase64url text bytes → 0 ≡ length bytes
none_of_short text bytes short is = let all = size_of text bytes is in omega arith

-- by the `=` at its end
pub size_of_unpadded : (text bytes : List ℕ) → 4 ≤ length text → get_or text (length text - 1) 0 ≢ 61
    → IsBase64url text bytes → length text / 4 * 3 ≡ length bytes
size_of_unpadded text bytes long last is =
    let all = size_of text bytes is in
    let ends = ends_in text bytes is long in
    let not_one : length bytes % 3 ≢ 1 = λ e. last (ends.one e).0 in
    let not_two : length bytes % 3 ≢ 2 = λ e. last (ends.two e).0 in
    omega arith

pub size_of_padded : (text bytes : List ℕ) → 4 ≤ length text → get_or text (length text - 1) 0 ≡ 61
    → get_or text (length text - 2) 0 ≢ 61 → IsBase64url text bytes → length text / 4 * 3 - 1 ≡ length bytes
size_of_padded text bytes long last before is =
    let all = size_of text bytes is in
    let ends = ends_in text bytes is long in
    let not_one : length bytes % 3 ≢ 1 = λ e. before (ends.one e).1 in
    let not_three : length bytes % 3 ≢ 0 = λ e. ends.three e last in
    omega arith

pub size_of_padded_twice : (text bytes : List ℕ) → 4 ≤ length text → get_or text (length text - 1) 0 ≡ 61
    → get_or text (length text - 2) 0 ≡ 61 → IsBase64url text bytes → length text / 4 * 3 - 2 ≡ length bytes
size_of_padded_twice text bytes long last before is =
    let all = size_of text bytes is in
    let ends = ends_in text bytes is long in
    let not_two : length bytes % 3 ≢ 2 = λ e. (ends.two e).1 before in
    let not_three : length bytes % 3 ≢ 0 = λ e. ends.three e last in
    omega arith

-- ---- what is decoded into a room

-- a decoding that answers Ok met no error
answered : (lone rest : Option DecodeError) (small : Bool) (fit : Result ℕ DecodeSliceError) (n : ℕ)
    → or_error lone (if small then Err OutputSliceTooSmall else or_error rest fit) ≡ Ok n
    → (or_else lone rest ≡ None) × (fit ≡ Ok n)
answered (Some e) rest small fit n h = cc
answered None rest true fit n h = cc
answered None (Some e) false fit n h = cc
answered None None false fit n h = (refl, h)

-- and one that meets none answers Ok
unanswered : (lone rest : Option DecodeError) (small : Bool) (fit : Result ℕ DecodeSliceError)
    → or_else lone rest ≡ None → small ≡ false
    → or_error lone (if small then Err OutputSliceTooSmall else or_error rest fit) ≡ fit
unanswered (Some e) rest small fit none roomy = cc
unanswered None (Some e) small fit none roomy = cc
unanswered None None true fit none roomy = cc
unanswered None None false fit none roomy = refl

fit_ok : (size room n : ℕ) → bytes_fit size room ≡ Ok n → size ≡ n
fit_ok size room n h =
    elim (cases_lt room size) [
      | inl small ↦ let is : nat_lt room size ≡ true = lt-ltb room size small in cc (rw is at h)
      | inr enough ↦ let is : nat_lt room size ≡ false = le-ltb room size enough in cc (rw is at h)
    ]

outcome : (error : Option DecodeError) (bytes : List ℕ) → error ≡ None → decode_outcome error bytes ≡ Ok bytes
outcome None bytes e = refl
outcome (Some x) bytes e = cc

outcome_ok : (error : Option DecodeError) (bytes b : List ℕ) → decode_outcome error bytes ≡ Ok b → (error ≡ None) × (bytes ≡ b)
outcome_ok None bytes b h = (refl, cc)
outcome_ok (Some e) bytes b h = cc

-- what is decoded at the front of a room is read from the text
pub decoded_at_front : (text old new : List ℕ) (n : ℕ) → IsBytes text → IsBytes new → decode_slice_of url_safe text (length old) ≡ Ok n
    → new ≡ decoded_bytes_of url_safe text ++ drop (length (decoded_bytes_of url_safe text)) old
    → IsBase64url text (take n new)
decoded_at_front text old new n fit new_fit gives written =
    let found = answered _ _ _ _ n gives in
    let size : length (decoded_bytes_of url_safe text) ≡ n = fit_ok _ (length old) n found.1 in
    let front : take n new ≡ decoded_bytes_of url_safe text
    = ap (take n) written ∙ take_at (decoded_bytes_of url_safe text) _ n size in
    decoded_front text new n fit new_fit (outcome _ (decoded_bytes_of url_safe text) found.0 ∙ ap (λ (t : List ℕ). Ok t) (sym front))

groups_within : (text : List ℕ) → 3 * groups_before_last (length text) ≤ length (decoded_bytes_of url_safe text)
groups_within text =
    let q = groups_before_last (length text) in
    let a = length-groups_bytes url_safe.decode_table text q in
    let b = length-append (groups_bytes url_safe.decode_table text q) (suffix_bytes url_safe.decode_table 61 (4 * q) text) in
    omega arith

bytes_fit_in : (size room : ℕ) → size ≤ room → bytes_fit size room ≡ Ok size
bytes_fit_in size room h = rw (le-ltb room size h) refl

-- the bytes of a text are decoded into any room that holds them
pub decodes_within : (text bytes : List ℕ) (room : ℕ) → IsBase64url text bytes → length bytes ≤ room
    → decode_slice_of url_safe text room ≡ Ok (length bytes)
decodes_within text bytes room is fits =
    let found = outcome_ok _ (decoded_bytes_of url_safe text) bytes (decoded_base64url text bytes is) in
    let size : length (decoded_bytes_of url_safe text) ≡ length bytes = ap length found.1 in
    let groups = groups_within text in
    let enough : groups_before_last (length text) ≤ room / 3 = omega arith in
    unanswered _ _ _ _ found.0 (le-ltb (room / 3) (groups_before_last (length text)) enough)
    ∙ ap (λ (k : ℕ). bytes_fit k room) size
    ∙ bytes_fit_in (length bytes) room fits

-- so what is not decoded into a room for all its bytes is no base64url
pub undecoded_within : (text : List ℕ) (room : ℕ) (e : DecodeSliceError) → DecodesWithin text room
    → decode_slice_of url_safe text room ≡ Err e → IsNoBase64url text
undecoded_within text room e fits fails bytes is =
    apart (sym fails ∙ decodes_within text bytes room is (fits bytes is))
  where
    apart : {f : DecodeSliceError} {n : ℕ} → ◌≡◌ {A = Result ℕ DecodeSliceError} (Err f) (Ok n) → ⊥
    apart h = cc
