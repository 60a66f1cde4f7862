-- A text in which U+FFFD stands for what isn't UTF-8 is UTF-8, and UTF-8 is bytes.
use lib.Utf8.{scalar, scalars, encode, encodes, scalar_cases}
use Rattle.std.proofs.Common.{◌≡◌, ℕ, zero, suc, ◌+◌, ◌/◌, ◌%◌, ⊎_elim, ◌≤◌, ◌<◌, Bool, true, false, cond, ◌==◌, nat_lt, List, [], ◌∷◌, length, take, drop, Option, Some, None, refl, sym, subst, arith, inl, inr}
use Rattle.std.specs.Prelude.{unwrap_or, slice_index}
use Rattle.std.specs.Int.{is_in_range}
use Rattle.std.specs.Str.{IsUtf8, is_utf8}
use Rattle.std.specs.Str.Lossy.{valid_len_up_to, utf8_valid_len, second_byte_min, second_byte_max, error_len_after_two, error_len_after_one, error_len_of_some, utf8_error_len, utf8_invalid_len, after_first_chunk, replacement_bytes, utf8_lossy}
use Rattle.std.specs.List.{All}
use Rattle.std.proofs.lemmas.Bool.{cases_lt, cases_Bool, and_parts, lt-ltb, le-ltb}
use Rattle.std.proofs.lemmas.List.Elements.{All-nil, All-cons, All-append}
use Rattle.std.proofs.lemmas.List.{length-drop, take_all}
use Rattle.std.proofs.lemmas.Str.{IsUtf8-nil, IsUtf8-append, IsUtf8-from_is_utf8, utf8_lossy-IsUtf8, utf8_lossy_step}

either : {A : Type 0} (P : A → Type 0) (b : Bool) (x y : A) → P x → P y → P (cond b x y)
either P true x y p q = p
either P false x y p q = q

-- an invalid sequence has a byte, where there is one
invalid_len_pos : (bs : List ℕ) → 0 < length bs → 0 < utf8_invalid_len bs
unfolding utf8_error_len
invalid_len_pos bs some =
    let P : Option ℕ → Type 0 = λ o. 0 < unwrap_or o (length bs) in
    let one : P (Some 1) = omega arith in
    let two : P (Some 2) = omega arith in
    let three : P (Some 3) = omega arith in
    let x = slice_index bs 0 in
    let third = is_in_range 0x80 0xBF (slice_index bs 2) in
    let second = is_in_range (second_byte_min x) (second_byte_max x) (slice_index bs 1) in
    let after_three = either P (nat_lt (length bs) 4) None (Some 3) some three in
    let after_two : P (error_len_after_two bs) =
    either P (nat_lt (length bs) 3) None (cond third (cond (nat_lt (length bs) 4) None (Some 3)) (Some 2)) some
    (either P third (cond (nat_lt (length bs) 4) None (Some 3)) (Some 2) after_three two) in
    let after_one : P (error_len_after_one bs) =
    either P (nat_lt (length bs) 2) None (cond second (error_len_after_two bs) (Some 1)) some
    (either P second (error_len_after_two bs) (Some 1) after_two one) in
    either P (length bs == 0) None (error_len_of_some bs) some
    (either P (is_in_range 0xC2 0xF4 x) (error_len_after_one bs) (Some 1) after_one one)

shorter : (bs : List ℕ) → utf8_valid_len bs < length bs → length (after_first_chunk bs) < length bs
shorter bs faulty =
    let n = utf8_valid_len bs in
    let invalid = invalid_len_pos (drop n bs) (omega (arith, length-drop n bs)) in
    omega (arith, length-drop (n + utf8_invalid_len (drop n bs)) bs)

front_up_to : (bs : List ℕ) (n : ℕ) → IsUtf8 (take (valid_len_up_to bs n) bs)
front_up_to bs zero = IsUtf8-nil
front_up_to bs (suc n) = elim (cases_Bool (is_utf8 (take (suc n) bs))) [
  | inl text ↦ rw text (IsUtf8-from_is_utf8 (take (suc n) bs) text)
  | inr other ↦ rw other (front_up_to bs n)
]

front : (bs : List ℕ) → IsUtf8 (take (utf8_valid_len bs) bs)
unfolding utf8_valid_len
front bs = front_up_to bs (length bs)

replacement : IsUtf8 replacement_bytes
unfolding encode
replacement = (0xFFFD ∷ [], (refl, refl))

whole : (bs : List ℕ) → length bs ≤ utf8_valid_len bs → IsUtf8 (utf8_lossy bs)
whole bs all =
    let text : IsUtf8 bs = subst IsUtf8 (take_all (utf8_valid_len bs) bs all) (front bs) in
    subst IsUtf8 (sym (utf8_lossy-IsUtf8 bs text)) text

within : (k : ℕ) (bs : List ℕ) → length bs ≤ k → IsUtf8 (utf8_lossy bs)
within zero bs short = whole bs (omega arith)
within (suc k) bs short = elim (cases_lt (utf8_valid_len bs) (length bs)) [
  | inr all ↦ whole bs all
  | inl faulty ↦
      let less = shorter bs faulty in
      let other : ¬ (utf8_valid_len bs ≡ length bs) = λ e. omega arith in
      subst IsUtf8 (sym (utf8_lossy_step bs other))
      (IsUtf8-append _ _ (front bs) (IsUtf8-append _ _ replacement (within k (after_first_chunk bs) (omega arith))))
]

pub IsUtf8-utf8_lossy : (bs : List ℕ) → IsUtf8 (utf8_lossy bs)
IsUtf8-utf8_lossy bs = within (length bs) bs (omega arith)

abbrev pub IsByte : ℕ → Type 0
IsByte b = b < 256

pub one : (a : ℕ) → a < 256 → All IsByte (a ∷ [])
one a h = All-cons IsByte a [] h (All-nil IsByte)

two : (a b : ℕ) → a < 256 → b < 256 → All IsByte (a ∷ b ∷ [])
two a b h g = All-cons IsByte a (b ∷ []) h (one b g)

three : (a b c : ℕ) → a < 256 → b < 256 → c < 256 → All IsByte (a ∷ b ∷ c ∷ [])
three a b c h g f = All-cons IsByte a (b ∷ c ∷ []) h (two b c g f)

four : (a b c d : ℕ) → a < 256 → b < 256 → c < 256 → d < 256 → All IsByte (a ∷ b ∷ c ∷ d ∷ [])
four a b c d h g f e = All-cons IsByte a (b ∷ c ∷ d ∷ []) h (three b c d g f e)

below : (c : ℕ) → scalar c ≡ true → c < 1114112
below c h = ⊎_elim (λ low. omega arith) (λ high. omega (arith, high.1)) (scalar_cases c h)

bytes_of_one : (c : ℕ) → c < 1114112 → All IsByte (encode c)
unfolding encode
bytes_of_one c high = elim (cases_lt c 128) [
  | inl a ↦ rw (lt-ltb c 128 a) (one c (omega arith))
  | inr a ↦ elim (cases_lt c 2048) [
    | inl b ↦ rw (le-ltb c 128 a, lt-ltb c 2048 b) (two (192 + c / 64) (128 + c % 64) (omega arith) (omega arith))
    | inr b ↦ elim (cases_lt c 65536) [
      | inl d ↦ rw (le-ltb c 128 a, le-ltb c 2048 b, lt-ltb c 65536 d)
          (three (224 + c / 4096) (128 + c / 64 % 64) (128 + c % 64) (omega arith) (omega arith) (omega arith))
      | inr d ↦ rw (le-ltb c 128 a, le-ltb c 2048 b, le-ltb c 65536 d)
          (four (240 + c / 262144) (128 + c / 4096 % 64) (128 + c / 64 % 64) (128 + c % 64) (omega arith) (omega arith) (omega arith) (omega arith))
    ]
  ]
]

bytes_of_all : (cs : List ℕ) → scalars cs ≡ true → All IsByte (encodes cs)
bytes_of_all [] h = All-nil IsByte
bytes_of_all (c ∷ cs) h =
    let parts = and_parts _ _ h in
    All-append IsByte (encode c) (encodes cs) (bytes_of_one c (below c parts.0)) (bytes_of_all cs parts.1)

pub bytes_from_utf8 : (bs : List ℕ) → IsUtf8 bs → All IsByte bs
bytes_from_utf8 bs text = subst (All IsByte) text.1.1 (bytes_of_all text.0 text.1.0)
