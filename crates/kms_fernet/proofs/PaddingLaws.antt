-- Padding at the end of a text, and tests of equal bytes.
use Rattle.std.proofs.Common.{◌≡◌, ℕ, ◌+◌, ◌-◌, ◌%◌, ◌<◌, ◌≤◌, List, [], ◌∷◌, ◌++◌, length, get_or, take, replicate, arith, sym, ap, ◌∙◌, bit_xor, bit_or}
use Rattle.std.proofs.lemmas.List.{take_more, get_or-drop, get_or-replicate, length-take, take-append-drop, same_from_push}
use lib.Bits.{or_add_and, and_le_l, and_le_r, xor_self}
use Rattle.kms_aes.proofs.Xor.{xor-twice}
use Rattle.kms_fernet.specs.Cbc.{padding_len, padded, EndsInPadding}

-- a text that ends in padding ends in a byte that says how much
pub last_is_count : (text : List ℕ) (count : ℕ) → 16 ≤ length text → EndsInPadding text count
    → get_or text (length text - 1) 0 ≡ count
last_is_count text count long ends =
    let least = ends.least in
    let most = ends.most in
    let at : length text - 1 ≡ length text - count + (count - 1) = omega arith in
    let within : count - 1 < count = omega arith in
    ap (λ (n : ℕ). get_or text n 0) at
    ∙ sym (get_or-drop (length text - count) text (count - 1) 0)
    ∙ ap (λ (t : List ℕ). get_or t (count - 1) 0) ends.bytes
    ∙ get_or-replicate count (count - 1) count 0 within

-- what stands before padding gets just that padding
pub padded-front : (text : List ℕ) (count : ℕ) → length text % 16 ≡ 0 → 16 ≤ length text → EndsInPadding text count
    → padded (take (length text - count) text) ≡ text
unfolding padded
padded-front text count whole long ends =
    let least = ends.least in
    let most = ends.most in
    let len = length-take (length text - count) text in
    let size : padding_len (length (take (length text - count) text)) ≡ count = omega arith in
    ap (λ (n : ℕ). take (length text - count) text ++ replicate n n) size
    ∙ ap (λ (t : List ℕ). take (length text - count) text ++ t) (sym ends.bytes)
    ∙ take-append-drop (length text - count) text

or_zero : (a b : ℕ) → bit_or a b ≡ 0 → (a ≡ 0) × (b ≡ 0)
or_zero a b e =
    let sum = or_add_and a b in
    let left = and_le_l a b in
    let right = and_le_r a b in
    (omega arith, omega arith)

xor_zero : (a b : ℕ) → bit_xor a b ≡ 0 → a ≡ b
xor_zero a b e = sym (xor-twice a b) ∙ ap (λ (t : ℕ). bit_xor t b) e

-- a difference of two lists so far, and one byte on
pub same_more : (a b : List ℕ) (i d : ℕ) → i < length a → i < length b → (d ≡ 0 → take i a ≡ take i b)
    → bit_or d (bit_xor (get_or a i 0) (get_or b i 0)) ≡ 0 → take (i + 1) a ≡ take (i + 1) b
same_more a b i d la lb before e =
    let parts = or_zero d (bit_xor (get_or a i 0) (get_or b i 0)) e in
    let here = xor_zero (get_or a i 0) (get_or b i 0) parts.1 in
    take_more a i 0 la
    ∙ ap (λ (t : List ℕ). t ++ get_or a i 0 ∷ []) (before parts.0)
    ∙ ap (λ (t : ℕ). take i b ++ t ∷ []) here
    ∙ sym (take_more b i 0 lb)

pub zero_more : (a b : List ℕ) (i d : ℕ) → i < length a → i < length b → (take i a ≡ take i b → d ≡ 0)
    → take (i + 1) a ≡ take (i + 1) b → bit_or d (bit_xor (get_or a i 0) (get_or b i 0)) ≡ 0
zero_more a b i d la lb before e =
    let parts = same_from_push (take i a) (take i b) (get_or a i 0) (get_or b i 0)
    (sym (take_more a i 0 la) ∙ e ∙ take_more b i 0 lb) in
    let none : d ≡ 0 = before parts.0 in
    ap (λ (t : ℕ). bit_or t (bit_xor (get_or a i 0) (get_or b i 0))) none
    ∙ ap (λ (t : ℕ). bit_xor t (get_or b i 0)) parts.1
    ∙ xor_self (get_or b i 0)
