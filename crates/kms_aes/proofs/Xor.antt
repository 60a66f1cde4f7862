-- Sums of bytes may be put in any order.
use Rattle.std.proofs.Common.{◌≡◌, ℕ, zero, suc, ◌+◌, ◌*◌, ◌^◌, ◌<◌, arith, sym, ap, ◌∙◌, bit_xor}
use lib.Bits.{xor_assoc, xor_comm, xor_self, xor_zero_r, xor_block}
use Rattle.kms_aes.specs.Cipher.{sum_of_four}

-- a sum of two sums, by columns in place of rows
pub xor-across : (a b c d : ℕ) → bit_xor (bit_xor a b) (bit_xor c d) ≡ bit_xor (bit_xor a c) (bit_xor b d)
xor-across a b c d =
    xor_assoc a b (bit_xor c d)
    ∙ ap (λ (t : ℕ). bit_xor a t) (sym (xor_assoc b c d) ∙ ap (λ (t : ℕ). bit_xor t d) (xor_comm b c) ∙ xor_assoc c b d)
    ∙ sym (xor_assoc a c (bit_xor b d))

-- what is added twice is gone
pub xor-twice : (a b : ℕ) → bit_xor (bit_xor a b) b ≡ a
xor-twice a b = xor_assoc a b b ∙ ap (λ (t : ℕ). bit_xor a t) (xor_self b) ∙ xor_zero_r a

pub double-xor : (a b : ℕ) → 2 * bit_xor a b ≡ bit_xor (2 * a) (2 * b)
double-xor a b =
    let block : bit_xor (a * 2 ^ 1 + 0) (b * 2 ^ 1 + 0) ≡ bit_xor a b * 2 ^ 1 + bit_xor 0 0
    = xor_block 1 a b 0 0 (omega arith) (omega arith) in
    let left : 2 * a ≡ a * 2 ^ 1 + 0 = omega arith in
    let right : 2 * b ≡ b * 2 ^ 1 + 0 = omega arith in
    let both : 2 * bit_xor a b ≡ bit_xor a b * 2 ^ 1 + bit_xor 0 0 = omega arith in
    both ∙ sym block ∙ ap (λ (t : ℕ). bit_xor t (b * 2 ^ 1 + 0)) (sym left) ∙ ap (λ (t : ℕ). bit_xor (2 * a) t) (sym right)

pub scale-xor : (d a b : ℕ) → d < 2 → d * bit_xor a b ≡ bit_xor (d * a) (d * b)
scale-xor zero a b h =
    let x : 0 * bit_xor a b ≡ 0 = omega arith in
    let y : 0 * a ≡ 0 = omega arith in
    let z : 0 * b ≡ 0 = omega arith in
    rw (x, y, z)
scale-xor (suc zero) a b h =
    let x : 1 * bit_xor a b ≡ bit_xor a b = omega arith in
    let y : 1 * a ≡ a = omega arith in
    let z : 1 * b ≡ b = omega arith in
    rw (x, y, z)
scale-xor (suc (suc d)) a b h = absurd (omega arith)

pub sum_of_four-xor : (a b c d e f g h : ℕ) →
    bit_xor (sum_of_four a b c d) (sum_of_four e f g h)
    ≡ sum_of_four (bit_xor a e) (bit_xor b f) (bit_xor c g) (bit_xor d h)
unfolding sum_of_four
sum_of_four-xor a b c d e f g h =
    xor-across (bit_xor a b) (bit_xor c d) (bit_xor e f) (bit_xor g h)
    ∙ ap (λ (t : ℕ). bit_xor t (bit_xor (bit_xor c d) (bit_xor g h))) (xor-across a b e f)
    ∙ ap (λ (t : ℕ). bit_xor (bit_xor (bit_xor a e) (bit_xor b f)) t) (xor-across c d g h)

-- a sum of four sums of four, by columns in place of rows
pub sum_of_four-across : (a b c d e f g h i j k l m n o p : ℕ) →
    sum_of_four (sum_of_four a b c d) (sum_of_four e f g h) (sum_of_four i j k l) (sum_of_four m n o p)
    ≡ sum_of_four (sum_of_four a e i m) (sum_of_four b f j n) (sum_of_four c g k o) (sum_of_four d h l p)
unfolding sum_of_four
sum_of_four-across a b c d e f g h i j k l m n o p =
    ap (λ (t : ℕ). bit_xor t (bit_xor (sum_of_four i j k l) (sum_of_four m n o p))) (sum_of_four-xor a b c d e f g h)
    ∙ ap (λ (t : ℕ). bit_xor (sum_of_four (bit_xor a e) (bit_xor b f) (bit_xor c g) (bit_xor d h)) t) (sum_of_four-xor i j k l m n o p)
    ∙ sum_of_four-xor (bit_xor a e) (bit_xor b f) (bit_xor c g) (bit_xor d h) (bit_xor i m) (bit_xor j n) (bit_xor k o) (bit_xor l p)

-- turned by one
pub sum_of_four-turn : (a b c d : ℕ) → sum_of_four a b c d ≡ sum_of_four d a b c
unfolding sum_of_four
sum_of_four-turn a b c d =
    ap (λ (t : ℕ). bit_xor (bit_xor a b) t) (xor_comm c d)
    ∙ xor-across a b d c
    ∙ ap (λ (t : ℕ). bit_xor t (bit_xor b c)) (xor_comm a d)
