-- Multiplication by a byte is linear, and gives a byte.
use Rattle.std.proofs.Common.{◌≡◌, ℕ, zero, suc, ◌*◌, ◌/◌, ◌%◌, ◌<◌, ◌==◌, true, nat_lt, arith, refl, sym, ap, ◌∙◌, bit_xor}
use lib.Bits.{xor_lt, xor_shr}
use Rattle.kms_aes.specs.Field.{times_x, partial_product, product}
use Rattle.kms_aes.specs.Cipher.{sum_of_four}
use Rattle.kms_aes.proofs.AllBytes.{all_below, same_below, less_below}
use Rattle.kms_aes.proofs.Xor.{xor-across, double-xor, scale-xor}

times_x_fits_test : all_below 256 (λ b. nat_lt (times_x b) 256) ≡ true
unfolding times_x
times_x_fits_test = refl

pub times_x_fits : (b : ℕ) → b < 256 → times_x b < 256
times_x_fits = less_below 256 256 times_x times_x_fits_test

by_top_bit : ℕ → ℕ
by_top_bit b = bit_xor (2 * b) (b / 128 * 0x11b)

by_top_bit_test : all_below 256 (λ b. times_x b == by_top_bit b) ≡ true
unfolding times_x by_top_bit
by_top_bit_test = refl

times_x_by_top_bit : (b : ℕ) → b < 256 → times_x b ≡ by_top_bit b
times_x_by_top_bit = same_below 256 times_x by_top_bit by_top_bit_test

top_bit-xor : (a b : ℕ) → bit_xor a b / 128 ≡ bit_xor (a / 128) (b / 128)
top_bit-xor a b = xor_shr a b 7

digit-xor : (u v : ℕ) → u < 2 → v < 2 → bit_xor u v * 0x11b ≡ bit_xor (u * 0x11b) (v * 0x11b)
digit-xor zero zero hu hv = refl
digit-xor zero (suc zero) hu hv = refl
digit-xor (suc zero) zero hu hv = refl
digit-xor (suc zero) (suc zero) hu hv = refl
digit-xor (suc (suc u)) v hu hv = absurd (omega arith)
digit-xor u (suc (suc v)) hu hv = absurd (omega arith)

by_top_bit-xor : (a b : ℕ) → a < 256 → b < 256 → by_top_bit (bit_xor a b) ≡ bit_xor (by_top_bit a) (by_top_bit b)
unfolding by_top_bit
by_top_bit-xor a b ha hb =
    let above : (bit_xor a b / 128) * 0x11b ≡ bit_xor (a / 128 * 0x11b) (b / 128 * 0x11b)
    = ap (λ (t : ℕ). t * 0x11b) (top_bit-xor a b) ∙ digit-xor (a / 128) (b / 128) (omega arith) (omega arith) in
    ap (λ (t : ℕ). bit_xor t (bit_xor a b / 128 * 0x11b)) (double-xor a b)
    ∙ ap (λ (t : ℕ). bit_xor (bit_xor (2 * a) (2 * b)) t) above
    ∙ xor-across (2 * a) (2 * b) (a / 128 * 0x11b) (b / 128 * 0x11b)

pub xor_fits : (a b : ℕ) → a < 256 → b < 256 → bit_xor a b < 256
xor_fits a b ha hb = xor_lt 8 a b ha hb

pub times_x-xor : (a b : ℕ) → a < 256 → b < 256 → times_x (bit_xor a b) ≡ bit_xor (times_x a) (times_x b)
times_x-xor a b ha hb =
    times_x_by_top_bit (bit_xor a b) (xor_fits a b ha hb)
    ∙ by_top_bit-xor a b ha hb
    ∙ ap (λ (t : ℕ). bit_xor t (by_top_bit b)) (sym (times_x_by_top_bit a ha))
    ∙ ap (λ (t : ℕ). bit_xor (times_x a) t) (sym (times_x_by_top_bit b hb))

digit_times : (d b : ℕ) → d < 2 → b < 256 → d * b < 256
digit_times zero b hd hb = let z : 0 * b ≡ 0 = omega arith in omega arith
digit_times (suc zero) b hd hb = let z : 1 * b ≡ b = omega arith in omega arith
digit_times (suc (suc d)) b hd hb = absurd (omega arith)

partial_product-xor : (n c a b : ℕ) → a < 256 → b < 256
    → partial_product n c (bit_xor a b) ≡ bit_xor (partial_product n c a) (partial_product n c b)
unfolding partial_product
partial_product-xor zero c a b ha hb = refl
partial_product-xor (suc n) c a b ha hb =
    let lowest : c % 2 * bit_xor a b ≡ bit_xor (c % 2 * a) (c % 2 * b) = scale-xor (c % 2) a b (omega arith) in
    let rest : partial_product n (c / 2) (times_x (bit_xor a b))
    ≡ bit_xor (partial_product n (c / 2) (times_x a)) (partial_product n (c / 2) (times_x b))
    = ap (λ (t : ℕ). partial_product n (c / 2) t) (times_x-xor a b ha hb)
    ∙ partial_product-xor n (c / 2) (times_x a) (times_x b) (times_x_fits a ha) (times_x_fits b hb) in
    ap (λ (t : ℕ). bit_xor t (partial_product n (c / 2) (times_x (bit_xor a b)))) lowest
    ∙ ap (λ (t : ℕ). bit_xor (bit_xor (c % 2 * a) (c % 2 * b)) t) rest
    ∙ xor-across (c % 2 * a) (c % 2 * b) (partial_product n (c / 2) (times_x a)) (partial_product n (c / 2) (times_x b))

pub product-xor : (c a b : ℕ) → a < 256 → b < 256 → product c (bit_xor a b) ≡ bit_xor (product c a) (product c b)
unfolding product
product-xor c a b ha hb = partial_product-xor 8 c a b ha hb

partial_product_fits : (n c b : ℕ) → b < 256 → partial_product n c b < 256
unfolding partial_product
partial_product_fits zero c b hb = omega arith
partial_product_fits (suc n) c b hb =
    xor_fits (c % 2 * b) (partial_product n (c / 2) (times_x b))
    (digit_times (c % 2) b (omega arith) hb)
    (partial_product_fits n (c / 2) (times_x b) (times_x_fits b hb))

pub product_fits : (c b : ℕ) → b < 256 → product c b < 256
unfolding product
product_fits c b hb = partial_product_fits 8 c b hb

pub sum_of_four_fits : (a b c d : ℕ) → a < 256 → b < 256 → c < 256 → d < 256 → sum_of_four a b c d < 256
unfolding sum_of_four
sum_of_four_fits a b c d ha hb hc hd =
    xor_fits (bit_xor a b) (bit_xor c d) (xor_fits a b ha hb) (xor_fits c d hc hd)

pub product-sum_of_four : (k a b c d : ℕ) → a < 256 → b < 256 → c < 256 → d < 256
    → product k (sum_of_four a b c d) ≡ sum_of_four (product k a) (product k b) (product k c) (product k d)
unfolding sum_of_four
product-sum_of_four k a b c d ha hb hc hd =
    product-xor k (bit_xor a b) (bit_xor c d) (xor_fits a b ha hb) (xor_fits c d hc hd)
    ∙ ap (λ (t : ℕ). bit_xor t (product k (bit_xor c d))) (product-xor k a b ha hb)
    ∙ ap (λ (t : ℕ). bit_xor (bit_xor (product k a) (product k b)) t) (product-xor k c d hc hd)
