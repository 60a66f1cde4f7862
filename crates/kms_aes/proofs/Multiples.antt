-- The products that MixColumns and its inverse take, by doubling.
use Rattle.std.proofs.Common.{◌≡◌, ℕ, ◌+◌, ◌-◌, ◌*◌, ◌<◌, ◌≤◌, ◌==◌, true, arith, refl, ap, ◌∙◌, bit_xor}
use Rattle.kms_aes.specs.Field.{times_x, partial_product, product}
use Rattle.kms_aes.proofs.AllBytes.{all_below, same_below}

low_test : all_below 128 (λ b. b * 2 == times_x b) ≡ true
unfolding times_x
low_test = refl

pub doubled_low : (b : ℕ) → b < 128 → b * 2 ≡ times_x b
doubled_low = same_below 128 (λ b. b * 2) times_x low_test

high_test : all_below 128 (λ b. bit_xor (b * 2) 0x1b == times_x (b + 128)) ≡ true
unfolding times_x
high_test = refl

pub doubled_high : (b : ℕ) → b < 256 → 128 ≤ b → bit_xor ((b - 128) * 2) 0x1b ≡ times_x b
doubled_high b h l =
    let low : b - 128 < 128 = omega arith in
    let back : b - 128 + 128 ≡ b = omega arith in
    same_below 128 (λ k. bit_xor (k * 2) 0x1b) (λ k. times_x (k + 128)) high_test (b - 128) low ∙ ap times_x back

test_2 : all_below 256 (λ b. product 2 b == times_x b) ≡ true
unfolding times_x partial_product product
test_2 = refl

pub product_2 : (b : ℕ) → b < 256 → product 2 b ≡ times_x b
product_2 = same_below 256 (λ b. product 2 b) times_x test_2

test_3 : all_below 256 (λ b. product 3 b == bit_xor (times_x b) b) ≡ true
unfolding times_x partial_product product
test_3 = refl

pub product_3 : (b : ℕ) → b < 256 → product 3 b ≡ bit_xor (times_x b) b
product_3 = same_below 256 (λ b. product 3 b) (λ b. bit_xor (times_x b) b) test_3

test_9 : all_below 256 (λ b. product 9 b == bit_xor (times_x (times_x (times_x b))) b) ≡ true
unfolding times_x partial_product product
test_9 = refl

pub product_9 : (b : ℕ) → b < 256 → product 9 b ≡ bit_xor (times_x (times_x (times_x b))) b
product_9 = same_below 256 (λ b. product 9 b) (λ b. bit_xor (times_x (times_x (times_x b))) b) test_9

test_11 : all_below 256 (λ b. product 11 b == bit_xor (bit_xor (times_x (times_x (times_x b))) (times_x b)) b) ≡ true
unfolding times_x partial_product product
test_11 = refl

pub product_11 : (b : ℕ) → b < 256
    → product 11 b ≡ bit_xor (bit_xor (times_x (times_x (times_x b))) (times_x b)) b
product_11 =
    same_below 256 (λ b. product 11 b) (λ b. bit_xor (bit_xor (times_x (times_x (times_x b))) (times_x b)) b) test_11

test_13 : all_below 256 (λ b.
    product 13 b == bit_xor (bit_xor (times_x (times_x (times_x b))) (times_x (times_x b))) b) ≡ true
unfolding times_x partial_product product
test_13 = refl

pub product_13 : (b : ℕ) → b < 256
    → product 13 b ≡ bit_xor (bit_xor (times_x (times_x (times_x b))) (times_x (times_x b))) b
product_13 =
    same_below 256 (λ b. product 13 b)
    (λ b. bit_xor (bit_xor (times_x (times_x (times_x b))) (times_x (times_x b))) b) test_13

test_14 : all_below 256 (λ b.
    product 14 b == bit_xor (bit_xor (times_x (times_x (times_x b))) (times_x (times_x b))) (times_x b)) ≡ true
unfolding times_x partial_product product
test_14 = refl

pub product_14 : (b : ℕ) → b < 256
    → product 14 b ≡ bit_xor (bit_xor (times_x (times_x (times_x b))) (times_x (times_x b))) (times_x b)
product_14 =
    same_below 256 (λ b. product 14 b)
    (λ b. bit_xor (bit_xor (times_x (times_x (times_x b))) (times_x (times_x b))) (times_x b)) test_14
