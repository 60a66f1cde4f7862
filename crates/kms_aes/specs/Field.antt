-- The arithmetic of bytes of FIPS 197, section 4. A byte is a number below 256, its bit i is the
-- coefficient of x ^ i of a polynomial of degree at most 7, and the sum of two bytes is their
-- `bit_xor`. Products are taken modulo x ^ 8 + x ^ 4 + x ^ 3 + x + 1, which is 0x11b.
use Rattle.std.specs.Prelude.{ℕ, zero, suc, ◌*◌, ◌/◌, ◌%◌, ◌==◌, nat_lt, if◌then◌else◌, bit_xor, List, [], ◌∷◌}

-- x times a byte (4.2, equation 4.5)
unfoldable pub times_x : ℕ → ℕ
times_x b = if nat_lt b 128 then 2 * b else bit_xor (2 * b) 0x11b

-- the sum of x ^ i times the byte b over those i below n at which bit i of a is set
unfoldable pub partial_product : ℕ → ℕ → ℕ → ℕ
partial_product zero a b = 0
partial_product (suc n) a b = bit_xor (a % 2 * b) (partial_product n (a / 2) (times_x b))

-- the product of two bytes (4.2)
unfoldable pub product : ℕ → ℕ → ℕ
product a b = partial_product 8 a b

-- the byte below n whose product with a is 1, and 0 where there is none
unfoldable pub inverse_below : ℕ → ℕ → ℕ
inverse_below zero a = 0
inverse_below (suc n) a = let below = inverse_below n a in if product a n == 1 then n else below

-- the byte whose product with a is 1 (4.4), and 0 for 0
unfoldable pub inverse : ℕ → ℕ
inverse a = inverse_below 256 a

-- the sum of two lists of bytes, place by place
abbrev pub sum_of : List ℕ → List ℕ → List ℕ
sum_of [] ys = []
sum_of (x ∷ xs) [] = []
sum_of (x ∷ xs) (y ∷ ys) = bit_xor x y ∷ sum_of xs ys
