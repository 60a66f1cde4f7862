-- The S-box of FIPS 197, section 5.1.1.
use Rattle.std.specs.Prelude.{ℕ, zero, suc, ◌+◌, ◌*◌, ◌%◌, ◌^◌}
use Rattle.std.specs.Int.{bit_at}
use Rattle.kms_aes.specs.Field.{inverse}

-- the number whose bits below n are those of the function, and which has no others
abbrev pub from_bits : ℕ → (ℕ → ℕ) → ℕ
from_bits zero bit = 0
from_bits (suc n) bit = from_bits n bit + bit n * 2 ^ n

-- bit i of the affine map of b (equation 5.2), where 0x63 is the constant c
abbrev pub affine_bit : ℕ → ℕ → ℕ
affine_bit b i =
    (bit_at b i + bit_at b ((i + 4) % 8) + bit_at b ((i + 5) % 8) + bit_at b ((i + 6) % 8)
    + bit_at b ((i + 7) % 8) + bit_at 0x63 i) % 2

-- what SubBytes puts in place of a byte: the affine map of its inverse
unfoldable pub substitute : ℕ → ℕ
substitute a = let b = inverse a in from_bits 8 (λ i. affine_bit b i)
