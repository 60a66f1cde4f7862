-- The S-box and its inverse as tables.
use Rattle.std.proofs.Common.{◌≡◌, ℕ, ◌<◌, ◌==◌, true, refl, get_or}
use Rattle.kms_aes.specs.Field.{times_x, partial_product, product, inverse_below, inverse}
use Rattle.kms_aes.specs.SBox.{substitute}
use Rattle.kms_aes.specs.declared.sbox.TheConstants.{SBOX, INVERSE_SBOX}
use Rattle.kms_aes.proofs.AllBytes.{all_below, same_below}

table_test : all_below 256 (λ b. get_or SBOX b 0 == substitute b) ≡ true
unfolding times_x partial_product product inverse_below inverse substitute
table_test = refl

-- the table has the S-box
pub table_entry : (b : ℕ) → b < 256 → get_or SBOX b 0 ≡ substitute b
table_entry = same_below 256 (λ b. get_or SBOX b 0) substitute table_test

inverse_test : all_below 256 (λ b. substitute (get_or INVERSE_SBOX b 0) == b) ≡ true
unfolding times_x partial_product product inverse_below inverse substitute
inverse_test = refl

-- each entry of the second table is substituted by its place
pub inverse_entry : (b : ℕ) → b < 256 → substitute (get_or INVERSE_SBOX b 0) ≡ b
inverse_entry = same_below 256 (λ b. substitute (get_or INVERSE_SBOX b 0)) (λ b. b) inverse_test
