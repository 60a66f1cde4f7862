-- The examples of FIPS 197, appendices B and C.1, so that a wrong definition does not check.
use Rattle.std.proofs.Common.{◌≡◌, [], ◌∷◌, refl}
use Rattle.kms_aes.specs.Field.{times_x, partial_product, product, inverse_below, inverse}
use Rattle.kms_aes.specs.SBox.{substitute}
use Rattle.kms_aes.specs.KeyExpansion.{power_of_x, next_word, first_words, word, round_key}
use Rattle.kms_aes.specs.Cipher.{sub_bytes, shift_rows, sum_of_four, mix_columns, full_round, after_rounds, last_round, encrypt}

appendix_b : encrypt
    (0x2b ∷ 0x7e ∷ 0x15 ∷ 0x16 ∷ 0x28 ∷ 0xae ∷ 0xd2 ∷ 0xa6 ∷ 0xab ∷ 0xf7 ∷ 0x15 ∷ 0x88 ∷ 0x09 ∷ 0xcf ∷ 0x4f ∷ 0x3c ∷ [])
    (0x32 ∷ 0x43 ∷ 0xf6 ∷ 0xa8 ∷ 0x88 ∷ 0x5a ∷ 0x30 ∷ 0x8d ∷ 0x31 ∷ 0x31 ∷ 0x98 ∷ 0xa2 ∷ 0xe0 ∷ 0x37 ∷ 0x07 ∷ 0x34 ∷ [])
    ≡ 0x39 ∷ 0x25 ∷ 0x84 ∷ 0x1d ∷ 0x02 ∷ 0xdc ∷ 0x09 ∷ 0xfb ∷ 0xdc ∷ 0x11 ∷ 0x85 ∷ 0x97 ∷ 0x19 ∷ 0x6a ∷ 0x0b ∷ 0x32 ∷ []
unfolding times_x partial_product product inverse_below inverse substitute power_of_x next_word first_words word round_key sub_bytes shift_rows sum_of_four mix_columns full_round after_rounds last_round encrypt
appendix_b = refl
