-- AES-128 on a block (FIPS 197, section 5.1). A state is its 16 bytes, column by column (3.4).
-- Deciphering has no definition of its own: it gives the one block that enciphers to the given one.
use Rattle.std.specs.Prelude.{◌≡◌, ℕ, zero, suc, ◌+◌, ◌*◌, ◌%◌, ◌<◌, List, [], ◌∷◌, ◌++◌, map, length, bit_xor, slice_index}
use Rattle.kms_aes.specs.Field.{product, sum_of}
use Rattle.kms_aes.specs.SBox.{substitute}
use Rattle.kms_aes.specs.KeyExpansion.{round_key}

-- a list of so many bytes
pub record IsBytes (count : ℕ) (bytes : List ℕ) : Type 0 where
  pub len : length bytes ≡ count
  pub fits : (i : ℕ) → slice_index bytes i < 256

-- a block, a state or a key
abbrev pub IsBlock : List ℕ → Type 0
IsBlock = IsBytes 16

-- the byte in row r and column c
abbrev pub byte_at : List ℕ → ℕ → ℕ → ℕ
byte_at state r c = slice_index state (r + 4 * c)

-- column c of the state that has these bytes by row and column
abbrev pub column_of : (ℕ → ℕ → ℕ) → ℕ → List ℕ
column_of bytes c = bytes 0 c ∷ bytes 1 c ∷ bytes 2 c ∷ bytes 3 c ∷ []

-- the state that has these bytes by row and column
abbrev pub state_of : (ℕ → ℕ → ℕ) → List ℕ
state_of bytes = column_of bytes 0 ++ column_of bytes 1 ++ column_of bytes 2 ++ column_of bytes 3

-- SubBytes (5.1.1)
unfoldable pub sub_bytes : List ℕ → List ℕ
sub_bytes state = map substitute state

-- ShiftRows (5.1.2): row r is turned left by r
unfoldable pub shift_rows : List ℕ → List ℕ
shift_rows state = state_of (λ r c. byte_at state r ((c + r) % 4))

-- the sum of four bytes
unfoldable pub sum_of_four : ℕ → ℕ → ℕ → ℕ → ℕ
sum_of_four a b c d = bit_xor (bit_xor a b) (bit_xor c d)

-- a byte of a mixed column, from the bytes of the column, that of its own row first
abbrev pub mixed_byte : ℕ → ℕ → ℕ → ℕ → ℕ
mixed_byte a b c d = sum_of_four (product 2 a) (product 3 b) c d

-- a column times the matrix of which each row is 02 03 01 01, turned right by the row's number
-- (equation 5.8)
abbrev pub mixed_column : ℕ → ℕ → ℕ → ℕ → List ℕ
mixed_column a b c d = mixed_byte a b c d ∷ mixed_byte b c d a ∷ mixed_byte c d a b ∷ mixed_byte d a b c ∷ []

-- the column that these four bytes make is what this one is mixed to
abbrev pub IsMixedTo : List ℕ → ℕ → ℕ → ℕ → ℕ → Type 0
IsMixedTo column a b c d =
    (length column ≡ 4)
    × (mixed_column (slice_index column 0) (slice_index column 1) (slice_index column 2) (slice_index column 3)
    ≡ a ∷ b ∷ c ∷ d ∷ [])

-- MixColumns (5.1.3)
unfoldable pub mix_columns : List ℕ → List ℕ
mix_columns state =
    let column : ℕ → List ℕ
    = λ c. mixed_column (byte_at state 0 c) (byte_at state 1 c) (byte_at state 2 c) (byte_at state 3 c) in
    column 0 ++ column 1 ++ column 2 ++ column 3

-- one of the first nine rounds (algorithm 1)
unfoldable pub full_round : List ℕ → ℕ → List ℕ → List ℕ
full_round key round state = sum_of (mix_columns (shift_rows (sub_bytes state))) (round_key key round)

-- the state before the first round and after each of the first nine
unfoldable pub after_rounds : List ℕ → List ℕ → ℕ → List ℕ
after_rounds key block zero = sum_of block (round_key key 0)
after_rounds key block (suc n) = full_round key (suc n) (after_rounds key block n)

-- the last round, which mixes no columns
unfoldable pub last_round : List ℕ → List ℕ → List ℕ
last_round key state = sum_of (shift_rows (sub_bytes state)) (round_key key 10)

-- AES-128 of a block under a key
unfoldable pub encrypt : List ℕ → List ℕ → List ℕ
encrypt key block = last_round key (after_rounds key block 9)

-- enciphering takes the blocks one to one onto the blocks: a block is enciphered to a block, two that
-- are enciphered to one are one, and each block is one that some block is enciphered to
pub record EnciphersOneToOne : Type 0 where
  pub block : (key plain : List ℕ) → IsBlock key → IsBlock plain → IsBlock (encrypt key plain)
  pub apart : (key first second : List ℕ) → IsBlock key → IsBlock first → IsBlock second
      → encrypt key first ≡ encrypt key second → first ≡ second
  pub onto : (key block : List ℕ) → IsBlock key → IsBlock block
      → ((plain : List ℕ) × IsBlock plain × (encrypt key plain ≡ block))
