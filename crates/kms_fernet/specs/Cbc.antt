-- Cipher block chaining with AES-128 (NIST SP 800-38A, section 6.2) and the padding of RFC 5652,
-- section 6.3.
use Rattle.std.specs.Prelude.{◌≡◌, ℕ, zero, suc, ◌-◌, ◌/◌, ◌%◌, ◌≤◌, List, [], ◌∷◌, ◌++◌, length, take, drop, replicate}
use Rattle.kms_aes.specs.Field.{sum_of}
use Rattle.kms_aes.specs.Cipher.{encrypt}

-- the first n blocks of a text
unfoldable pub blocks : ℕ → List ℕ → List (List ℕ)
blocks zero text = []
blocks (suc n) text = take 16 text ∷ blocks n (drop 16 text)

-- each block is added to the enciphered one before it, the first to the initialization vector, and
-- then enciphered
unfoldable pub chained : List ℕ → List ℕ → List (List ℕ) → List (List ℕ)
chained key before [] = []
chained key before (block ∷ rest) =
    let enciphered = encrypt key (sum_of block before) in enciphered ∷ chained key enciphered rest

-- the bytes of blocks
unfoldable pub joined : List (List ℕ) → List ℕ
joined [] = []
joined (block ∷ rest) = block ++ joined rest

-- the ciphertext of a text whose length is a multiple of 16
unfoldable pub cbc : List ℕ → List ℕ → List ℕ → List ℕ
cbc key iv text = joined (chained key iv (blocks (length text / 16) text))

-- how many bytes of padding a text of this length gets: 1 to 16
abbrev pub padding_len : ℕ → ℕ
padding_len len = 16 - len % 16

-- the text and its padding, each byte of which is their number
unfoldable pub padded : List ℕ → List ℕ
padded text = text ++ replicate (padding_len (length text)) (padding_len (length text))

-- the last `count` bytes are all `count`, which is from 1 to 16
pub record EndsInPadding (text : List ℕ) (count : ℕ) : Type 0 where
  pub least : 1 ≤ count
  pub most : count ≤ 16
  pub bytes : drop (length text - count) text ≡ replicate count count
