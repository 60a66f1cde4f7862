-- HMAC (RFC 2104, section 2) with SHA-256, on lists of bytes.
use Rattle.std.specs.Prelude.{ℕ, ◌-◌, nat_lt, if◌then◌else◌, List, ◌++◌, length, map, replicate, bit_xor}
use Rattle.sha2.specs.Sha256.{sha256}

-- the key, hashed first if it is longer than a block of 64 bytes
abbrev pub short_key : List ℕ → List ℕ
short_key key = if nat_lt 64 (length key) then sha256 key else key

-- the key, filled with zeros to the length of a block
abbrev pub padded_key : List ℕ → List ℕ
padded_key key = short_key key ++ replicate (64 - length (short_key key)) 0

-- each byte xor the mask
abbrev pub masked : ℕ → List ℕ → List ℕ
masked mask bytes = map (λ byte. bit_xor byte mask) bytes

-- the code of the text under the key
unfoldable pub hmac : List ℕ → List ℕ → List ℕ
hmac key text = sha256 (masked 0x5c (padded_key key) ++ sha256 (masked 0x36 (padded_key key) ++ text))
