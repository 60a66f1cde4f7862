-- Fernet tokens (the Fernet specification, version 0x80, "Token format" and "Verifying").
use Rattle.std.specs.Prelude.{◌≡◌, ◌≢◌, ℕ, ◌-◌, ◌%◌, ◌^◌, ◌<◌, ◌≤◌, List, ◌∷◌, ◌++◌, length, take, drop, slice_index}
use Rattle.std.specs.Int.{w64, to_be_bytes}
use Rattle.base64.specs.GeneralPurpose.{IsBytes}
use Rattle.kms_aes.specs.Cipher.{IsBlock}
use Rattle.kms_fernet.specs.Hmac.{hmac}
use Rattle.kms_fernet.specs.Cbc.{cbc, padded, EndsInPadding}
use Rattle.kms_fernet.specs.Key.{signing_key, enciphering_key, base64url, IsBase64url, IsNoBase64url}
use Rattle.kms_fernet.specs.declared.open_fault.OpenFault.{OpenFault}
use Rattle.kms_fernet.specs.declared.open_fault.OpenFault.TheVariants.{Base64, Short, Version, Length, Mac, Padding, NoMemory}

-- what is signed: the version, the moment in seconds, the initialization vector and the ciphertext
unfoldable pub signed_part : ℕ → List ℕ → List ℕ → List ℕ
signed_part moment iv ciphertext = 0x80 ∷ to_be_bytes w64 moment ++ iv ++ ciphertext

-- the bytes of a token
unfoldable pub token_bytes : List ℕ → ℕ → List ℕ → List ℕ → List ℕ
token_bytes key moment iv plain =
    let signed = signed_part moment iv (cbc (enciphering_key key) iv (padded plain)) in
    signed ++ hmac (signing_key key) signed

-- the text is the token of these plain bytes, sealed at the moment with the initialization vector
abbrev pub IsToken : List ℕ → ℕ → List ℕ → List ℕ → List ℕ → Type 0
IsToken key moment iv plain text = text ≡ base64url (token_bytes key moment iv plain)

-- the text is a token of these plain bytes under the key, of the moment and the initialization
-- vector that stand in it
pub record Opens (key text plain : List ℕ) : Type 0 where
  pub moment : ℕ
  pub iv : List ℕ
  pub moment_fits : moment < 2 ^ 64
  pub iv_fits : IsBlock iv
  pub plain_fits : IsBytes plain
  pub token : IsToken key moment iv plain text

-- it opens to nothing else
abbrev pub OpensToOne : List ℕ → List ℕ → List ℕ → Type 0
OpensToOne key text plain = (other : List ℕ) → Opens key text other → other ≡ plain

-- it does not open
abbrev pub OpensToNone : List ℕ → List ℕ → Type 0
OpensToNone key text = (plain : List ℕ) → ¬ Opens key text plain

-- ---- what stands in the bytes of a token

-- the moment, as a number of 64 bits, the highest first
abbrev pub moment_of : List ℕ → List ℕ
moment_of raw = take 8 (drop 1 raw)

abbrev pub iv_of : List ℕ → List ℕ
iv_of raw = take 16 (drop 9 raw)

-- how long the ciphertext is
abbrev pub ciphertext_len : List ℕ → ℕ
ciphertext_len raw = length raw - 57

abbrev pub ciphertext_of : List ℕ → List ℕ
ciphertext_of raw = take (ciphertext_len raw) (drop 25 raw)

abbrev pub signed_of : List ℕ → List ℕ
signed_of raw = take (length raw - 32) raw

abbrev pub tag_of : List ℕ → List ℕ
tag_of raw = drop (length raw - 32) raw

-- ---- why a text does not open, in the order in which it is tested

-- it has the parts of a token: the version, and a ciphertext of one block or more
pub record IsFramed (raw : List ℕ) : Type 0 where
  pub long : 73 ≤ length raw
  pub version : slice_index raw 0 ≡ 0x80
  pub whole : ciphertext_len raw % 16 ≡ 0

-- its tag is that of what stands before it
abbrev pub IsSigned : List ℕ → List ℕ → Type 0
IsSigned key raw = tag_of raw ≡ hmac (signing_key key) (signed_of raw)

-- its ciphertext is that of this text
pub record IsDeciphered (key raw text : List ℕ) : Type 0 where
  pub fits : IsBytes text
  pub len : length text ≡ ciphertext_len raw
  pub enciphered : cbc (enciphering_key key) (iv_of raw) text ≡ ciphertext_of raw

-- the bytes are a token whose deciphered text ends in padding, and this is what stands before that
pub record OpensBytes (key raw plain : List ℕ) : Type 0 where
  pub framed : IsFramed raw
  pub signed : IsSigned key raw
  pub deciphered : List ℕ
  pub is_deciphered : IsDeciphered key raw deciphered
  pub count : ℕ
  pub padding : EndsInPadding deciphered count
  pub front : plain ≡ take (length deciphered - count) deciphered

-- the deciphered text does not end in padding
abbrev pub IsUnpadded : List ℕ → List ℕ → Type 0
IsUnpadded key raw =
    (deciphered : List ℕ) × IsDeciphered key raw deciphered × ((count : ℕ) → ¬ EndsInPadding deciphered count)

-- this is the first that bytes lack to be a token
abbrev pub IsBytesFault : List ℕ → List ℕ → OpenFault → Type 0
IsBytesFault key raw Base64 = ⊥
IsBytesFault key raw Short = length raw < 73
IsBytesFault key raw Version = (73 ≤ length raw) × (slice_index raw 0 ≢ 0x80)
IsBytesFault key raw Length = (73 ≤ length raw) × (slice_index raw 0 ≡ 0x80) × (ciphertext_len raw % 16 ≢ 0)
IsBytesFault key raw Mac = IsFramed raw × (¬ IsSigned key raw)
IsBytesFault key raw Padding = IsFramed raw × IsSigned key raw × IsUnpadded key raw
IsBytesFault key raw NoMemory = ⊥

-- this is the first that a text lacks to be a token
abbrev pub IsFault : List ℕ → List ℕ → OpenFault → Type 0
IsFault key text Base64 = IsNoBase64url text
IsFault key text fault = (raw : List ℕ) × IsBase64url text raw × IsBytesFault key raw fault
