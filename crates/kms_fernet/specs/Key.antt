-- A Fernet key is 32 bytes, of which the first 16 sign and the last 16 encipher (the Fernet
-- specification, "Key format"). Texts are base64 with the URL-safe alphabet and padding (RFC 4648,
-- section 5).
use Rattle.std.specs.Prelude.{◌≡◌, ℕ, ◌≤◌, List, length, take, drop}
use Rattle.base64.specs.Engines.{url_safe}
use Rattle.base64.specs.GeneralPurpose.{encode_of, IsBytes}
use Rattle.kms_aes.specs.Cipher.{IsBytes as IsCountedBytes}

abbrev pub signing_key : List ℕ → List ℕ
signing_key key = take 16 key

abbrev pub enciphering_key : List ℕ → List ℕ
enciphering_key key = drop 16 key

-- the base64url of bytes
abbrev pub base64url : List ℕ → List ℕ
base64url bytes = encode_of url_safe bytes

-- the text is the base64url of these bytes
pub record IsBase64url (text bytes : List ℕ) : Type 0 where
  pub fits : IsBytes bytes
  pub spelled : text ≡ base64url bytes

-- the text is that of no bytes
abbrev pub IsNoBase64url : List ℕ → Type 0
IsNoBase64url text = (bytes : List ℕ) → ¬ IsBase64url text bytes

-- whatever bytes the text is the base64url of, a room of so many holds them
abbrev pub DecodesWithin : List ℕ → ℕ → Type 0
DecodesWithin text room = (bytes : List ℕ) → IsBase64url text bytes → length bytes ≤ room

-- the text is that of this key
pub record IsKeyText (text key : List ℕ) : Type 0 where
  pub fits : IsCountedBytes 32 key
  pub spelled : text ≡ base64url key

-- the text is that of no key
abbrev pub IsNoKeyText : List ℕ → Type 0
IsNoKeyText text = (key : List ℕ) → ¬ IsKeyText text key
