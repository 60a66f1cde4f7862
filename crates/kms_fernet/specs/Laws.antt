-- What holds of tokens.
use Rattle.std.specs.Prelude.{◌≡◌, ℕ, ◌^◌, ◌<◌, ◌≤◌, ◌+◌, ◌*◌, ◌/◌, ◌⊎◌, List, length}
use Rattle.std.specs.Int.{w64, to_be_bytes}
use Rattle.base64.specs.GeneralPurpose.{IsBytes}
use Rattle.kms_aes.specs.Cipher.{IsBytes as IsCountedBytes, IsBlock}
use Rattle.kms_fernet.specs.Cbc.{padded, padding_len}
use Rattle.kms_fernet.specs.Key.{IsBase64url}
use Rattle.kms_fernet.specs.Token.{IsToken, moment_of, iv_of, Opens, OpensToOne, OpensToNone, IsFault}
use Rattle.kms_fernet.specs.declared.open_fault.OpenFault.{OpenFault}

-- what is sealed opens to what was sealed, a text opens to one plain text at most, and has no fault
-- then, and its fault is one
pub record TokensOpenOnce : Type 0 where
  pub sealed : (key plain iv text : List ℕ) (moment : ℕ) → IsCountedBytes 32 key → IsBytes plain → IsBlock iv
      → moment < 2 ^ 64 → IsToken key moment iv plain text → Opens key text plain
  pub once : (key text first second : List ℕ) → IsCountedBytes 32 key
      → Opens key text first → Opens key text second → first ≡ second
  pub faulty : (key text : List ℕ) (fault : OpenFault) → IsCountedBytes 32 key
      → IsFault key text fault → OpensToNone key text
  pub one_fault : (key text : List ℕ) (first second : OpenFault)
      → IsFault key text first → IsFault key text second → first ≡ second

-- the bytes of the token have the moment and the initialization vector, and are as many as those of the padded plain text
-- and 57 more
pub record TokenHasParts (text : List ℕ) (moment : ℕ) (iv plain : List ℕ) : Type 0 where
  pub raw : List ℕ
  pub read : IsBase64url text raw
  pub moment_is : moment_of raw ≡ to_be_bytes w64 moment
  pub iv_is : iv_of raw ≡ iv
  pub len : length raw ≡ 57 + length (padded plain)

-- What is sealed has the parts that it was sealed with: so two tokens of one text have one vector and one moment.
abbrev pub TokensHaveTheirParts : Type 0
TokensHaveTheirParts = (key plain iv text : List ℕ) (moment : ℕ) → IsCountedBytes 32 key → IsBytes plain → IsBlock iv
    → moment < 2 ^ 64 → IsToken key moment iv plain text → TokenHasParts text moment iv plain

-- the text opens to one plain text, and has no fault
pub record OpensOnce (key text : List ℕ) : Type 0 where
  pub plain : List ℕ
  pub opens : Opens key text plain
  pub only : OpensToOne key text plain
  pub sound : (fault : OpenFault) → ¬ IsFault key text fault

-- the text has one fault, and does not open
pub record FailsOnce (key text : List ℕ) : Type 0 where
  pub fault : OpenFault
  pub is_fault : IsFault key text fault
  pub only : (other : OpenFault) → IsFault key text other → other ≡ fault
  pub closed : OpensToNone key text

-- whatever the text, one of the two is so
abbrev pub OpensOrFails : Type 0
OpensOrFails = (key text : List ℕ) → IsCountedBytes 32 key → OpensOnce key text ⊎ FailsOnce key text

-- how many characters the token of so many plain bytes has: the base64 of the padded text and 57 bytes
abbrev pub token_len : ℕ → ℕ
token_len count = (57 + count + padding_len count + 2) / 3 * 4

abbrev pub TokensHaveTheirLength : Type 0
TokensHaveTheirLength = (key plain iv text : List ℕ) (moment : ℕ) → IsCountedBytes 32 key → IsBytes plain → IsBlock iv
    → IsToken key moment iv plain text → length text ≡ token_len (length plain)

-- of 1 to 20,000 bytes it has 100 to 26,764
abbrev pub LengthsAreWithin : Type 0
LengthsAreWithin = (count : ℕ) → 1 ≤ count → count ≤ 20000 → (100 ≤ token_len count) × (token_len count ≤ 26764)
