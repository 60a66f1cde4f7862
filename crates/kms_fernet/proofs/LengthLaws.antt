-- How long tokens are.
use Rattle.std.proofs.Common.{◌≡◌, ℕ, ◌+◌, ◌-◌, ◌*◌, ◌/◌, ◌%◌, List, length, arith, ap, ◌∙◌}
use Rattle.base64.specs.GeneralPurpose.{IsBytes}
use Rattle.kms_aes.specs.Cipher.{IsBytes as IsCountedBytes, IsBlock}
use Rattle.kms_fernet.specs.Cbc.{padding_len}
use Rattle.kms_fernet.specs.Laws.{token_len, LengthsAreWithin}
use Rattle.kms_fernet.specs.Token.{IsToken}
use Rattle.kms_fernet.proofs.KeyLaws.{length-base64url}
use Rattle.kms_fernet.proofs.Unique.{length-padded, token_parts}

-- the base64 of n bytes, in fours
fours : (n : ℕ) → (4 * n + 2) / 3 + (3 - n % 3) % 3 ≡ (n + 2) / 3 * 4
fours n = omega arith

pub token_length : (key plain iv text : List ℕ) (moment : ℕ) → IsCountedBytes 32 key → IsBytes plain → IsBlock iv → IsToken key moment iv plain text → length text ≡ token_len (length plain)
token_length key plain iv text moment hk hp hi token =
    let parts = token_parts key plain iv text moment hk hp hi token in
    let size : length parts.raw ≡ 57 + length plain + padding_len (length plain) = let l = parts.len in let p = length-padded plain in omega arith in
    ap length parts.read.spelled ∙ length-base64url parts.raw (57 + length plain + padding_len (length plain)) size ∙ fours (57 + length plain + padding_len (length plain))

pub within : LengthsAreWithin
within count some few = (omega arith, omega arith)
