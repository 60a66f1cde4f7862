-- How the fields of a change are spelled, and which values they admit. Numbers are big-endian. Times are whole seconds
-- since 1970; an id is its count under the store's tag.
use Rattle.std.specs.List.{flat_map}
use Rattle.std.specs.Prelude.{ℕ, Bool, true, false, ◌≤◌, List, [], ◌∷◌, ◌++◌, length, Option, Some, None}
use Rattle.std.specs.Int.{w16, w32, w64, to_be_bytes}
use Rattle.kms_world.specs.declared.secret.SecretKind.{SecretKind}
use Rattle.kms_world.specs.declared.secret.SecretKind.TheVariants as secrets
use Rattle.kms_world.specs.declared.container.ContainerKind.{ContainerKind}
use Rattle.kms_world.specs.declared.container.ContainerKind.TheVariants as containers
use Rattle.kms_world.specs.declared.payload.Media.{Media}
use Rattle.kms_world.specs.declared.payload.Media.TheVariants as media
use Rattle.kms_world.specs.declared.order.Cause.{Cause}
use Rattle.kms_world.specs.declared.order.Cause.TheVariants as causes

unfoldable pub u8_bytes : ℕ → List ℕ
u8_bytes n = n ∷ []

unfoldable pub u16_bytes : ℕ → List ℕ
u16_bytes n = to_be_bytes w16 n

unfoldable pub u32_bytes : ℕ → List ℕ
u32_bytes n = to_be_bytes w32 n

unfoldable pub u64_bytes : ℕ → List ℕ
u64_bytes n = to_be_bytes w64 n

-- its length in two bytes, and its bytes
unfoldable pub text_bytes : List ℕ → List ℕ
text_bytes text = u16_bytes (length text) ++ text

-- 0, or 1 and the value
abbrev pub option_bytes : {A : Type 0} → (A → List ℕ) → Option A → List ℕ
option_bytes spell None = 0 ∷ []
option_bytes spell (Some x) = 1 ∷ spell x

-- the number of values in one byte, and the values
abbrev pub list_bytes : {A : Type 0} → (A → List ℕ) → List A → List ℕ
list_bytes spell xs = u8_bytes (length xs) ++ flat_map spell xs

abbrev pub secret_kind_number : SecretKind → ℕ
secret_kind_number secrets.Symmetric = 0
secret_kind_number secrets.Public = 1
secret_kind_number secrets.Private = 2
secret_kind_number secrets.Passphrase = 3
secret_kind_number secrets.Certificate = 4
secret_kind_number secrets.Opaque = 5

abbrev pub container_kind_number : ContainerKind → ℕ
container_kind_number containers.Generic = 0
container_kind_number containers.Rsa = 1
container_kind_number containers.Certificate = 2

abbrev pub media_number : Media → ℕ
media_number media.TextPlain = 0
media_number media.OctetStream = 1

abbrev pub cause_number : Cause → ℕ
cause_number causes.Unsupported = 0
cause_number causes.QuotaReached = 1
cause_number causes.IdsSpent = 2

-- yes or no
unfoldable pub mark_bytes : Bool → List ℕ
mark_bytes true = 1 ∷ []
mark_bytes false = 0 ∷ []

-- the length of a token in four bytes, and its bytes
unfoldable pub token_bytes : List ℕ → List ℕ
token_bytes token = u32_bytes (length token) ++ token

-- a text has at most 255 bytes
abbrev pub IsShort : List ℕ → Type 0
IsShort text = length text ≤ 255

abbrev pub IsBitLength : ℕ → Type 0
IsBitLength n = (1 ≤ n) × (n ≤ 32767)

abbrev pub IsToken : List ℕ → Type 0
IsToken token = (100 ≤ length token) × (length token ≤ 26764)
