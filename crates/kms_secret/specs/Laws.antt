-- What holds of base64 in bodies.
use Rattle.std.specs.Prelude.{◌≡◌, ◌↔◌, ℕ, List, Some}
use Rattle.base64.specs.Engines.{standard}
use Rattle.base64.specs.GeneralPurpose.{encode_of, IsBytes}
use Rattle.kms_secret.specs.Payload.{decoded}

-- A text decodes to bytes exactly where it is their encoding: so bytes have one text, and a text stands for one list of
-- bytes at most.
abbrev pub TextsAreEncodings : Type 0
TextsAreEncodings = (text bytes : List ℕ) → IsBytes text → IsBytes bytes → (decoded text ≡ Some bytes) ↔ (text ≡ encode_of standard bytes)
