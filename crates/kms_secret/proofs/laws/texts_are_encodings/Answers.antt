use Rattle.std.proofs.Common.{◌≡◌, ℕ, List, Result, Ok, Err, Some, refl, ap}
use Rattle.std.specs.Result.{result_ok}
use Rattle.base64.specs.Engines.{standard}
use Rattle.base64.specs.GeneralPurpose.{decode_of}
use Rattle.base64.specs.declared.decode.DecodeError.{DecodeError}
use Rattle.base64.proofs.EngineFacts.{decode_of_iff}
use Rattle.kms_secret.proofs.laws.texts_are_encodings.Goals as goal

given : (r : Result (List ℕ) DecodeError) (bytes : List ℕ) → result_ok r ≡ Some bytes → r ≡ Ok bytes
given (Ok found) bytes h = cc
given (Err e) bytes h = cc

pub returns : goal.returns
returns c = λ text bytes is_text is_bytes.
    let iff = decode_of_iff standard text bytes (refl, refl) is_text is_bytes in
    (λ found. iff.0 (given (decode_of standard text) bytes found), λ spelled. ap result_ok (iff.1 spelled))
