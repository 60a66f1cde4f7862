-- The rules of single fields, which the bodies of secrets and of orders share.
use Rattle.std.specs.Prelude.{ℕ, ◌&&◌, nat_le, nat_lt, List, length, Option, Some, None, option_map, Result, Ok, Err, if◌then◌else◌, ℤ, pos, negsuc}
use Rattle.std.specs.Option.{option_and_then}
use Rattle.kms_text.specs.TimeForms.{read_time_of}
use Rattle.kms_world.specs.declared.refusal.Field.{Field}
use Rattle.kms_world.specs.declared.refusal.Field.TheVariants.{BitLength, Expiration}
use Rattle.kms_world.specs.declared.refusal.Refusal.{Refusal}
use Rattle.kms_world.specs.declared.refusal.Refusal.TheVariants.{BadBody}
use Rattle.kms_secret.specs.Rules.{there}

-- where there is a text, it has at most 255 bytes
abbrev pub optional_text : Field → Option (List ℕ) → Result (Option (List ℕ)) Refusal
optional_text field None = Ok None
optional_text field (Some text) = if nat_le (length text) 255 then Ok (Some text) else Err (BadBody field)

-- there is a text, of 1 to 255 bytes
abbrev pub required_text : Field → Option (List ℕ) → Result (List ℕ) Refusal
required_text field None = Err (BadBody field)
required_text field (Some text) =
    if nat_le 1 (length text) && nat_le (length text) 255 then Ok text else Err (BadBody field)

-- the bit length that a number is: it is from 1 to 32,767
abbrev pub bit_length_of : ℤ → Option ℕ
bit_length_of (pos n) = if nat_le 1 n && nat_le n 32767 then Some n else None
bit_length_of (negsuc n) = None

abbrev pub required_bit_length : Option ℤ → Result ℕ Refusal
required_bit_length number = there (option_and_then bit_length_of number) (BadBody BitLength)

abbrev pub optional_bit_length : Option ℤ → Result (Option ℕ) Refusal
optional_bit_length None = Ok None
optional_bit_length (Some number) = there (option_map Some (bit_length_of number)) (BadBody BitLength)

abbrev pub later : ℕ → ℕ → Option ℕ
later moment time = if nat_lt moment time then Some time else None

-- the time that a text shows, if it is later than the moment
abbrev pub later_time : List ℕ → (moment : ℕ) → Option ℕ
later_time text moment = option_and_then (later moment) (read_time_of text)

-- where there is an expiration, it is a time, and later than the moment
abbrev pub expiration_by : Option (List ℕ) → (moment : ℕ) → Result (Option ℕ) Refusal
expiration_by None moment = Ok None
expiration_by (Some text) moment =
    there (option_map Some (later_time text moment)) (BadBody Expiration)
