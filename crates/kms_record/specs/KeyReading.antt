-- How the changes of wrapped keys are read.
use Rattle.std.specs.Prelude.{ℕ, List}
use Rattle.std.specs.Int.{w32}
use Rattle.kms_record.specs.declared.key.WrappedKey.{WrappedKey}
use Rattle.kms_record.specs.declared.key.KeyDropped.{KeyDropped}
use Rattle.kms_record.specs.Reading.{Read, name_at, taken, number_at, both, made_of}

abbrev pub WrappedKeyFields : Type 0
WrappedKeyFields = List ℕ × (ℕ × List ℕ)

abbrev pub wrapped_key_with : WrappedKeyFields → WrappedKey
wrapped_key_with (project, (number, wrapped)) = record { project = project; number = number; wrapped = wrapped }

abbrev pub wrapped_key_fields_at : Read WrappedKeyFields
wrapped_key_fields_at = both name_at (both (number_at w32) (taken 140))

unfoldable pub wrapped_key_at : Read WrappedKey
wrapped_key_at = made_of wrapped_key_with wrapped_key_fields_at

abbrev pub KeyDroppedFields : Type 0
KeyDroppedFields = List ℕ × ℕ

abbrev pub key_dropped_with : KeyDroppedFields → KeyDropped
key_dropped_with (project, number) = record { project = project; number = number }

abbrev pub key_dropped_fields_at : Read KeyDroppedFields
key_dropped_fields_at = both name_at (number_at w32)

unfoldable pub key_dropped_at : Read KeyDropped
key_dropped_at = made_of key_dropped_with key_dropped_fields_at
