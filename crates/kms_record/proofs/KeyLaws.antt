-- The readers of wrapped keys are exact.
use Rattle.std.proofs.Common.{◌≡◌, ℕ, ◌<◌, ◌≤◌, ◌^◌, true, List, ◌++◌, length, refl, append_assoc}
use Rattle.kms_world.specs.Name.{is_name}
use Rattle.kms_record.specs.declared.key.WrappedKey.{WrappedKey}
use Rattle.kms_record.specs.declared.key.KeyDropped.{KeyDropped}
use Rattle.kms_record.specs.Fields.{u32_bytes, text_bytes}
use Rattle.kms_record.specs.Key.{wrapped_key_bytes, IsWrappedKeyInRange, IsWrappedKeyTyped, key_dropped_bytes, IsKeyDroppedInRange, IsKeyDroppedTyped}
use Rattle.kms_record.specs.KeyReading.{WrappedKeyFields, wrapped_key_with, wrapped_key_fields_at, wrapped_key_at, KeyDroppedFields, key_dropped_with, key_dropped_fields_at, key_dropped_at}
use Rattle.kms_record.proofs.Codec.{IsCodec, refitted, respelled, both_codec, made_codec}
use Rattle.kms_record.proofs.FieldLaws.{short_name_codec, u32_codec, taken_codec}

-- ---- WrappedKey

abbrev wrapped_key_fields : WrappedKey → WrappedKeyFields
wrapped_key_fields put = (put.project, (put.number, put.wrapped))

abbrev wrapped_key_spelled : WrappedKeyFields → List ℕ
wrapped_key_spelled (project, (number, wrapped)) = text_bytes project ++ (u32_bytes number ++ wrapped)

abbrev WrappedKeyFit : WrappedKeyFields → Type 0
WrappedKeyFit (project, (number, wrapped)) = ((length project ≤ 64) × (is_name project ≡ true)) × ((number < 2 ^ 32) × (length wrapped ≡ 140))

wrapped_key_fields_codec : IsCodec wrapped_key_spelled WrappedKeyFit wrapped_key_fields_at
wrapped_key_fields_codec = both_codec short_name_codec (both_codec u32_codec (taken_codec 140))

wrapped_key_admitted : (put : WrappedKey) → WrappedKeyFit (wrapped_key_fields put) → IsWrappedKeyInRange put × IsWrappedKeyTyped put
wrapped_key_admitted put (project, (number, wrapped)) = (record { project = project.0; wrapped = wrapped }, record { project = project.1; number = number })

wrapped_key_fitting : (put : WrappedKey) → IsWrappedKeyInRange put × IsWrappedKeyTyped put → WrappedKeyFit (wrapped_key_fields put)
wrapped_key_fitting put h = ((h.0.project, h.1.project), (h.1.number, h.0.wrapped))

wrapped_key_same : (put : WrappedKey) → wrapped_key_spelled (wrapped_key_fields put) ≡ wrapped_key_bytes put
unfolding wrapped_key_bytes
wrapped_key_same put = simp append_assoc

pub wrapped_key_codec : IsCodec wrapped_key_bytes (λ put. IsWrappedKeyInRange put × IsWrappedKeyTyped put) wrapped_key_at
unfolding wrapped_key_at
wrapped_key_codec = refitted (respelled (made_codec wrapped_key_with wrapped_key_fields (λ f. refl) (λ put. refl) wrapped_key_fields_codec) wrapped_key_same) wrapped_key_admitted wrapped_key_fitting

-- ---- KeyDropped

abbrev key_dropped_fields : KeyDropped → KeyDroppedFields
key_dropped_fields put = (put.project, put.number)

abbrev key_dropped_spelled : KeyDroppedFields → List ℕ
key_dropped_spelled (project, number) = text_bytes project ++ u32_bytes number

abbrev KeyDroppedFit : KeyDroppedFields → Type 0
KeyDroppedFit (project, number) = ((length project ≤ 64) × (is_name project ≡ true)) × (number < 2 ^ 32)

key_dropped_fields_codec : IsCodec key_dropped_spelled KeyDroppedFit key_dropped_fields_at
key_dropped_fields_codec = both_codec short_name_codec u32_codec

key_dropped_admitted : (put : KeyDropped) → KeyDroppedFit (key_dropped_fields put) → IsKeyDroppedInRange put × IsKeyDroppedTyped put
key_dropped_admitted put (project, number) = (record { project = project.0 }, record { project = project.1; number = number })

key_dropped_fitting : (put : KeyDropped) → IsKeyDroppedInRange put × IsKeyDroppedTyped put → KeyDroppedFit (key_dropped_fields put)
key_dropped_fitting put h = ((h.0.project, h.1.project), h.1.number)

key_dropped_same : (put : KeyDropped) → key_dropped_spelled (key_dropped_fields put) ≡ key_dropped_bytes put
unfolding key_dropped_bytes
key_dropped_same put = refl

pub key_dropped_codec : IsCodec key_dropped_bytes (λ put. IsKeyDroppedInRange put × IsKeyDroppedTyped put) key_dropped_at
unfolding key_dropped_at
key_dropped_codec = refitted (respelled (made_codec key_dropped_with key_dropped_fields (λ f. refl) (λ put. refl) key_dropped_fields_codec) key_dropped_same) key_dropped_admitted key_dropped_fitting
