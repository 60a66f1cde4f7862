-- The readers of payloads are exact.
use Rattle.std.proofs.Common.{◌≡◌, ℕ, ◌<◌, ◌^◌, List, ◌++◌, refl, append_assoc}
use Rattle.kms_world.specs.Times.{end_of_times}
use Rattle.kms_record.specs.declared.payload.TokenReplaced.{TokenReplaced}
use Rattle.kms_record.specs.declared.payload.PayloadPut.{PayloadPut}
use Rattle.kms_record.specs.Fields.{u8_bytes, u32_bytes, u64_bytes, token_bytes, media_number, IsToken}
use Rattle.kms_record.specs.Payload.{token_replaced_bytes, IsTokenReplacedInRange, IsTokenReplacedTyped, payload_put_bytes, IsPayloadPutInRange, IsPayloadPutTyped}
use Rattle.kms_record.specs.PayloadReading.{TokenReplacedFields, token_replaced_with, token_replaced_fields_at, token_replaced_at, PayloadPutFields, payload_put_with, payload_put_fields_at, payload_put_at}
use Rattle.kms_record.proofs.Codec.{IsCodec, refitted, respelled, both_codec, made_codec}
use Rattle.kms_record.proofs.FieldLaws.{id_codec, time_codec, u32_codec, token_codec}
use Rattle.kms_record.proofs.CodeLaws.{media_codec}

-- ---- TokenReplaced

abbrev token_replaced_fields : TokenReplaced → TokenReplacedFields
token_replaced_fields put = (put.secret, (put.number, put.token))

abbrev token_replaced_spelled : TokenReplacedFields → List ℕ
token_replaced_spelled (secret, (number, token)) = u64_bytes secret ++ (u32_bytes number ++ token_bytes token)

abbrev TokenReplacedFit : TokenReplacedFields → Type 0
TokenReplacedFit (secret, (number, token)) = (secret < 2 ^ 62) × ((number < 2 ^ 32) × (IsToken token))

token_replaced_fields_codec : IsCodec token_replaced_spelled TokenReplacedFit token_replaced_fields_at
token_replaced_fields_codec = both_codec id_codec (both_codec u32_codec token_codec)

token_replaced_admitted : (put : TokenReplaced) → TokenReplacedFit (token_replaced_fields put) → IsTokenReplacedInRange put × IsTokenReplacedTyped put
token_replaced_admitted put (secret, (number, token)) = (record { secret = secret; token = token }, record { number = number })

token_replaced_fitting : (put : TokenReplaced) → IsTokenReplacedInRange put × IsTokenReplacedTyped put → TokenReplacedFit (token_replaced_fields put)
token_replaced_fitting put h = (h.0.secret, (h.1.number, h.0.token))

token_replaced_same : (put : TokenReplaced) → token_replaced_spelled (token_replaced_fields put) ≡ token_replaced_bytes put
unfolding token_replaced_bytes
token_replaced_same put = simp append_assoc

pub token_replaced_codec : IsCodec token_replaced_bytes (λ put. IsTokenReplacedInRange put × IsTokenReplacedTyped put) token_replaced_at
unfolding token_replaced_at
token_replaced_codec = refitted (respelled (made_codec token_replaced_with token_replaced_fields (λ f. refl) (λ put. refl) token_replaced_fields_codec) token_replaced_same) token_replaced_admitted token_replaced_fitting

-- ---- PayloadPut

abbrev payload_put_fields : PayloadPut → PayloadPutFields
payload_put_fields put = (put.secret, (put.updated, (put.media, (put.number, put.token))))

abbrev payload_put_spelled : PayloadPutFields → List ℕ
payload_put_spelled (secret, (updated, (media, (number, token)))) = u64_bytes secret ++ (u64_bytes updated ++ (u8_bytes (media_number media) ++ (u32_bytes number ++ token_bytes token)))

abbrev PayloadPutFit : PayloadPutFields → Type 0
PayloadPutFit (secret, (updated, (media, (number, token)))) = (secret < 2 ^ 62) × ((updated < end_of_times) × (Unit {0} × ((number < 2 ^ 32) × (IsToken token))))

payload_put_fields_codec : IsCodec payload_put_spelled PayloadPutFit payload_put_fields_at
payload_put_fields_codec = both_codec id_codec (both_codec time_codec (both_codec media_codec (both_codec u32_codec token_codec)))

payload_put_admitted : (put : PayloadPut) → PayloadPutFit (payload_put_fields put) → IsPayloadPutInRange put × IsPayloadPutTyped put
payload_put_admitted put (secret, (updated, (media, (number, token)))) = (record { secret = secret; updated = updated; token = token }, record { number = number })

payload_put_fitting : (put : PayloadPut) → IsPayloadPutInRange put × IsPayloadPutTyped put → PayloadPutFit (payload_put_fields put)
payload_put_fitting put h = (h.0.secret, (h.0.updated, (tt, (h.1.number, h.0.token))))

payload_put_same : (put : PayloadPut) → payload_put_spelled (payload_put_fields put) ≡ payload_put_bytes put
unfolding payload_put_bytes
payload_put_same put = simp append_assoc

pub payload_put_codec : IsCodec payload_put_bytes (λ put. IsPayloadPutInRange put × IsPayloadPutTyped put) payload_put_at
unfolding payload_put_at
payload_put_codec = refitted (respelled (made_codec payload_put_with payload_put_fields (λ f. refl) (λ put. refl) payload_put_fields_codec) payload_put_same) payload_put_admitted payload_put_fitting
