-- The readers of consumers are exact.
use Rattle.std.proofs.Common.{◌≡◌, ℕ, ◌<◌, ◌^◌, List, ◌++◌, refl, append_assoc}
use Rattle.std.specs.Str.{IsUtf8}
use Rattle.kms_world.specs.Times.{end_of_times}
use Rattle.kms_record.specs.declared.consumer.ConsumerAdded.{ConsumerAdded}
use Rattle.kms_record.specs.declared.consumer.ConsumerDropped.{ConsumerDropped}
use Rattle.kms_record.specs.Fields.{u64_bytes, text_bytes, IsShort}
use Rattle.kms_record.specs.Consumer.{consumer_added_bytes, IsConsumerAddedInRange, IsConsumerAddedTyped, consumer_dropped_bytes, IsConsumerDroppedInRange, IsConsumerDroppedTyped}
use Rattle.kms_record.specs.ConsumerReading.{ConsumerAddedFields, consumer_added_with, consumer_added_fields_at, consumer_added_at, ConsumerDroppedFields, consumer_dropped_with, consumer_dropped_fields_at, consumer_dropped_at}
use Rattle.kms_record.proofs.Codec.{IsCodec, refitted, respelled, both_codec, made_codec}
use Rattle.kms_record.proofs.FieldLaws.{id_codec, time_codec, short_text_codec}

-- ---- ConsumerAdded

abbrev consumer_added_fields : ConsumerAdded → ConsumerAddedFields
consumer_added_fields put = (put.container, (put.name, (put.url, put.created)))

abbrev consumer_added_spelled : ConsumerAddedFields → List ℕ
consumer_added_spelled (container, (name, (url, created))) = u64_bytes container ++ (text_bytes name ++ (text_bytes url ++ u64_bytes created))

abbrev ConsumerAddedFit : ConsumerAddedFields → Type 0
ConsumerAddedFit (container, (name, (url, created))) = (container < 2 ^ 62) × (((IsShort name) × (IsUtf8 name)) × (((IsShort url) × (IsUtf8 url)) × (created < end_of_times)))

consumer_added_fields_codec : IsCodec consumer_added_spelled ConsumerAddedFit consumer_added_fields_at
consumer_added_fields_codec = both_codec id_codec (both_codec short_text_codec (both_codec short_text_codec time_codec))

consumer_added_admitted : (put : ConsumerAdded) → ConsumerAddedFit (consumer_added_fields put) → IsConsumerAddedInRange put × IsConsumerAddedTyped put
consumer_added_admitted put (container, (name, (url, created))) = (record { container = container; name = name.0; url = url.0; created = created }, record { name = name.1; url = url.1 })

consumer_added_fitting : (put : ConsumerAdded) → IsConsumerAddedInRange put × IsConsumerAddedTyped put → ConsumerAddedFit (consumer_added_fields put)
consumer_added_fitting put h = (h.0.container, ((h.0.name, h.1.name), ((h.0.url, h.1.url), h.0.created)))

consumer_added_same : (put : ConsumerAdded) → consumer_added_spelled (consumer_added_fields put) ≡ consumer_added_bytes put
unfolding consumer_added_bytes
consumer_added_same put = simp append_assoc

pub consumer_added_codec : IsCodec consumer_added_bytes (λ put. IsConsumerAddedInRange put × IsConsumerAddedTyped put) consumer_added_at
unfolding consumer_added_at
consumer_added_codec = refitted (respelled (made_codec consumer_added_with consumer_added_fields (λ f. refl) (λ put. refl) consumer_added_fields_codec) consumer_added_same) consumer_added_admitted consumer_added_fitting

-- ---- ConsumerDropped

abbrev consumer_dropped_fields : ConsumerDropped → ConsumerDroppedFields
consumer_dropped_fields put = (put.container, (put.name, put.url))

abbrev consumer_dropped_spelled : ConsumerDroppedFields → List ℕ
consumer_dropped_spelled (container, (name, url)) = u64_bytes container ++ (text_bytes name ++ text_bytes url)

abbrev ConsumerDroppedFit : ConsumerDroppedFields → Type 0
ConsumerDroppedFit (container, (name, url)) = (container < 2 ^ 62) × (((IsShort name) × (IsUtf8 name)) × ((IsShort url) × (IsUtf8 url)))

consumer_dropped_fields_codec : IsCodec consumer_dropped_spelled ConsumerDroppedFit consumer_dropped_fields_at
consumer_dropped_fields_codec = both_codec id_codec (both_codec short_text_codec short_text_codec)

consumer_dropped_admitted : (put : ConsumerDropped) → ConsumerDroppedFit (consumer_dropped_fields put) → IsConsumerDroppedInRange put × IsConsumerDroppedTyped put
consumer_dropped_admitted put (container, (name, url)) = (record { container = container; name = name.0; url = url.0 }, record { name = name.1; url = url.1 })

consumer_dropped_fitting : (put : ConsumerDropped) → IsConsumerDroppedInRange put × IsConsumerDroppedTyped put → ConsumerDroppedFit (consumer_dropped_fields put)
consumer_dropped_fitting put h = (h.0.container, ((h.0.name, h.1.name), (h.0.url, h.1.url)))

consumer_dropped_same : (put : ConsumerDropped) → consumer_dropped_spelled (consumer_dropped_fields put) ≡ consumer_dropped_bytes put
unfolding consumer_dropped_bytes
consumer_dropped_same put = simp append_assoc

pub consumer_dropped_codec : IsCodec consumer_dropped_bytes (λ put. IsConsumerDroppedInRange put × IsConsumerDroppedTyped put) consumer_dropped_at
unfolding consumer_dropped_at
consumer_dropped_codec = refitted (respelled (made_codec consumer_dropped_with consumer_dropped_fields (λ f. refl) (λ put. refl) consumer_dropped_fields_codec) consumer_dropped_same) consumer_dropped_admitted consumer_dropped_fitting
