-- The reader of metadata is exact.
use Rattle.std.proofs.Common.{◌≡◌, ℕ, ◌<◌, ◌^◌, true, List, ◌++◌, refl, append_assoc}
use Rattle.kms_world.specs.Pairs.{Ascends, is_below}
use Rattle.kms_world.specs.Times.{end_of_times}
use Rattle.kms_record.specs.declared.metadata.MetadataPut.{MetadataPut}
use Rattle.kms_record.specs.Fields.{u64_bytes, list_bytes}
use Rattle.kms_record.specs.Metadata.{pair_bytes, IsPairInRange, ArePairsInRange, IsPairTyped, ArePairsTyped, metadata_put_bytes, IsMetadataPutInRange, IsMetadataPutTyped}
use Rattle.kms_record.specs.MetadataReading.{pair_at, are_ascending, pairs_at, MetadataPutFields, metadata_put_with, metadata_put_fields_at, metadata_put_at}
use Rattle.kms_record.proofs.Codec.{IsCodec, refitted, respelled, both_codec, made_codec, passing_codec}
use Rattle.kms_record.proofs.FieldLaws.{id_codec, time_codec, short_text_codec}
use Rattle.kms_record.proofs.ListLaws.{list_codec}
use Rattle.kms_record.proofs.PairwiseLaws.{parted, joined, pairwise_at, pairwise_from_places}

pair_codec : IsCodec pair_bytes (λ p. IsPairInRange p × IsPairTyped p) pair_at
unfolding pair_bytes pair_at
pair_codec = refitted (both_codec short_text_codec short_text_codec)
    (λ p f. (record { key = f.0.0; value = f.1.0 }, record { key = f.0.1; value = f.1.1 }))
    (λ p f. ((f.0.key, f.1.key), (f.0.value, f.1.value)))

pub ascending_from_test : (pairs : List (List ℕ × List ℕ)) → are_ascending pairs ≡ true → Ascends pairs
ascending_from_test pairs h = record { below = λ i j d lt within. pairwise_at (λ (p q : List ℕ × List ℕ). is_below p.0 q.0) pairs i j d h lt within }

pub test_from_ascending : (pairs : List (List ℕ × List ℕ)) → Ascends pairs → are_ascending pairs ≡ true
test_from_ascending pairs a = pairwise_from_places (λ (p q : List ℕ × List ℕ). is_below p.0 q.0) pairs (λ i j d lt within. a.below i j d lt within)

pairs_codec : IsCodec (list_bytes pair_bytes) (λ ps. ArePairsInRange ps × ArePairsTyped ps) pairs_at
pairs_codec = refitted (passing_codec are_ascending (list_codec pair_codec))
    (λ ps f. let p = parted IsPairInRange IsPairTyped ps f.0.1 in (record { few = f.0.0; each = p.0 }, record { each = p.1; ascending = ascending_from_test ps f.1 }))
    (λ ps f. ((f.0.few, joined IsPairInRange IsPairTyped ps (f.0.each, f.1.each)), test_from_ascending ps f.1.ascending))

-- ---- MetadataPut

abbrev metadata_put_fields : MetadataPut → MetadataPutFields
metadata_put_fields put = (put.secret, (put.updated, put.pairs))

abbrev metadata_put_spelled : MetadataPutFields → List ℕ
metadata_put_spelled (secret, (updated, pairs)) = u64_bytes secret ++ (u64_bytes updated ++ list_bytes pair_bytes pairs)

abbrev MetadataPutFit : MetadataPutFields → Type 0
MetadataPutFit (secret, (updated, pairs)) = (secret < 2 ^ 62) × ((updated < end_of_times) × ((ArePairsInRange pairs) × (ArePairsTyped pairs)))

metadata_put_fields_codec : IsCodec metadata_put_spelled MetadataPutFit metadata_put_fields_at
metadata_put_fields_codec = both_codec id_codec (both_codec time_codec pairs_codec)

metadata_put_admitted : (put : MetadataPut) → MetadataPutFit (metadata_put_fields put) → IsMetadataPutInRange put × IsMetadataPutTyped put
metadata_put_admitted put (secret, (updated, pairs)) = (record { secret = secret; updated = updated; pairs = pairs.0 }, record { pairs = pairs.1 })

metadata_put_fitting : (put : MetadataPut) → IsMetadataPutInRange put × IsMetadataPutTyped put → MetadataPutFit (metadata_put_fields put)
metadata_put_fitting put h = (h.0.secret, (h.0.updated, (h.0.pairs, h.1.pairs)))

metadata_put_same : (put : MetadataPut) → metadata_put_spelled (metadata_put_fields put) ≡ metadata_put_bytes put
unfolding metadata_put_bytes
metadata_put_same put = simp append_assoc

pub metadata_put_codec : IsCodec metadata_put_bytes (λ put. IsMetadataPutInRange put × IsMetadataPutTyped put) metadata_put_at
unfolding metadata_put_at
metadata_put_codec = refitted (respelled (made_codec metadata_put_with metadata_put_fields (λ f. refl) (λ put. refl) metadata_put_fields_codec) metadata_put_same) metadata_put_admitted metadata_put_fitting
