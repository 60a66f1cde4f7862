-- How the change of metadata is read.
use Rattle.std.specs.Prelude.{ℕ, Bool, List}
use Rattle.kms_world.specs.Pairs.{is_below}
use Rattle.kms_record.specs.declared.metadata.MetadataPut.{MetadataPut}
use Rattle.kms_record.specs.Reading.{Read, id_at, time_at, short_text_at, both, made_of, list_at, passing, pairwise}

unfoldable pub pair_at : Read (List ℕ × List ℕ)
pair_at = both short_text_at short_text_at

-- each key comes before all after it
abbrev pub are_ascending : List (List ℕ × List ℕ) → Bool
are_ascending = pairwise (λ p q. is_below p.0 q.0)

abbrev pub pairs_at : Read (List (List ℕ × List ℕ))
pairs_at = passing are_ascending (list_at pair_at)

abbrev pub MetadataPutFields : Type 0
MetadataPutFields = ℕ × (ℕ × List (List ℕ × List ℕ))

abbrev pub metadata_put_with : MetadataPutFields → MetadataPut
metadata_put_with (secret, (updated, pairs)) = record { secret = secret; updated = updated; pairs = pairs }

abbrev pub metadata_put_fields_at : Read MetadataPutFields
metadata_put_fields_at = both id_at (both time_at pairs_at)

unfoldable pub metadata_put_at : Read MetadataPut
metadata_put_at = made_of metadata_put_with metadata_put_fields_at
