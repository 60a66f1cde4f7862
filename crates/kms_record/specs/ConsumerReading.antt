-- How the changes of consumers are read.
use Rattle.std.specs.Prelude.{ℕ, List}
use Rattle.kms_record.specs.declared.consumer.ConsumerAdded.{ConsumerAdded}
use Rattle.kms_record.specs.declared.consumer.ConsumerDropped.{ConsumerDropped}
use Rattle.kms_record.specs.Reading.{Read, id_at, time_at, short_text_at, both, made_of}

abbrev pub ConsumerAddedFields : Type 0
ConsumerAddedFields = ℕ × (List ℕ × (List ℕ × ℕ))

abbrev pub consumer_added_with : ConsumerAddedFields → ConsumerAdded
consumer_added_with (container, (name, (url, created))) = record { container = container; name = name; url = url; created = created }

abbrev pub consumer_added_fields_at : Read ConsumerAddedFields
consumer_added_fields_at = both id_at (both short_text_at (both short_text_at time_at))

unfoldable pub consumer_added_at : Read ConsumerAdded
consumer_added_at = made_of consumer_added_with consumer_added_fields_at

abbrev pub ConsumerDroppedFields : Type 0
ConsumerDroppedFields = ℕ × (List ℕ × List ℕ)

abbrev pub consumer_dropped_with : ConsumerDroppedFields → ConsumerDropped
consumer_dropped_with (container, (name, url)) = record { container = container; name = name; url = url }

abbrev pub consumer_dropped_fields_at : Read ConsumerDroppedFields
consumer_dropped_fields_at = both id_at (both short_text_at short_text_at)

unfoldable pub consumer_dropped_at : Read ConsumerDropped
consumer_dropped_at = made_of consumer_dropped_with consumer_dropped_fields_at
