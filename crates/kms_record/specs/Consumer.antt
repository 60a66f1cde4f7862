-- The changes of consumers.
use Rattle.std.specs.Prelude.{ℕ, ◌<◌, ◌^◌, List, ◌++◌}
use Rattle.std.specs.Str.{IsUtf8}
use Rattle.kms_world.specs.Times.{end_of_times}
use Rattle.kms_record.specs.declared.consumer.ConsumerAdded.{ConsumerAdded}
use Rattle.kms_record.specs.declared.consumer.ConsumerDropped.{ConsumerDropped}
use Rattle.kms_record.specs.Fields.{u64_bytes, text_bytes, IsShort}

-- its fields in their order
unfoldable pub consumer_added_bytes : ConsumerAdded → List ℕ
consumer_added_bytes put =
    u64_bytes put.container ++ text_bytes put.name ++ text_bytes put.url ++ u64_bytes put.created

-- its numbers and lengths are in their ranges
pub record IsConsumerAddedInRange (put : ConsumerAdded) : Type 0 where
  pub container : put.container < 2 ^ 62
  pub name : IsShort put.name
  pub url : IsShort put.url
  pub created : put.created < end_of_times

-- what its fields' types say, in every value of the program
pub record IsConsumerAddedTyped (put : ConsumerAdded) : Type 0 where
  pub name : IsUtf8 put.name
  pub url : IsUtf8 put.url

-- its fields in their order
unfoldable pub consumer_dropped_bytes : ConsumerDropped → List ℕ
consumer_dropped_bytes put = u64_bytes put.container ++ text_bytes put.name ++ text_bytes put.url

-- its numbers and lengths are in their ranges
pub record IsConsumerDroppedInRange (put : ConsumerDropped) : Type 0 where
  pub container : put.container < 2 ^ 62
  pub name : IsShort put.name
  pub url : IsShort put.url

-- what its fields' types say, in every value of the program
pub record IsConsumerDroppedTyped (put : ConsumerDropped) : Type 0 where
  pub name : IsUtf8 put.name
  pub url : IsUtf8 put.url
