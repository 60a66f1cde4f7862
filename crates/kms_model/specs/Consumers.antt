-- The operations on the consumers of a container.
use Rattle.std.specs.Prelude.{ℕ, Bool, List, [], ◌∷◌, Option, Result, Ok, if◌then◌else◌}
use Rattle.std.specs.List.{list_any}
use Rattle.kms_box.specs.Consumer.{checked_consumer}
use Rattle.kms_world.specs.Effect.{ConsumerAdded, ConsumerDropped, after_effect, is_consumer}
use Rattle.kms_world.specs.State.{State}
use Rattle.kms_world.specs.declared.action.Action.TheVariants.{ConsumerWrite}
use Rattle.kms_world.specs.declared.answer.Answer.TheVariants.{Container}
use Rattle.kms_world.specs.declared.body.ConsumerBody.{ConsumerBody}
use Rattle.kms_world.specs.declared.caller.Caller.{Caller}
use Rattle.kms_world.specs.declared.container.ConsumerRow.{ConsumerRow}
use Rattle.kms_world.specs.declared.container.ContainerRow.{ContainerRow}
use Rattle.kms_world.specs.declared.id.Id.{Id}
use Rattle.kms_world.specs.declared.quota.QuotaKind.TheVariants.{Consumers}
use Rattle.kms_world.specs.declared.refusal.Refusal.{Refusal}
use Rattle.kms_world.specs.declared.refusal.Refusal.TheVariants.{NoObject}
use Rattle.kms_model.specs.Containers.{any_container, container_for, view_of}
use Rattle.kms_model.specs.Done.{Done, ◌>>=◌, only_if}
use Rattle.kms_model.specs.Quotas.{within_quota}

-- the container has this consumer
abbrev pub is_there : State → Id → List ℕ × List ℕ → Bool
is_there s id pair = list_any (is_consumer id pair.0 pair.1) s.consumers

abbrev pub new_consumer : Id → List ℕ × List ℕ → ℕ → ConsumerRow
new_consumer id pair t = record { container = id; name = pair.0; url = pair.1; created = t }

-- a consumer more, where the project's quota has room for it
abbrev pub consumer_added : State → ContainerRow → List ℕ × List ℕ → ℕ → Result Done Refusal
consumer_added s row pair t = do
  room ← within_quota s row.project Consumers
  Ok (record {
    answer = Container (view_of (after_effect (ConsumerAdded (new_consumer row.id pair t)) s) row);
    effects = ConsumerAdded (new_consumer row.id pair t) ∷ [];
  })

-- POST of a consumer; one that is there already stays as it is
abbrev pub consumer_posted : State → Caller → Option Id → Result ConsumerBody Refusal → ℕ → Result Done Refusal
consumer_posted s caller id body t = do
  row ← container_for s caller ConsumerWrite (any_container s id)
  given ← body
  pair ← checked_consumer given
  if is_there s row.id pair then Ok (record { answer = Container (view_of s row); effects = [] }) else consumer_added s row pair t

-- DELETE of a consumer
abbrev pub consumer_deleted : State → Caller → Option Id → Result ConsumerBody Refusal → ℕ → Result Done Refusal
consumer_deleted s caller id body t = do
  row ← container_for s caller ConsumerWrite (any_container s id)
  given ← body
  pair ← checked_consumer given
  among ← only_if (is_there s row.id pair) NoObject
  Ok (record {
    answer = Container (view_of (after_effect (ConsumerDropped row.id pair.0 pair.1) s) row);
    effects = ConsumerDropped row.id pair.0 pair.1 ∷ [];
  })
