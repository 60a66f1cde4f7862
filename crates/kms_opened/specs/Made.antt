-- What an order leaves whose secret is made.
use Rattle.std.specs.Prelude.{ℕ, ◌+◌, [], ◌∷◌, ◌++◌}
use Rattle.kms_world.specs.Effect.{put_row, with_payload}
use Rattle.kms_world.specs.Id.{is_id}
use Rattle.kms_world.specs.State.{State}
use Rattle.kms_world.specs.declared.order.OrderRow.{OrderRow}
use Rattle.kms_world.specs.declared.payload.Payload.{Payload}
use Rattle.kms_world.specs.declared.secret.SecretRow.{SecretRow}

-- one secret more, with its payload, and the order in its place
abbrev pub made : State → SecretRow → (updated : ℕ) → Payload → OrderRow → State
made s row updated payload order = record s {
  ids = s.ids + 1;
  secrets = s.secrets ++ with_payload updated payload row ∷ [];
  orders = put_row (λ r. is_id order.id r.id) order s.orders;
}
