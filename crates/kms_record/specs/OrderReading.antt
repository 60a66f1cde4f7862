-- How the change that puts an order is read.
use Rattle.std.specs.Prelude.{ℕ, List, Option, ◌∷◌, []}
use Rattle.kms_record.specs.declared.order.OrderPut.{OrderPut}
use Rattle.kms_record.specs.declared.order.OrderPutState.{OrderPutState}
use Rattle.kms_record.specs.declared.order.OrderPutState.TheVariants.{Pending, Active, Error}
use Rattle.kms_record.specs.Reading.{Read, id_at, time_at, bit_length_at, short_text_at, name_at, cause_at, option_at, both, made_of, alternatives_at, nothing_at}

abbrev pub state_at : Read OrderPutState
state_at = alternatives_at ((0, nothing_at Pending) ∷ (1, made_of (λ secret. Active secret) id_at) ∷ (2, made_of (λ cause. Error cause) cause_at) ∷ [])

abbrev pub OrderPutFields : Type 0
OrderPutFields = ℕ × (List ℕ × (List ℕ × (ℕ × (ℕ × (List ℕ × (ℕ × (Option (List ℕ) × (Option (List ℕ) × (Option ℕ × OrderPutState)))))))))

abbrev pub order_put_with : OrderPutFields → OrderPut
order_put_with (id, (project, (creator, (created, (updated, (algorithm, (bit_length, (mode, (name, (expiration, state)))))))))) = record { id = id; project = project; creator = creator; created = created; updated = updated; algorithm = algorithm; bit_length = bit_length; mode = mode; name = name; expiration = expiration; state = state }

abbrev pub order_put_fields_at : Read OrderPutFields
order_put_fields_at = both id_at (both name_at (both name_at (both time_at (both time_at (both short_text_at (both bit_length_at (both (option_at short_text_at) (both (option_at short_text_at) (both (option_at time_at) state_at)))))))))

unfoldable pub order_put_at : Read OrderPut
order_put_at = made_of order_put_with order_put_fields_at
