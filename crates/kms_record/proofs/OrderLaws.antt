-- The reader of orders is exact.
use Rattle.std.proofs.Common.{◌≡◌, ℕ, ◌<◌, ◌≤◌, ◌^◌, true, List, ◌++◌, length, Some, refl, append_assoc}
use Rattle.std.specs.Prelude.{IfSome}
use Rattle.std.specs.Str.{IsUtf8}
use Rattle.kms_world.specs.Name.{is_name}
use Rattle.kms_world.specs.Times.{end_of_times}
use Rattle.kms_record.specs.declared.order.OrderPut.{OrderPut}
use Rattle.kms_record.specs.declared.order.OrderPutState.{OrderPutState}
use Rattle.kms_record.specs.declared.order.OrderPutState.TheVariants.{Pending, Active, Error}
use Rattle.kms_record.specs.Reading.{byte_at}
use Rattle.kms_record.specs.Fields.{u16_bytes, u64_bytes, text_bytes, option_bytes, IsShort, IsBitLength}
use Rattle.kms_record.specs.Order.{state_bytes, IsStateInRange, order_put_bytes, IsOrderPutInRange, IsOrderPutTyped}
use Rattle.kms_record.specs.Reading.{alternatives_at}
use Rattle.kms_record.specs.OrderReading.{state_at, OrderPutFields, order_put_with, order_put_fields_at, order_put_at}
use Rattle.kms_record.proofs.Codec.{IsCodec, refitted, respelled, both_codec, made_codec}
use Rattle.kms_record.proofs.FieldLaws.{id_codec, time_codec, bit_length_codec, short_name_codec, short_text_codec, optional_text_codec, option_codec}
use Rattle.kms_record.proofs.CodeLaws.{cause_codec}
use Rattle.kms_record.proofs.ListLaws.{alternatives_codec, made_alternative, plain_alternative}

state_again : (state : OrderPutState) (rest : List ℕ) → IsStateInRange state → state_at (state_bytes state ++ rest) ≡ Some (state, rest)
unfolding alternatives_at byte_at
state_again Pending rest f = refl
state_again (Active secret) rest f = rw (id_codec.again secret rest f) refl
state_again (Error cause) rest f = rw (cause_codec.again cause rest tt) refl

state_codec : IsCodec state_bytes IsStateInRange state_at
state_codec = alternatives_codec _ (
  plain_alternative 0 Pending refl tt,
  (
    made_alternative 1 (λ secret. Active secret) id_codec (λ secret. refl) (λ secret f. f),
    (made_alternative 2 (λ cause. Error cause) cause_codec (λ cause. refl) (λ cause f. tt), tt),
  ),
)
    state_again

-- ---- OrderPut

abbrev order_put_fields : OrderPut → OrderPutFields
order_put_fields put = (put.id, (put.project, (put.creator, (put.created, (put.updated, (put.algorithm, (put.bit_length, (put.mode, (put.name, (put.expiration, put.state))))))))))

abbrev order_put_spelled : OrderPutFields → List ℕ
order_put_spelled (id, (project, (creator, (created, (updated, (algorithm, (bit_length, (mode, (name, (expiration, state)))))))))) = u64_bytes id ++ (text_bytes project ++ (text_bytes creator ++ (u64_bytes created ++ (u64_bytes updated ++ (text_bytes algorithm ++ (u16_bytes bit_length ++ (option_bytes text_bytes mode ++ (option_bytes text_bytes name ++ (option_bytes u64_bytes expiration ++ state_bytes state)))))))))

abbrev OrderPutFit : OrderPutFields → Type 0
OrderPutFit (id, (project, (creator, (created, (updated, (algorithm, (bit_length, (mode, (name, (expiration, state)))))))))) = (id < 2 ^ 62) × (((length project ≤ 64) × (is_name project ≡ true)) × (((length creator ≤ 64) × (is_name creator ≡ true)) × ((created < end_of_times) × ((updated < end_of_times) × (((IsShort algorithm) × (IsUtf8 algorithm)) × ((IsBitLength bit_length) × (((IfSome mode IsShort) × (IfSome mode IsUtf8)) × (((IfSome name IsShort) × (IfSome name IsUtf8)) × ((IfSome expiration (λ t. t < end_of_times)) × (IsStateInRange state))))))))))

order_put_fields_codec : IsCodec order_put_spelled OrderPutFit order_put_fields_at
order_put_fields_codec = both_codec id_codec (both_codec short_name_codec (both_codec short_name_codec (both_codec time_codec (both_codec time_codec (both_codec short_text_codec (both_codec bit_length_codec (both_codec optional_text_codec (both_codec optional_text_codec (both_codec (option_codec time_codec) state_codec)))))))))

order_put_admitted : (put : OrderPut) → OrderPutFit (order_put_fields put) → IsOrderPutInRange put × IsOrderPutTyped put
order_put_admitted put (id, (project, (creator, (created, (updated, (algorithm, (bit_length, (mode, (name, (expiration, state)))))))))) = (record { id = id; project = project.0; creator = creator.0; created = created; updated = updated; algorithm = algorithm.0; bit_length = bit_length; mode = mode.0; name = name.0; expiration = expiration; state = state }, record { project = project.1; creator = creator.1; algorithm = algorithm.1; mode = mode.1; name = name.1 })

order_put_fitting : (put : OrderPut) → IsOrderPutInRange put × IsOrderPutTyped put → OrderPutFit (order_put_fields put)
order_put_fitting put h = (h.0.id, ((h.0.project, h.1.project), ((h.0.creator, h.1.creator), (h.0.created, (h.0.updated, ((h.0.algorithm, h.1.algorithm), (h.0.bit_length, ((h.0.mode, h.1.mode), ((h.0.name, h.1.name), (h.0.expiration, h.0.state))))))))))

order_put_same : (put : OrderPut) → order_put_spelled (order_put_fields put) ≡ order_put_bytes put
unfolding order_put_bytes
order_put_same put = simp append_assoc

pub order_put_codec : IsCodec order_put_bytes (λ put. IsOrderPutInRange put × IsOrderPutTyped put) order_put_at
unfolding order_put_at
order_put_codec = refitted (respelled (made_codec order_put_with order_put_fields (λ f. refl) (λ put. refl) order_put_fields_codec) order_put_same) order_put_admitted order_put_fitting
