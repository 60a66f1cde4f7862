-- The change that puts an order.
use Rattle.std.specs.Prelude.{◌≡◌, ℕ, ◌<◌, ◌≤◌, ◌^◌, List, [], ◌∷◌, ◌++◌, length, true, IfSome}
use Rattle.std.specs.Str.{IsUtf8}
use Rattle.kms_world.specs.Name.{is_name}
use Rattle.kms_world.specs.Times.{end_of_times}
use Rattle.kms_record.specs.declared.order.OrderPut.{OrderPut}
use Rattle.kms_record.specs.declared.order.OrderPutState.{OrderPutState}
use Rattle.kms_record.specs.declared.order.OrderPutState.TheVariants.{Pending, Active, Error}
use Rattle.kms_record.specs.Fields.{u8_bytes, u16_bytes, u64_bytes, text_bytes, option_bytes, cause_number, IsShort, IsBitLength}

-- 0; 1 and the count of the secret's id; or 2 and the cause
abbrev pub state_bytes : OrderPutState → List ℕ
state_bytes Pending = 0 ∷ []
state_bytes (Active secret) = 1 ∷ u64_bytes secret
state_bytes (Error cause) = 2 ∷ u8_bytes (cause_number cause)

abbrev pub IsStateInRange : OrderPutState → Type 0
IsStateInRange Pending = Unit {0}
IsStateInRange (Active secret) = secret < 2 ^ 62
IsStateInRange (Error cause) = Unit {0}

-- its fields in their order
unfoldable pub order_put_bytes : OrderPut → List ℕ
order_put_bytes put =
    u64_bytes put.id ++ text_bytes put.project ++ text_bytes put.creator ++ u64_bytes put.created
    ++ u64_bytes put.updated ++ text_bytes put.algorithm ++ u16_bytes put.bit_length
    ++ option_bytes text_bytes put.mode ++ option_bytes text_bytes put.name
    ++ option_bytes u64_bytes put.expiration ++ state_bytes put.state

-- its numbers and lengths are in their ranges
pub record IsOrderPutInRange (put : OrderPut) : Type 0 where
  pub id : put.id < 2 ^ 62
  pub project : length put.project ≤ 64
  pub creator : length put.creator ≤ 64
  pub created : put.created < end_of_times
  pub updated : put.updated < end_of_times
  pub algorithm : IsShort put.algorithm
  pub bit_length : IsBitLength put.bit_length
  pub mode : IfSome put.mode IsShort
  pub name : IfSome put.name IsShort
  pub expiration : IfSome put.expiration (λ t. t < end_of_times)
  pub state : IsStateInRange put.state

-- what its fields' types say, in every value of the program
pub record IsOrderPutTyped (put : OrderPut) : Type 0 where
  pub project : is_name put.project ≡ true
  pub creator : is_name put.creator ≡ true
  pub algorithm : IsUtf8 put.algorithm
  pub mode : IfSome put.mode IsUtf8
  pub name : IfSome put.name IsUtf8
