-- The ranges of what a check keeps of a body: those that records and answers ask for.
use Rattle.std.specs.Prelude.{◌≡◌, ℕ, ◌≤◌, ◌<◌, List, length, Some, IfSome}
use Rattle.std.specs.List.{AllByRecursion}
use Rattle.kms_world.specs.Pairs.{Ascends}
use Rattle.kms_world.specs.Times.{end_of_times}
use Rattle.kms_world.specs.declared.payload.Payload.{Payload}
use Rattle.kms_secret.specs.Key.{key_of}
use Rattle.kms_secret.specs.declared.order.NewOrder.{NewOrder}
use Rattle.kms_secret.specs.declared.secret.NewSecret.{NewSecret}

-- a text has at most 255 bytes
abbrev pub IsShort : List ℕ → Type 0
IsShort text = length text ≤ 255

abbrev pub IsBitLength : ℕ → Type 0
IsBitLength n = (1 ≤ n) × (n ≤ 32767)

pub record IsPayloadInRange (payload : Payload) : Type 0 where
  pub some : 1 ≤ length payload.bytes
  pub few : length payload.bytes ≤ 20000

-- of a secret that is made at this moment
pub record IsSecretInRange (moment : ℕ) (new : NewSecret) : Type 0 where
  pub name : IfSome new.name IsShort
  pub algorithm : IfSome new.algorithm IsShort
  pub bit_length : IfSome new.bit_length IsBitLength
  pub mode : IfSome new.mode IsShort
  pub later : IfSome new.expiration (λ t. moment < t)
  pub expiration : IfSome new.expiration (λ t. t < end_of_times)
  pub payload : IfSome new.payload IsPayloadInRange

-- the key is read as itself: so it is one, and in lower case
pub record IsPairInRange (pair : List ℕ × List ℕ) : Type 0 where
  pub own : key_of pair.0 ≡ Some pair.0
  pub some : 1 ≤ length pair.0
  pub key : IsShort pair.0
  pub value : IsShort pair.1

pub record ArePairsInRange (pairs : List (List ℕ × List ℕ)) : Type 0 where
  pub few : length pairs ≤ 100
  pub each : AllByRecursion IsPairInRange pairs
  pub ascending : Ascends pairs

-- of an order that is made at this moment
pub record IsOrderInRange (moment : ℕ) (new : NewOrder) : Type 0 where
  pub some : 1 ≤ length new.algorithm
  pub algorithm : IsShort new.algorithm
  pub bit_length : IsBitLength new.bit_length
  pub mode : IfSome new.mode IsShort
  pub name : IfSome new.name IsShort
  pub later : IfSome new.expiration (λ t. moment < t)
  pub expiration : IfSome new.expiration (λ t. t < end_of_times)
