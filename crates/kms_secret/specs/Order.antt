-- Bodies of new orders: the order, or the refusal of the first rule that the body breaks.
use Rattle.std.specs.Prelude.{ℕ, ◌||◌, List, codes, Option, Some, None, Result, Ok, Err, if◌then◌else◌}
use Rattle.std.specs.Str.{bytes_eq}
use Rattle.kms_world.specs.Media.{word_of}
use Rattle.kms_world.specs.declared.body.MetaBody.{MetaBody}
use Rattle.kms_world.specs.declared.body.OrderBody.{OrderBody}
use Rattle.kms_world.specs.declared.payload.Media.TheVariants.{OctetStream}
use Rattle.kms_world.specs.declared.refusal.Field.TheVariants.{TypeName, Meta, Algorithm, Mode, Name, PayloadContentType}
use Rattle.kms_world.specs.declared.refusal.Refusal.{Refusal}
use Rattle.kms_world.specs.declared.refusal.Refusal.TheVariants.{BadBody, NotOffered}
use Rattle.kms_secret.specs.declared.order.NewOrder.{NewOrder}
use Rattle.kms_secret.specs.Fields.{optional_text, required_text, required_bit_length, expiration_by}
use Rattle.kms_secret.specs.Rules.{◌>>=◌, there}

-- keys alone are made; orders of the two other types are known and not offered
abbrev pub type_by : List ℕ → Result (Unit {0}) Refusal
type_by word =
    if bytes_eq word (codes "key") then Ok tt else
    if bytes_eq word (codes "asymmetric") || bytes_eq word (codes "certificate") then Err NotOffered else
    Err (BadBody TypeName)

-- an ordered key is bytes, and its media type is absent or just that
abbrev pub bytes_by : Option (List ℕ) → Result (Unit {0}) Refusal
bytes_by None = Ok tt
bytes_by (Some content_type) =
    if bytes_eq content_type (word_of OctetStream) then Ok tt else Err (BadBody PayloadContentType)

abbrev pub order_by : MetaBody → (moment : ℕ) → Result NewOrder Refusal
order_by meta moment = do
  algorithm ← required_text Algorithm meta.algorithm
  bit_length ← required_bit_length meta.bit_length
  mode ← optional_text Mode meta.mode
  name ← optional_text Name meta.name
  bytes ← bytes_by meta.payload_content_type
  expiration ← expiration_by meta.expiration moment
  Ok (record { algorithm = algorithm; bit_length = bit_length; mode = mode; name = name; expiration = expiration })

abbrev pub checked_order : OrderBody → (moment : ℕ) → Result NewOrder Refusal
checked_order body moment = do
  word ← there body.kind (BadBody TypeName)
  key ← type_by word
  meta ← there body.meta (BadBody Meta)
  order_by meta moment
