-- What a check keeps of a body is in range.
use Rattle.std.proofs.Common.{◌≡◌, ℕ, zero, suc, ◌≤◌, ◌==◌, ◌&&◌, not, Bool, true, false, List, length, Option, Some, None, option_and_then, Ok, Err, IfSome, if◌then◌else◌, nat_le, is_some, refl, subst, arith}
use Rattle.std.specs.List.{list_all}
use Rattle.std.proofs.lemmas.Bool.{and_parts, leb-true}
use Rattle.kms_world.specs.declared.body.MetaBody.{MetaBody}
use Rattle.kms_world.specs.declared.body.MetadataBody.{MetadataBody}
use Rattle.kms_world.specs.declared.body.OrderBody.{OrderBody}
use Rattle.kms_world.specs.declared.body.PairBody.{PairBody}
use Rattle.kms_world.specs.declared.body.SecretBody.{SecretBody}
use Rattle.kms_world.specs.declared.operation.PutShape.{PutShape}
use Rattle.kms_world.specs.declared.payload.Media.{Media}
use Rattle.kms_world.specs.declared.payload.Payload.{Payload}
use Rattle.kms_world.specs.declared.refusal.Field.TheVariants as field
use Rattle.kms_world.specs.declared.refusal.Refusal.{Refusal}
use Rattle.kms_world.specs.declared.refusal.Refusal.TheVariants.{BadBody, WrongType, PayloadTooLong}
use Rattle.kms_secret.specs.Fields.{optional_text, required_text, optional_bit_length, required_bit_length, expiration_by}
use Rattle.kms_secret.specs.Key.{key_of}
use Rattle.kms_secret.specs.Media.{media_of}
use Rattle.kms_secret.specs.Metadata.{is_pair, is_value, kept, key_by, value_by, checked_metadata, checked_pair}
use Rattle.kms_secret.specs.Order.{type_by, bytes_by, order_by, checked_order}
use Rattle.kms_secret.specs.Payload.{takes_encoding, put_bytes, payload_of, checked_payload}
use Rattle.kms_secret.specs.Ranges.{IsPayloadInRange, IsSecretInRange, IsPairInRange, ArePairsInRange, IsOrderInRange}
use Rattle.kms_secret.specs.Rules.{only_if, there}
use Rattle.kms_secret.specs.Secret.{kind_by, has_its_encoding, text_bytes, text_payload, payload_by, checked_secret}
use Rattle.kms_secret.specs.declared.order.NewOrder.{NewOrder}
use Rattle.kms_secret.specs.declared.secret.NewSecret.{NewSecret}
use Rattle.kms_secret.proofs.PairLaws.{key_stays, pair_in_range, pairs_in_range}
use Rattle.kms_secret.proofs.RuleLaws.{given, given_is, gave, was, passed, not_refused, short, needed, bits, optional_bits, expires_later, expires_in_time}

-- ---- payloads

some_bytes : (n : ℕ) → (n == 0) ≡ false → 1 ≤ n
some_bytes zero e = cc
some_bytes (suc n) e = omega arith

sized : (media : Media) (bytes : Option (List ℕ)) (payload : Payload) → payload_of media bytes ≡ Ok payload → IsPayloadInRange payload
sized media None payload e = absurd (cc)
sized media (Some bytes) payload e =
    let made : Payload = record { media = media; bytes = bytes } in
    let (filled, rest) = not_refused (length bytes == 0) (BadBody field.Payload) (if nat_le (length bytes) 20000 then given made else Err PayloadTooLong) payload e in
    let (few, same) = passed (nat_le (length bytes) 20000) made payload PayloadTooLong rest in
    subst IsPayloadInRange same (record { some = some_bytes (length bytes) filled; few = leb-true (length bytes) 20000 few })

text_in_range : (text : List ℕ) (content_type encoding : Option (List ℕ)) (payload : Payload) → text_payload text content_type encoding ≡ Ok payload → IsPayloadInRange payload
text_in_range text content_type encoding payload e =
    let (filled, filled-is, after_filled) = gave (only_if (not (length text == 0)) (BadBody field.Payload)) _ payload e in
    let (media, media-is, after_media) = gave (there (option_and_then media_of content_type) (BadBody field.PayloadContentType)) _ payload after_filled in
    let (encoded, encoded-is, after_encoded) = gave (only_if (has_its_encoding media encoding) (BadBody field.PayloadContentEncoding)) _ payload after_media in
    sized media (text_bytes media text) payload after_encoded

optional_in_range : (text content_type encoding : Option (List ℕ)) (kept : Option Payload) → payload_by text content_type encoding ≡ Ok kept → IfSome kept IsPayloadInRange
optional_in_range None content_type encoding kept e =
    let (absent, rest) = not_refused _ (BadBody field.Payload) (given None) kept e in
    subst (λ (k : Option Payload). IfSome k IsPayloadInRange) (given_is None kept rest) tt
optional_in_range (Some text) content_type encoding kept e =
    let (payload, payload-is, after_payload) = gave (text_payload text content_type encoding) _ kept e in
    subst (λ (k : Option Payload). IfSome k IsPayloadInRange) (given_is (Some payload) kept after_payload) (text_in_range text content_type encoding payload payload-is)

pub payload_in_range : (shape : PutShape) (body : List ℕ) (payload : Payload) → checked_payload shape body ≡ Ok payload → IsPayloadInRange payload
payload_in_range shape body payload e =
    let (media, media-is, after_media) = gave (there (option_and_then media_of shape.content_type) WrongType) _ payload e in
    let (encoded, encoded-is, after_encoded) = gave (only_if (takes_encoding media shape.content_encoding) WrongType) _ payload after_media in
    sized media (put_bytes media (is_some shape.content_encoding) body) payload after_encoded

-- ---- secrets

pub secret_in_range : (body : SecretBody) (moment : ℕ) (new : NewSecret) → checked_secret body moment ≡ Ok new → IsSecretInRange moment new
secret_in_range body moment new e =
    let (name, name-is, after_name) = gave (optional_text field.Name body.name) _ new e in
    let (algorithm, algorithm-is, after_algorithm) = gave (optional_text field.Algorithm body.algorithm) _ new after_name in
    let (bit_length, bit_length-is, after_bit_length) = gave (optional_bit_length body.bit_length) _ new after_algorithm in
    let (mode, mode-is, after_mode) = gave (optional_text field.Mode body.mode) _ new after_bit_length in
    let (kind, kind-is, after_kind) = gave (kind_by body.secret_type) _ new after_mode in
    let (expiration, expiration-is, after_expiration) = gave (expiration_by body.expiration moment) _ new after_kind in
    let (payload, payload-is, after_payload) = gave (payload_by body.payload body.payload_content_type body.payload_content_encoding) _ new after_expiration in
    let made : NewSecret = record { name = name; algorithm = algorithm; bit_length = bit_length; mode = mode; kind = kind; expiration = expiration; payload = payload } in
    subst (IsSecretInRange moment) (given_is made new after_payload) (record {
      name = short field.Name body.name name name-is;
      algorithm = short field.Algorithm body.algorithm algorithm algorithm-is;
      bit_length = optional_bits body.bit_length bit_length bit_length-is;
      mode = short field.Mode body.mode mode mode-is;
      later = expires_later body.expiration moment expiration expiration-is;
      expiration = expires_in_time body.expiration moment expiration expiration-is;
      payload = optional_in_range body.payload body.payload_content_type body.payload_content_encoding payload payload-is;
    })

-- ---- metadata

pub metadata_in_range : (body : MetadataBody) (found : List (List ℕ × List ℕ)) → checked_metadata body ≡ Ok found → ArePairsInRange found
metadata_in_range body found e =
    let (pairs, pairs-is, after_pairs) = gave (there body.metadata (BadBody field.Metadata)) _ found e in
    let (good, good-is, after_good) = gave (only_if (nat_le (length pairs) 100 && list_all is_pair pairs) (BadBody field.Metadata)) _ found after_pairs in
    let parts = and_parts _ _ (held _ (BadBody field.Metadata) good good-is) in
    pairs_in_range pairs found (leb-true (length pairs) 100 parts.0) parts.1 (was (kept pairs) (BadBody field.Metadata) found after_good)
  where
    held : (b : Bool) (refusal : Refusal) (u : Unit {0}) → only_if b refusal ≡ Ok u → b ≡ true
    held true refusal u e = refl
    held false refusal u e = absurd (cc)

named : (text : Option (List ℕ)) (key : List ℕ) → key_by text ≡ Ok key → key_of key ≡ Some key
named None key e = absurd (cc)
named (Some text) key e = key_stays text key (was (key_of text) (BadBody field.Key) key e)

valued : (value : Option (List ℕ)) (kept : List ℕ) → value_by value ≡ Ok kept → is_value kept ≡ true
valued None kept e = absurd (cc)
valued (Some value) kept e =
    let (short, same) = passed (is_value value) value kept (BadBody field.Value) e in
    subst (λ (v : List ℕ). is_value v ≡ true) same short

pub one_pair_in_range : (body : PairBody) (pair : List ℕ × List ℕ) → checked_pair body ≡ Ok pair → IsPairInRange pair
one_pair_in_range body pair e =
    let (key, key-is, after_key) = gave (key_by body.key) _ pair e in
    let (value, value-is, after_value) = gave (value_by body.value) _ pair after_key in
    let made : List ℕ × List ℕ = (key, value) in
    subst IsPairInRange (given_is made pair after_value) (pair_in_range key value (named body.key key key-is) (valued body.value value value-is))

-- ---- orders

order_by_in_range : (meta : MetaBody) (moment : ℕ) (new : NewOrder) → order_by meta moment ≡ Ok new → IsOrderInRange moment new
order_by_in_range meta moment new e =
    let (algorithm, algorithm-is, after_algorithm) = gave (required_text field.Algorithm meta.algorithm) _ new e in
    let (bit_length, bit_length-is, after_bit_length) = gave (required_bit_length meta.bit_length) _ new after_algorithm in
    let (mode, mode-is, after_mode) = gave (optional_text field.Mode meta.mode) _ new after_bit_length in
    let (name, name-is, after_name) = gave (optional_text field.Name meta.name) _ new after_mode in
    let (bytes, bytes-is, after_bytes) = gave (bytes_by meta.payload_content_type) _ new after_name in
    let (expiration, expiration-is, after_expiration) = gave (expiration_by meta.expiration moment) _ new after_bytes in
    let made : NewOrder = record { algorithm = algorithm; bit_length = bit_length; mode = mode; name = name; expiration = expiration } in
    let filled = needed field.Algorithm meta.algorithm algorithm algorithm-is in
    subst (IsOrderInRange moment) (given_is made new after_expiration) (record {
      some = filled.0;
      algorithm = filled.1;
      bit_length = bits meta.bit_length bit_length bit_length-is;
      mode = short field.Mode meta.mode mode mode-is;
      name = short field.Name meta.name name name-is;
      later = expires_later meta.expiration moment expiration expiration-is;
      expiration = expires_in_time meta.expiration moment expiration expiration-is;
    })

pub order_in_range : (body : OrderBody) (moment : ℕ) (new : NewOrder) → checked_order body moment ≡ Ok new → IsOrderInRange moment new
order_in_range body moment new e =
    let (word, word-is, after_word) = gave (there body.kind (BadBody field.TypeName)) _ new e in
    let (key, key-is, after_key) = gave (type_by word) _ new after_word in
    let (meta, meta-is, after_meta) = gave (there body.meta (BadBody field.Meta)) (λ (meta : MetaBody). order_by meta moment) new after_key in
    order_by_in_range meta moment new after_meta
