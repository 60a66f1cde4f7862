-- The text of an id is 36 ASCII characters.
use Rattle.std.proofs.Common.{◌≡◌, ℕ, length, IsUtf8, inl, refl, Result, Ok, Err, MatchResult, IsOk, ◌≢◌, List, None, arith}
use Rattle.std.specs.Str.{IsAscii}
use Rattle.std.specs.Int.{w128, to_be_bytes}
use Rattle.std.proofs.lemmas.Str.{IsUtf8-from_ascii}
use Rattle.uuid.specs.Text.{lower}
use Rattle.uuid.proofs.TextLemmas.{by_index_length, hyphenated_ascii}
use Rattle.kms_world.specs.declared.id.Id.{Id}
use Rattle.kms_text.specs.IdText.{id_text_of, read_id_of}

pub length-id_text_of : (id : Id) → length (id_text_of id) ≡ 36
unfolding id_text_of
length-id_text_of id = by_index_length 36 _

pub IsAscii-id_text_of : (id : Id) → IsAscii (id_text_of id)
unfolding id_text_of
IsAscii-id_text_of id = hyphenated_ascii lower (to_be_bytes w128 id.0) (inl refl)

pub IsUtf8-id_text_of : (id : Id) → IsUtf8 (id_text_of id)
IsUtf8-id_text_of id = IsUtf8-from_ascii (id_text_of id) (IsAscii-id_text_of id)

-- a result that isn't an error is Ok
pub ok_of : {T E : Type 0} (P : T → Type 0) (Q : E → Type 0) (r : Result T E) → MatchResult r P Q → ((e : E) → Q e → ⊥) → IsOk r
ok_of P Q (Ok x) found none = refl
ok_of P Q (Err e) found none = absurd (none e found)

-- an id has 36 characters
pub read_id_of-none : (text : List ℕ) → length text ≢ 36 → read_id_of text ≡ None
unfolding read_id_of
read_id_of-none text other = grind arith
