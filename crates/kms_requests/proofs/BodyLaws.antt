-- What reading bytes says of the body.
use Rattle.std.specs.Prelude.{◌≡◌, ℕ, List, Some, None, Ok, Err, is_some, IsUtf8, true, false}
use Rattle.std.specs.Str.{is_utf8}
use Rattle.std.proofs.Common.{refl, sym, inl, inr}
use Rattle.std.proofs.lemmas.Bool.{cases_Bool, true≢false}
use Rattle.std.proofs.lemmas.Str.{IsUtf8-from_is_utf8, is_utf8-from_IsUtf8}
use Rattle.serde_json.specs.Data.{Data, null, boolean, number, string, array, object}
use Rattle.serde_json.specs.Find.{as_object}
use Rattle.serde_json.specs.Read.{read}
use Rattle.kms_world.specs.declared.refusal.Field.TheVariants.{Body}
use Rattle.kms_world.specs.declared.refusal.Refusal.TheVariants.{BadBody}
use Rattle.kms_requests.specs.Body.{value_of, body_of, object_or_fault}

value_read : (bytes : List ℕ) (d : Data) → IsUtf8 bytes → read bytes ≡ Some d → value_of bytes ≡ Some d
unfolding value_of
value_read bytes d text is = rw (is_utf8-from_IsUtf8 bytes text) is

no_value : (bytes : List ℕ) → (IsUtf8 bytes → read bytes ≡ None) → value_of bytes ≡ None
unfolding value_of
no_value bytes none = elim (cases_Bool (is_utf8 bytes)) [
  | inl text ↦ rw text (none (IsUtf8-from_is_utf8 bytes text))
  | inr other ↦ rw other refl
]

object_from : (bytes : List ℕ) (d : Data) → value_of bytes ≡ Some d → is_some (as_object d) ≡ true → object_or_fault (body_of bytes) ≡ Ok d
object_from bytes null is h = absurd (true≢false (sym h))
object_from bytes (boolean b) is h = absurd (true≢false (sym h))
object_from bytes (number n) is h = absurd (true≢false (sym h))
object_from bytes (string s) is h = absurd (true≢false (sym h))
object_from bytes (array ds) is h = absurd (true≢false (sym h))
object_from bytes (object ms) is h = rw is refl

other_from : (bytes : List ℕ) (d : Data) → value_of bytes ≡ Some d → is_some (as_object d) ≡ false → object_or_fault (body_of bytes) ≡ Err (BadBody Body)
other_from bytes null is h = rw is refl
other_from bytes (boolean b) is h = rw is refl
other_from bytes (number n) is h = rw is refl
other_from bytes (string s) is h = rw is refl
other_from bytes (array ds) is h = rw is refl
other_from bytes (object ms) is h = absurd (true≢false h)

pub an_object : (bytes : List ℕ) (d : Data) → IsUtf8 bytes → read bytes ≡ Some d → is_some (as_object d) ≡ true → object_or_fault (body_of bytes) ≡ Ok d
an_object bytes d text is o = object_from bytes d (value_read bytes d text is) o

pub another_value : (bytes : List ℕ) (d : Data) → IsUtf8 bytes → read bytes ≡ Some d → is_some (as_object d) ≡ false → object_or_fault (body_of bytes) ≡ Err (BadBody Body)
another_value bytes d text is o = other_from bytes d (value_read bytes d text is) o

pub not_read : (bytes : List ℕ) → (IsUtf8 bytes → read bytes ≡ None) → object_or_fault (body_of bytes) ≡ Err (BadBody Body)
not_read bytes none = rw (no_value bytes none) refl
