-- Short texts by their length and their UTF-8.
use Rattle.std.proofs.Common.{◌≡◌, ℕ, ◌≤◌, true, false, leb, List, length, Some, None, refl, IsUtf8}
use Rattle.std.specs.Str.{is_utf8}
use Rattle.std.proofs.lemmas.Str.{IsUtf8-from_is_utf8, is_utf8-from_IsUtf8}
use Rattle.std.proofs.lemmas.Bool.{le-leb}
use Rattle.kms_record.specs.Reading.{text_at, short_text_at}

not_utf8 : (text : List ℕ) → (IsUtf8 text → ⊥) → is_utf8 text ≡ false
not_utf8 text h = elim (is_utf8 text) as (λ b. is_utf8 text ≡ b → b ≡ false) [ true ↦ λ e. absurd (h (IsUtf8-from_is_utf8 text e)) | false ↦ λ e. refl ] refl

pub short_text_is_read : (bytes text rest : List ℕ) → text_at bytes ≡ Some (text, rest) → length text ≤ 255 → IsUtf8 text → short_text_at bytes ≡ Some (text, rest)
short_text_is_read bytes text rest read short utf8 =
    let short-is : leb (length text) 255 ≡ true = le-leb _ _ short in
    rw (read, short-is, is_utf8-from_IsUtf8 text utf8) refl

pub other_text_is_not_read : (bytes text rest : List ℕ) → text_at bytes ≡ Some (text, rest) → length text ≤ 255 → (IsUtf8 text → ⊥) → short_text_at bytes ≡ None
other_text_is_not_read bytes text rest read short other =
    let short-is : leb (length text) 255 ≡ true = le-leb _ _ short in
    rw (read, short-is, not_utf8 text other) refl
