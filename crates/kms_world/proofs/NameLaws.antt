-- A name is ASCII.
use Rattle.std.proofs.Common.{◌≡◌, ℕ, ◌<◌, ◌&&◌, Bool, true, false, true≢false, List, [], ◌∷◌, IsUtf8, refl, sym, arith}
use Rattle.std.specs.List.{list_all}
use Rattle.std.specs.Str.{IsAscii}
use Rattle.std.proofs.lemmas.Str.{IsUtf8-from_ascii}
use Rattle.std.proofs.lemmas.Str.Ascii.{IsAscii-nil, IsAscii-cons}
use Rattle.kms_world.specs.Name.{is_name, is_name_byte}

both : (a b : Bool) → (a && b) ≡ true → (a ≡ true) × (b ≡ true)
both true b h = (refl, h)
both false b h = absurd (true≢false (sym h))

name_byte_small : (b : ℕ) → is_name_byte b ≡ true → b < 128
name_byte_small b h = grind arith

name_bytes_ascii : (text : List ℕ) → list_all is_name_byte text ≡ true → IsAscii text
name_bytes_ascii [] h = IsAscii-nil
name_bytes_ascii (b ∷ text) h =
    let parts = both (is_name_byte b) (list_all is_name_byte text) h in
    IsAscii-cons b text (name_byte_small b parts.0) (name_bytes_ascii text parts.1)

pub IsAscii-name : (text : List ℕ) → is_name text ≡ true → IsAscii text
IsAscii-name text h = name_bytes_ascii text (both _ _ h).1

pub IsUtf8-name : (text : List ℕ) → is_name text ≡ true → IsUtf8 text
IsUtf8-name text h = IsUtf8-from_ascii text (IsAscii-name text h)
