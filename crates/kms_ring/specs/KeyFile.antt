-- Key files: the texts of master keys, line by line.
use denote.Ref.{Bor}
use Rattle.std.specs.Prelude.{◌≡◌, ℕ, ◌+◌, ◌-◌, ◌<◌, ◌≤◌, ◌==◌, List, [], ◌∷◌, ◌++◌, length, map, take, get_or, cond, Bool, Option, Some, None}
use Rattle.std.specs.List.{AllByRecursion, IsDistinct, slice_split}
use Rattle.std.specs.Str.{bytes_eq}
use Rattle.kms_aes.specs.Cipher.{IsBytes}
use Rattle.kms_fernet.specs.Key.{base64url, IsKeyText, IsNoKeyText}
use Rattle.kms_ring.specs.declared.bad_line.BadKey.{BadKey}
use Rattle.kms_ring.specs.declared.bad_line.BadKey.TheVariants.{NotAKey, SameAs, TooMany}
use Rattle.kms_ring.specs.declared.bad_line.BadLine.{BadLine}

abbrev pub is_line_feed : ℕ → Bool
is_line_feed b = b == 10

-- without the line feed that ends it, if one does
abbrev pub unterminated : List ℕ → List ℕ
unterminated text = cond (is_line_feed (get_or text (length text - 1) 0)) (take (length text - 1) text) text

-- the lines of a text: it is cut at each line feed but the last one, if it ends with that. There is one at least.
abbrev pub lines_of : List ℕ → List (List ℕ)
lines_of text = slice_split is_line_feed (unterminated text)

-- what is left begins with this line, and behind its line feed, if one ends it, this is left
abbrev pub StandsFirst : (rest line : List ℕ) → Option (Bor (List ℕ)) → Type 0
StandsFirst rest line None = slice_split is_line_feed rest ≡ line ∷ []
StandsFirst rest line (Some behind) = slice_split is_line_feed rest ≡ line ∷ slice_split is_line_feed behind.now

-- sixteen keys at most, of 32 bytes each, no two of them equal
pub record AreKeys (keys : List (List ℕ)) : Type 0 where
  pub few : length keys ≤ 16
  pub each : AllByRecursion (IsBytes 32) keys
  pub distinct : IsDistinct bytes_eq keys

-- The lines of the text are the texts of these keys.
pub record IsKeyFile (text : List ℕ) (keys : List (List ℕ)) : Type 0 where
  pub good : AreKeys keys
  pub lines : lines_of text ≡ map base64url keys

-- the key stands in the list at this place, counted from 1
pub record StandsAt (key : List ℕ) (place : ℕ) (keys : List (List ℕ)) : Type 0 where
  pub before : List (List ℕ)
  pub after : List (List ℕ)
  pub there : keys ≡ before ++ key ∷ after
  pub at : place ≡ length before + 1

-- why a line isn't that of one more key, behind those of these keys
abbrev pub IsBadKey : (keys : List (List ℕ)) → (line : List ℕ) → BadKey → Type 0
IsBadKey keys line TooMany = length keys ≡ 16
IsBadKey keys line NotAKey = (length keys < 16) × IsNoKeyText line
IsBadKey keys line (SameAs place) = (length keys < 16) × (key : List ℕ) × IsKeyText line key × StandsAt key place keys

-- the line is the text of a key that isn't among these, and they are one more with it
abbrev pub AddsKey : (before : List (List ℕ)) → (line : List ℕ) → (after : List (List ℕ)) → Type 0
AddsKey before line after = AreKeys after × (key : List ℕ) × (line ≡ base64url key) × (after ≡ before ++ key ∷ [])

-- the line behind those of these keys is bad
pub record IsBadNext (keys : List (List ℕ)) (line : List ℕ) (bad : BadLine) : Type 0 where
  pub at : bad.line ≡ length keys + 1
  pub why : IsBadKey keys line bad.why

-- The first lines of the text are the texts of keys, and the next is this bad one.
pub record IsBadLine (text : List ℕ) (bad : BadLine) : Type 0 where
  pub keys : List (List ℕ)
  pub line : List ℕ
  pub after : List (List ℕ)
  pub good : AreKeys keys
  pub lines : lines_of text ≡ map base64url keys ++ line ∷ after
  pub next : IsBadNext keys line bad
