-- The bytes of a token are ASCII (RFC 9110 section 5.6.2).
use Rattle.std.proofs.Common.{◌≡◌, ℕ, ◌<◌, List, [], ◌∷◌, nat_lt, Bool, true, false, ◌||◌, refl, arith}
use Rattle.std.specs.Prelude.{◌==◌, codes}
use Rattle.std.specs.List.{list_any, list_all}
use Rattle.std.specs.Char.{is_ascii_alphanumeric}
use Rattle.std.specs.Str.{IsUtf8}
use Rattle.std.proofs.lemmas.Str.{IsUtf8-from_ascii}
use Rattle.std.proofs.lemmas.Bool.Decides.{nat_tests}
use Rattle.std.proofs.lemmas.Str.Ascii.{IsAscii-from_all}
use Rattle.kms_http.proofs.StepLaws.{both}
use Rattle.httparse.specs.Grammar.{is_token_byte, AllPass}

-- a byte that stands in an ASCII text is ASCII
listed_small : (b : ℕ) (xs : List ℕ) → list_all (λ c. nat_lt c 128) xs ≡ true → list_any (λ c. c == b) xs ≡ true → b < 128
listed_small b [] all any = absurd (cc)
listed_small b (x ∷ xs) all any =
    step (λ h. listed_small b xs (both (nat_lt x 128) (list_all (λ c. nat_lt c 128) xs) all).1 h)
    (both (nat_lt x 128) (list_all (λ c. nat_lt c 128) xs) all).0 (x == b) refl any
  where
    step : (list_any (λ c. c == b) xs ≡ true → b < 128) → nat_lt x 128 ≡ true → (t : Bool) → (x == b) ≡ t → (t || list_any (λ c. c == b) xs) ≡ true → b < 128
    step later small true same h = grind (arith, nat_tests)
    step later small false other h = later h

token_small : (b : ℕ) → is_token_byte b ≡ true → b < 128
unfolding is_token_byte
token_small b e = step (is_ascii_alphanumeric b) refl e
  where
    step : (t : Bool) → is_ascii_alphanumeric b ≡ t → (t || list_any (λ c. c == b) (codes "!#$%&'*+-.^_`|~")) ≡ true → b < 128
    step true here h = grind (arith, nat_tests)
    step false here h = listed_small b (codes "!#$%&'*+-.^_`|~") refl h

pub token_is_text : (bytes : List ℕ) → AllPass is_token_byte bytes → IsUtf8 bytes
token_is_text bytes all = IsUtf8-from_ascii bytes (IsAscii-from_all bytes (λ i d below. token_small _ (all i d below)))
