-- A key's text has 44 characters, and decodes to the key alone.
use Rattle.std.proofs.Common.{◌≡◌, ◌≢◌, ℕ, ◌+◌, ◌-◌, ◌*◌, ◌/◌, ◌%◌, List, Result, Ok, Err, length, take, drop, replicate, subst, arith, refl, sym, ap, ◌∙◌}
use Rattle.std.proofs.lemmas.List.{length-append, length-replicate, take-append-drop}
use Rattle.base64.specs.Engines.{url_safe}
use Rattle.base64.specs.GeneralPurpose.{decode_of, engine_symbols, IsBytes}
use Rattle.base64.specs.Rfc4648.{encode_symbols, padding_len}
use Rattle.base64.specs.declared.decode.DecodeError.{DecodeError}
use Rattle.base64.proofs.RoundTrip.{length-encode_symbols}
use Rattle.base64.proofs.EngineFacts.{decode_of-encode_of, decode_of_strict, front_bytes}
use Rattle.kms_fernet.specs.Key.{base64url, IsBase64url, IsNoBase64url, IsKeyText, IsNoKeyText}

-- how long a base64url is
pub length-base64url : (bytes : List ℕ) (n : ℕ) → length bytes ≡ n → length (base64url bytes) ≡ (4 * n + 2) / 3 + (3 - n % 3) % 3
length-base64url bytes n e =
    omega (
      arith,
      length-append (encode_symbols (engine_symbols url_safe) bytes) (replicate (padding_len (length bytes)) 61),
      length-encode_symbols (engine_symbols url_safe) bytes,
      length-replicate {A = ℕ} (padding_len (length bytes)) 61,
    )

-- what a base64url decodes to
pub decoded_base64url : (text bytes : List ℕ) → IsBase64url text bytes → decode_of url_safe text ≡ Ok bytes
decoded_base64url text bytes is = ap (decode_of url_safe) is.spelled ∙ decode_of-encode_of url_safe bytes refl is.fits

apart : (e : DecodeError) (bytes : List ℕ) → ◌≡◌ {A = Result (List ℕ) DecodeError} (Err e) (Ok bytes) → ⊥
apart e bytes h = cc

pub same : (a b : List ℕ) → ◌≡◌ {A = Result (List ℕ) DecodeError} (Ok a) (Ok b) → a ≡ b
same a b h = cc

-- what does not decode is no base64url
pub undecoded : (text : List ℕ) (e : DecodeError) → decode_of url_safe text ≡ Err e → (bytes : List ℕ) → ¬ IsBase64url text bytes
undecoded text e fails bytes is = apart e bytes (sym fails ∙ decoded_base64url text bytes is)

-- what decodes is the base64url of that
pub spelled : (text bytes : List ℕ) → IsBytes text → IsBytes bytes → decode_of url_safe text ≡ Ok bytes → IsBase64url text bytes
spelled text bytes fit fits gives = record { fits = fits; spelled = decode_of_strict url_safe text bytes (refl, refl) fit gives }

-- what is decoded at the front of a room is read from the text
pub decoded_front : (text room : List ℕ) (n : ℕ) → IsBytes text → IsBytes room → decode_of url_safe text ≡ Ok (take n room)
    → IsBase64url text (take n room)
decoded_front text room n fit room_fit gives =
    spelled text (take n room) fit
    (front_bytes (take n room) (drop n room) (subst IsBytes (sym (take-append-drop n room)) room_fit))
    gives

-- a text is the base64url of one list of bytes at most
pub one_base64url : (text a b : List ℕ) → IsBase64url text a → IsBase64url text b → a ≡ b
one_base64url text a b ha hb = same a b (sym (decoded_base64url text a ha) ∙ decoded_base64url text b hb)

as_base64url : (text key : List ℕ) → IsKeyText text key → IsBase64url text key
as_base64url text key is = record { fits = is.fits.fits; spelled = is.spelled }

-- another length is no key's
pub none_by_length : (text : List ℕ) → length text ≢ 44 → IsNoKeyText text
none_by_length text far key is = far (ap length is.spelled ∙ length-base64url key 32 is.fits.len)

-- what is no base64url is no key's
pub none_by_text : (text : List ℕ) → IsNoBase64url text → IsNoKeyText text
none_by_text text none key is = none key (as_base64url text key is)

-- what is that of another number of bytes is no key's
pub none_by_count : (text bytes : List ℕ) → IsBase64url text bytes → length bytes ≢ 32 → IsNoKeyText text
none_by_count text bytes is far key of = far (ap length (one_base64url text bytes key is (as_base64url text key of)) ∙ of.fits.len)
