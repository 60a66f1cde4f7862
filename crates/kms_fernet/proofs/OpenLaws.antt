-- A text whose bytes open is the token of what they open to.
use Rattle.std.proofs.Common.{◌≡◌, ℕ, ◌+◌, ◌-◌, ◌^◌, ◌<◌, ◌≤◌, List, [], ◌∷◌, ◌++◌, Result, Ok, Err, length, get_or, take, drop, arith, refl, sym, ap, subst, ◌∙◌, append_assoc}
use Rattle.std.specs.Prelude.{IfOk}
use Rattle.std.specs.Int.{w64, to_be_bytes, from_be_bytes}
use Rattle.std.proofs.lemmas.List.{drop-drop, length-take, length-drop, take-append-drop, take-append-le, get_or-drop}
use Rattle.std.proofs.lemmas.Nat.{be_bytes_8}
use Rattle.base64.specs.GeneralPurpose.{IsBytes}
use Rattle.base64.proofs.EngineFacts.{front_bytes}
use Rattle.kms_fernet.specs.Hmac.{hmac}
use Rattle.kms_fernet.specs.Cbc.{cbc, padded}
use Rattle.kms_fernet.specs.Key.{signing_key, enciphering_key, base64url, IsBase64url}
use Rattle.kms_fernet.specs.Token.{signed_part, token_bytes, Opens, IsFramed, OpensBytes, iv_of, ciphertext_len, ciphertext_of, signed_of}
use Rattle.kms_fernet.specs.declared.open_fault.OpenFault.{OpenFault}
use Rattle.kms_fernet.proofs.CbcLaws.{take-add}
use Rattle.kms_fernet.proofs.PaddingLaws.{padded-front}

pub take_bytes : (n : ℕ) (xs : List ℕ) → IsBytes xs → IsBytes (take n xs)
take_bytes n xs h = front_bytes (take n xs) (drop n xs) (subst IsBytes (sym (take-append-drop n xs)) h)

pub drop_bytes : (n : ℕ) (xs : List ℕ) → IsBytes xs → IsBytes (drop n xs)
drop_bytes n xs h i = subst (λ (t : ℕ). t < 256) (sym (get_or-drop n xs i 0)) (h (n + i))

moment_of : List ℕ → ℕ
moment_of raw = from_be_bytes w64 (take 8 (drop 1 raw))

-- eight bytes are a number of 64 bits
moment_fits : (bytes : List ℕ) → IsBytes bytes → from_be_bytes w64 bytes < 2 ^ 64
moment_fits bytes h = omega (arith, h 0, h 1, h 2, h 3, h 4, h 5, h 6, h 7)

moment_of_fits : (raw : List ℕ) → IsBytes raw → moment_of raw < 2 ^ 64
unfolding moment_of
moment_of_fits raw h = moment_fits (take 8 (drop 1 raw)) (take_bytes 8 (drop 1 raw) (drop_bytes 1 raw h))

first_byte : (raw : List ℕ) (b : ℕ) → 1 ≤ length raw → get_or raw 0 0 ≡ b → take 1 raw ≡ b ∷ []
first_byte [] b h e = absurd (omega arith)
first_byte (x ∷ xs) b h e = ap (λ (t : ℕ). t ∷ []) e

signed_parts : (raw : List ℕ) → IsBytes raw → IsFramed raw
    → signed_of raw ≡ signed_part (moment_of raw) (iv_of raw) (ciphertext_of raw)
unfolding signed_part moment_of
signed_parts raw fits framed =
    let long = framed.long in
    let size : length raw - 32 ≡ 1 + (8 + (16 + ciphertext_len raw)) = omega arith in
    let rest = length-drop 1 raw in
    let front = length-take 8 (drop 1 raw) in
    let moment : to_be_bytes w64 (from_be_bytes w64 (take 8 (drop 1 raw))) ≡ take 8 (drop 1 raw)
    = be_bytes_8 (take 8 (drop 1 raw)) (from_be_bytes w64 (take 8 (drop 1 raw))) (omega arith)
    (take_bytes 8 (drop 1 raw) (drop_bytes 1 raw fits)) refl in
    let body : take (16 + ciphertext_len raw) (drop 8 (drop 1 raw)) ≡ iv_of raw ++ ciphertext_of raw
    = ap (take (16 + ciphertext_len raw)) (drop-drop 8 1 raw)
    ∙ take-add 16 (ciphertext_len raw) (drop 9 raw)
    ∙ ap (λ (t : List ℕ). iv_of raw ++ take (ciphertext_len raw) t) (drop-drop 16 9 raw) in
    ap (λ (n : ℕ). take n raw) size
    ∙ take-add 1 (8 + (16 + ciphertext_len raw)) raw
    ∙ ap (λ (t : List ℕ). t ++ take (8 + (16 + ciphertext_len raw)) (drop 1 raw))
    (first_byte raw 0x80 (omega arith) framed.version)
    ∙ ap (λ (t : List ℕ). 0x80 ∷ t)
    (take-add 8 (16 + ciphertext_len raw) (drop 1 raw)
    ∙ ap (λ (t : List ℕ). t ++ take (16 + ciphertext_len raw) (drop 8 (drop 1 raw))) (sym moment)
    ∙ ap (λ (t : List ℕ). to_be_bytes w64 (from_be_bytes w64 (take 8 (drop 1 raw))) ++ t) body
    ∙ sym (append_assoc (to_be_bytes w64 (from_be_bytes w64 (take 8 (drop 1 raw)))) (iv_of raw) (ciphertext_of raw)))

pub opens : (key text raw plain : List ℕ) → IsBase64url text raw → OpensBytes key raw plain → Opens key text plain
unfolding token_bytes
opens key text raw plain read of =
    let framed = of.framed in
    let long = framed.long in
    let whole = framed.whole in
    let deciphered = of.deciphered in
    let deciphered_len = of.is_deciphered.len in
    let iv_len : length (iv_of raw) ≡ 16
    = let a = length-take 16 (drop 9 raw) in let b = length-drop 9 raw in omega arith in
    let text_is : padded plain ≡ deciphered
    = ap padded of.front ∙ padded-front deciphered of.count (omega arith) (omega arith) of.padding in
    let signed : signed_of raw ≡ signed_part (moment_of raw) (iv_of raw) (cbc (enciphering_key key) (iv_of raw) (padded plain))
    = signed_parts raw read.fits framed
    ∙ ap (signed_part (moment_of raw) (iv_of raw))
    (sym of.is_deciphered.enciphered ∙ ap (cbc (enciphering_key key) (iv_of raw)) (sym text_is)) in
    let bytes : raw ≡ token_bytes key (moment_of raw) (iv_of raw) plain
    = sym (take-append-drop (length raw - 32) raw)
    ∙ ap (λ (t : List ℕ). signed_of raw ++ t) of.signed
    ∙ ap (λ (t : List ℕ). t ++ hmac (signing_key key) t) signed in
    record {
      moment = moment_of raw;
      iv = iv_of raw;
      moment_fits = moment_of_fits raw read.fits;
      iv_fits = record { len = iv_len; fits = take_bytes 16 (drop 9 raw) (drop_bytes 9 raw read.fits) };
      plain_fits = subst IsBytes (sym of.front) (take_bytes (length deciphered - of.count) deciphered of.is_deciphered.fits);
      token = read.spelled ∙ ap base64url bytes;
    }

-- what opens at the front of a room
pub opens_front : (r : Result ℕ OpenFault) (key text raw now rest : List ℕ) → IsBase64url text raw
    → IfOk r (λ n. n ≤ length now) → IfOk r (λ n. OpensBytes key raw (take n now))
    → IfOk r (λ n. Opens key text (take n (now ++ rest)))
opens_front (Ok n) key text raw now rest read within of =
    subst (Opens key text) (sym (take-append-le n now rest within)) (opens key text raw (take n now) read of)
opens_front (Err e) key text raw now rest read within of = tt
