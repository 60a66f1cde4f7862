-- A text opens, or it has a fault: there is nothing between.
use Rattle.std.proofs.Common.{◌≡◌, ℕ, zero, suc, ◌-◌, ◌*◌, ◌/◌, ◌%◌, ◌<◌, ◌≤◌, ◌⊎◌, inl, inr, List, [], ◌∷◌, ◌++◌, length, get_or, take, drop, replicate, arith, refl, sym, ap, subst, ◌∙◌, Result, Ok, Err}
use Rattle.std.proofs.lemmas.Bool.{cases_eq, cases_lt}
use Rattle.std.proofs.lemmas.List.{take_at, drop_at, length-take, length-drop, length-append, take-append-drop}
use Rattle.base64.specs.Engines.{url_safe}
use Rattle.base64.specs.GeneralPurpose.{decode_of, IsBytes}
use Rattle.base64.specs.declared.decode.DecodeError.{DecodeError}
use Rattle.kms_aes.specs.Field.{sum_of}
use Rattle.kms_aes.specs.Cipher.{IsBytes as IsCountedBytes, IsBlock, encrypt}
use Rattle.kms_aes.proofs.States.{sum_of-twice}
use Rattle.kms_aes.proofs.ByteLists.{sum_bytes}
use Rattle.kms_aes.proofs.Existence.{encrypt-made}
use Rattle.kms_fernet.specs.Hmac.{hmac}
use Rattle.kms_fernet.specs.Cbc.{EndsInPadding}
use Rattle.kms_fernet.specs.Key.{signing_key, enciphering_key, base64url, IsBase64url, IsNoBase64url}
use Rattle.kms_fernet.specs.Token.{Opens, IsFramed, IsSigned, IsDeciphered, OpensBytes, IsBytesFault, IsFault, iv_of, ciphertext_len, ciphertext_of, signed_of, tag_of}
use Rattle.kms_fernet.specs.Laws.{OpensOnce, FailsOnce}
use Rattle.kms_fernet.specs.declared.open_fault.OpenFault.{OpenFault}
use Rattle.kms_fernet.specs.declared.open_fault.OpenFault.TheVariants.{Base64, Short, Version, Length, Mac, Padding, NoMemory}
use Rattle.kms_fernet.proofs.CbcLaws.{chain, chain-next, chain-none, cbc-chain}
use Rattle.kms_fernet.proofs.PaddingLaws.{last_is_count}
use Rattle.kms_fernet.proofs.KeyLaws.{decoded_base64url, undecoded, same}
use Rattle.kms_fernet.proofs.OpenLaws.{take_bytes, drop_bytes, opens}
use Rattle.kms_fernet.proofs.Unique.{append_bytes, push_byte, none_bytes, half, iv_block, opens_once, fault_closes, one_fault}

-- two lists are one, or not
same_or_not : (a b : List ℕ) → (a ≡ b) ⊎ (a ≡ b → ⊥)
same_or_not [] [] = inl refl
same_or_not [] (y ∷ ys) = inr (λ e. cc)
same_or_not (x ∷ xs) [] = inr (λ e. cc)
same_or_not (x ∷ xs) (y ∷ ys) =
    elim (cases_eq x y) [
      | inl first ↦ elim (same_or_not xs ys) [
        | inl rest ↦ inl (ap (λ (t : ℕ). t ∷ xs) first ∙ ap (λ (t : List ℕ). y ∷ t) rest)
        | inr other ↦ inr (λ e. other (cc))
      ]
      | inr other ↦ inr (λ e. other (cc))
    ]

-- the elements of a list are bytes, or not all of them
bytes_or_not : (xs : List ℕ) → IsBytes xs ⊎ (IsBytes xs → ⊥)
bytes_or_not [] = inl none_bytes
bytes_or_not (x ∷ xs) =
    elim (cases_lt x 256) [
      | inl small ↦ elim (bytes_or_not xs) [
        | inl rest ↦ inl (push_byte x xs small rest)
        | inr other ↦ inr (λ h. other (λ i. h (suc i)))
      ]
      | inr large ↦ inr (λ h. let f : x < 256 = h 0 in omega arith)
    ]

decoded_or_not : (text : List ℕ) (r : Result (List ℕ) DecodeError) → decode_of url_safe text ≡ r
    → ((bytes : List ℕ) × IsBase64url text bytes) ⊎ IsNoBase64url text
decoded_or_not text (Err e) fails = inr (undecoded text e fails)
decoded_or_not text (Ok bytes) gives =
    elim (bytes_or_not bytes) [
      | inl fits ↦ elim (same_or_not text (base64url bytes)) [
        | inl spelled ↦ inl (bytes, record { fits = fits; spelled = spelled })
        | inr other ↦ inr (λ c is.
            other (is.spelled ∙ ap base64url (same c bytes (sym (decoded_base64url text c is) ∙ gives))))
      ]
      | inr other ↦ inr (λ c is. other (subst IsBytes (same c bytes (sym (decoded_base64url text c is) ∙ gives)) is.fits))
    ]

-- a text is some bytes' base64url, or no bytes'
read_or_not : (text : List ℕ) → ((bytes : List ℕ) × IsBase64url text bytes) ⊎ IsNoBase64url text
read_or_not text = decoded_or_not text (decode_of url_safe text) refl

nil : (xs : List ℕ) → length xs ≡ 0 → [] ≡ xs
nil [] e = refl
nil (x ∷ xs) e = absurd (omega arith)

-- a text begins with what its ciphertext begins with, deciphered
chain-began : (key before ciphertext sum first rest : List ℕ) (n : ℕ) → length first ≡ 16 → first ≡ sum_of sum before
    → length sum ≤ length before → encrypt key sum ≡ take 16 ciphertext
    → chain key (take 16 ciphertext) n rest ≡ drop 16 ciphertext
    → chain key before (suc n) (first ++ rest) ≡ ciphertext
chain-began key before ciphertext sum first rest n len is fits made done =
    let enciphered : encrypt key (sum_of (take 16 (first ++ rest)) before) ≡ take 16 ciphertext
    = ap (λ (t : List ℕ). encrypt key (sum_of t before)) (take_at first rest 16 len ∙ is)
    ∙ ap (encrypt key) (sum_of-twice sum before fits) ∙ made in
    chain-next key before (first ++ rest) n (take 16 ciphertext) (sym enciphered)
    ∙ ap (λ (t : List ℕ). take 16 ciphertext ++ chain key (take 16 ciphertext) n t) (drop_at first rest 16 len)
    ∙ ap (λ (t : List ℕ). take 16 ciphertext ++ t) done
    ∙ take-append-drop 16 ciphertext

-- each list of whole blocks is the ciphertext of some text
chain-made : (key before ciphertext : List ℕ) (n : ℕ) → IsBlock key → IsBlock before → length ciphertext ≡ 16 * n → IsBytes ciphertext
    → (text : List ℕ) × IsCountedBytes (16 * n) text × (chain key before n text ≡ ciphertext)
chain-made key before ciphertext zero hk hb len fits =
    ([], record { len = refl; fits = none_bytes }, chain-none key before [] ∙ nil ciphertext (omega arith))
chain-made key before ciphertext (suc n) hk hb len fits =
    let front = length-take 16 ciphertext in
    let left = length-drop 16 ciphertext in
    let block : IsBlock (take 16 ciphertext) = record { len = omega arith; fits = take_bytes 16 ciphertext fits } in
    let made = encrypt-made key (take 16 ciphertext) hk block in
    let first = sum_bytes 16 made.0 before made.1 hb in
    let rest = chain-made key (take 16 ciphertext) (drop 16 ciphertext) n hk block (omega arith) (drop_bytes 16 ciphertext fits) in
    let both = length-append (sum_of made.0 before) rest.0 in
    let a = first.len in
    let b = rest.1.len in
    let c = made.1.len in
    let d = hb.len in (
      sum_of made.0 before ++ rest.0,
      record { len = omega arith; fits = append_bytes (sum_of made.0 before) rest.0 first.fits rest.1.fits },
      chain-began key before ciphertext made.0 (sum_of made.0 before) rest.0 n a refl (omega arith) made.2 rest.2,
    )

deciphered_of : (key raw text : List ℕ) (n : ℕ) → IsCountedBytes (16 * n) text → 16 * n ≡ ciphertext_len raw
    → chain (enciphering_key key) (iv_of raw) n text ≡ ciphertext_of raw → IsDeciphered key raw text
deciphered_of key raw text n is size made =
    let len = is.len in
    record {
      fits = is.fits;
      len = omega arith;
      enciphered = cbc-chain (enciphering_key key) (iv_of raw) text n (omega arith) ∙ made;
    }

-- a framed token has a deciphered text
deciphered-made : (key raw : List ℕ) → IsCountedBytes 32 key → IsBytes raw → IsFramed raw → (text : List ℕ) × IsDeciphered key raw text
deciphered-made key raw hk fits framed =
    let long = framed.long in
    let whole = framed.whole in
    let part = length-take (ciphertext_len raw) (drop 25 raw) in
    let left = length-drop 25 raw in
    let made = chain-made (enciphering_key key) (iv_of raw) (ciphertext_of raw) (ciphertext_len raw / 16) (half key hk)
    (iv_block raw fits long) (omega arith) (take_bytes (ciphertext_len raw) (drop 25 raw) (drop_bytes 25 raw fits)) in
    (made.0, deciphered_of key raw made.0 (ciphertext_len raw / 16) made.1 (omega arith) made.2)

last_byte : List ℕ → ℕ
last_byte text = get_or text (length text - 1) 0

-- only the last byte can say how much padding there is
padding_is_last : (text : List ℕ) (count : ℕ) → 16 ≤ length text → EndsInPadding text count → EndsInPadding text (last_byte text)
unfolding last_byte
padding_is_last text count long ends = subst (EndsInPadding text) (sym (last_is_count text count long ends)) ends

-- a text ends in padding, or not
padded_or_not : (text : List ℕ) → 16 ≤ length text
    → ((count : ℕ) × EndsInPadding text count) ⊎ ((count : ℕ) → ¬ EndsInPadding text count)
padded_or_not text long =
    let v = last_byte text in
    elim (cases_lt v 1) [
      | inl none ↦ inr (λ count ends. let least = (padding_is_last text count long ends).least in omega arith)
      | inr least ↦ elim (cases_lt 16 v) [
        | inl above ↦ inr (λ count ends. let most = (padding_is_last text count long ends).most in omega arith)
        | inr most ↦ elim (same_or_not (drop (length text - v) text) (replicate v v)) [
          | inl bytes ↦ inl (v, record { least = least; most = most; bytes = bytes })
          | inr other ↦ inr (λ count ends. other (padding_is_last text count long ends).bytes)
        ]
      ]
    ]

BytesVerdict : List ℕ → List ℕ → Type 0
BytesVerdict key raw = ((plain : List ℕ) × OpensBytes key raw plain) ⊎ ((fault : OpenFault) × IsBytesFault key raw fault)

signed_verdict : (key raw : List ℕ) → IsCountedBytes 32 key → IsBytes raw → IsFramed raw → IsSigned key raw → BytesVerdict key raw
unfolding BytesVerdict
signed_verdict key raw hk fits framed signed =
    let long = framed.long in
    let whole = framed.whole in
    let made = deciphered-made key raw hk fits framed in
    let size = made.1.len in
    elim (padded_or_not made.0 (omega arith)) [
      | inl padding ↦ inl (
        take (length made.0 - padding.0) made.0,
        record {
          framed = framed;
          signed = signed;
          deciphered = made.0;
          is_deciphered = made.1;
          count = padding.0;
          padding = padding.1;
          front = refl;
        },
      )
      | inr none ↦ inr (Padding, (framed, signed, (made.0, made.1, none)))
    ]

framed_verdict : (key raw : List ℕ) → IsCountedBytes 32 key → IsBytes raw → IsFramed raw → BytesVerdict key raw
unfolding BytesVerdict
framed_verdict key raw hk fits framed =
    elim (same_or_not (tag_of raw) (hmac (signing_key key) (signed_of raw))) [
      | inl signed ↦ signed_verdict key raw hk fits framed signed
      | inr other ↦ inr (Mac, (framed, other))
    ]

-- bytes open, or have a fault
bytes_verdict : (key raw : List ℕ) → IsCountedBytes 32 key → IsBytes raw → BytesVerdict key raw
unfolding BytesVerdict
bytes_verdict key raw hk fits =
    elim (cases_lt (length raw) 73) [
      | inl short ↦ inr (Short, short)
      | inr long ↦ elim (cases_eq (get_or raw 0 0) 0x80) [
        | inr other ↦ inr (Version, (long, other))
        | inl version ↦ elim (cases_eq (ciphertext_len raw % 16) 0) [
          | inr odd ↦ inr (Length, (long, version, odd))
          | inl whole ↦ framed_verdict key raw hk fits record { long = long; version = version; whole = whole }
        ]
      ]
    ]

-- the fault of bytes is that of their text
text_fault : (key text raw : List ℕ) (fault : OpenFault) → IsBase64url text raw → IsBytesFault key raw fault → IsFault key text fault
text_fault key text raw Base64 read f = absurd f
text_fault key text raw Short read f = (raw, read, f)
text_fault key text raw Version read f = (raw, read, f)
text_fault key text raw Length read f = (raw, read, f)
text_fault key text raw Mac read f = (raw, read, f)
text_fault key text raw Padding read f = (raw, read, f)
text_fault key text raw NoMemory read f = absurd f

opens_once_of : (key text plain : List ℕ) → IsCountedBytes 32 key → Opens key text plain → OpensOnce key text
opens_once_of key text plain hk o = record {
  plain = plain;
  opens = o;
  only = λ other also. opens_once key text other plain hk also o;
  sound = λ fault f. fault_closes key text fault hk f plain o;
}

fails_once_of : (key text : List ℕ) (fault : OpenFault) → IsCountedBytes 32 key → IsFault key text fault → FailsOnce key text
fails_once_of key text fault hk f = record {
  fault = fault;
  is_fault = f;
  only = λ other also. one_fault key text other fault also f;
  closed = fault_closes key text fault hk f;
}

-- a text opens, to one plain text, or has a fault, which is one
pub verdict : (key text : List ℕ) → IsCountedBytes 32 key → OpensOnce key text ⊎ FailsOnce key text
unfolding BytesVerdict
verdict key text hk =
    elim (read_or_not text) [
      | inr none ↦ inr (fails_once_of key text Base64 hk none)
      | inl read ↦ elim (bytes_verdict key read.0 hk read.1.fits) [
        | inl opened ↦ inl (opens_once_of key text opened.0 hk (opens key text read.0 opened.0 read.1 opened.1))
        | inr failed ↦ inr (fails_once_of key text failed.0 hk (text_fault key text read.0 failed.0 read.1 failed.1))
      ]
    ]
