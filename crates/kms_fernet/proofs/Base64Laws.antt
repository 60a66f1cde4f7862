-- Base64 written piece by piece.
use Rattle.std.proofs.Common.{◌≡◌, ℕ, ◌+◌, ◌*◌, ◌%◌, ◌≤◌, List, ◌++◌, length, take, drop, arith, sym, ap, ◌∙◌}
use Rattle.std.proofs.lemmas.List.{take_at, drop-drop, length-take, length-drop, length-append, append-nil, take_all, drop_all, take-append-drop}
use Rattle.std.proofs.lemmas.Slice.{drop-append-drop}
use Rattle.base64.specs.Engines.{url_safe}
use Rattle.base64.proofs.EngineFacts.{encode_of-append}
use Rattle.kms_fernet.specs.Key.{base64url}
use Rattle.kms_fernet.proofs.KeyLaws.{length-base64url}
use Rattle.kms_fernet.proofs.CbcLaws.{take-add}

-- 48 bytes more are encoded in place of what stood at the front
pub encoded_more : (text now after : List ℕ) (from i : ℕ) → length now ≡ length text
    → from + 48 * i + 48 ≤ length text → 16 * i + 16 ≤ from
    → take (64 * i) now ≡ base64url (take (48 * i) (drop from text))
    → drop (from + 48 * i) now ≡ drop (from + 48 * i) text
    → after ≡ take (64 * i) now ++ base64url (take 48 (drop (from + 48 * i) now)) ++ drop (64 * i + 64) now
    → (take (64 * (i + 1)) after ≡ base64url (take (48 * (i + 1)) (drop from text)))
    × (drop (from + 48 * (i + 1)) after ≡ drop (from + 48 * (i + 1)) text)
encoded_more text now after from i len fits behind done rest is =
    let bytes = drop from text in
    let piece = take 48 (drop (from + 48 * i) now) in
    let encoded = base64url piece in
    let piece_len : length piece ≡ 48
    = let t = length-take 48 (drop (from + 48 * i) now) in let d = length-drop (from + 48 * i) now in omega arith in
    let encoded_len : length encoded ≡ 64 = length-base64url piece 48 piece_len in
    let front_len : length (take (64 * i) now) ≡ 64 * i = let t = length-take (64 * i) now in omega arith in
    let both_len : length (take (64 * i) now ++ encoded) ≡ 64 * i + 64
    = let t = length-append (take (64 * i) now) encoded in omega arith in
    let written : 64 * (i + 1) ≡ 64 * i + 64 = omega arith in
    let read : 48 * (i + 1) ≡ 48 * i + 48 = omega arith in
    let further : from + 48 * i + 48 ≡ from + 48 * (i + 1) = omega arith in
    let thirds : length (take (48 * i) bytes) % 3 ≡ 0
    = let t = length-take (48 * i) bytes in let d = length-drop from text in omega arith in
    let source : piece ≡ take 48 (drop (48 * i) bytes) = ap (take 48) (rest ∙ sym (drop-drop (48 * i) from text)) in (
      ap (λ (n : ℕ). take n after) written
          ∙ ap (take (64 * i + 64)) is
          ∙ take_at (take (64 * i) now ++ encoded) (drop (64 * i + 64) now) (64 * i + 64) both_len
          ∙ ap (λ (t : List ℕ). t ++ encoded) done
          ∙ sym (encode_of-append url_safe (take (48 * i) bytes) piece thirds)
          ∙ ap (λ (t : List ℕ). base64url (take (48 * i) bytes ++ t)) source
          ∙ ap base64url (sym (take-add (48 * i) 48 bytes))
          ∙ ap (λ (n : ℕ). base64url (take n bytes)) (sym read),
      ap (drop (from + 48 * (i + 1))) is
          ∙ drop-append-drop (64 * i + 64) now (take (64 * i) now ++ encoded) (from + 48 * (i + 1)) (omega arith) both_len
          ∙ ap (λ (n : ℕ). drop n now) (sym further)
          ∙ sym (drop-drop 48 (from + 48 * i) now)
          ∙ ap (drop 48) rest
          ∙ drop-drop 48 (from + 48 * i) text
          ∙ ap (λ (n : ℕ). drop n text) further,
    )

-- with the last bytes encoded
pub encoded_all : (text now after : List ℕ) (from i left end : ℕ) → length now ≡ length text → from ≤ length text
    → from + 48 * i + left ≡ length text → length text ≤ end
    → take (64 * i) now ≡ base64url (take (48 * i) (drop from text))
    → drop (from + 48 * i) now ≡ drop (from + 48 * i) text
    → after ≡ take (64 * i) now ++ base64url (take left (drop (from + 48 * i) now)) ++ drop end now
    → after ≡ base64url (drop from text)
encoded_all text now after from i left end len inside all past done rest is =
    let bytes = drop from text in
    let tail = take left (drop (from + 48 * i) now) in
    let thirds : length (take (48 * i) bytes) % 3 ≡ 0
    = let t = length-take (48 * i) bytes in let d = length-drop from text in omega arith in
    let left_len : length (drop (48 * i) bytes) ≤ left
    = let a = length-drop (48 * i) bytes in let b = length-drop from text in omega arith in
    let source : tail ≡ drop (48 * i) bytes
    = ap (take left) (rest ∙ sym (drop-drop (48 * i) from text)) ∙ take_all left (drop (48 * i) bytes) left_len in
    is
    ∙ ap (λ (t : List ℕ). take (64 * i) now ++ base64url tail ++ t) (drop_all end now (omega arith))
    ∙ append-nil (take (64 * i) now ++ base64url tail)
    ∙ ap (λ (t : List ℕ). t ++ base64url tail) done
    ∙ ap (λ (t : List ℕ). base64url (take (48 * i) bytes) ++ base64url t) source
    ∙ sym (encode_of-append url_safe (take (48 * i) bytes) (drop (48 * i) bytes) thirds)
    ∙ ap base64url (take-append-drop (48 * i) bytes)
