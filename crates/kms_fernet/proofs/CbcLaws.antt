-- Chaining block by block, forward and back.
use Rattle.std.proofs.Common.{◌≡◌, ℕ, zero, suc, ◌+◌, ◌-◌, ◌*◌, ◌/◌, ◌<◌, ◌≤◌, List, [], ◌∷◌, ◌++◌, length, take, drop, arith, refl, sym, ap, ◌∙◌, append_assoc}
use Rattle.std.proofs.lemmas.List.{take_at, drop_at, drop-drop, append-nil, take_all}
use Rattle.kms_aes.specs.Field.{sum_of}
use Rattle.kms_aes.specs.Cipher.{encrypt}
use Rattle.kms_fernet.specs.Cbc.{blocks, chained, joined, cbc}

-- the ciphertext of the first n blocks of a text, after a block that was enciphered to `before`
unfoldable pub chain : List ℕ → List ℕ → ℕ → List ℕ → List ℕ
chain key before n text = joined (chained key before (blocks n text))

pub cbc-chain : (key iv text : List ℕ) (n : ℕ) → length text / 16 ≡ n → cbc key iv text ≡ chain key iv n text
unfolding cbc chain
cbc-chain key iv text n e = ap (λ (k : ℕ). chain key iv k text) e

pub chain-next : (key before text : List ℕ) (n : ℕ) (enciphered : List ℕ)
    → enciphered ≡ encrypt key (sum_of (take 16 text) before)
    → chain key before (suc n) text ≡ enciphered ++ chain key enciphered n (drop 16 text)
unfolding blocks chained joined chain
chain-next key before text n enciphered e =
    sym (ap (λ (t : List ℕ). t ++ chain key t n (drop 16 text)) e)

pub chain-none : (key before text : List ℕ) → chain key before 0 text ≡ []
unfolding blocks chained joined chain
chain-none key before text = refl

pub take-add : (m n : ℕ) (xs : List ℕ) → take (m + n) xs ≡ take m xs ++ take n (drop m xs)
take-add zero n xs = ap (λ (k : ℕ). take k xs) (let z : 0 + n ≡ n = omega arith in z)
take-add (suc m) n [] = ap (λ (k : ℕ). take k (let e : List ℕ = [] in e)) (let z : suc m + n ≡ suc (m + n) = omega arith in z) ∙ sym (none n)
  where
    none : (k : ℕ) → [] ++ take k (let e : List ℕ = [] in e) ≡ []
    none zero = refl
    none (suc k) = refl
take-add (suc m) n (x ∷ xs) =
    ap (λ (k : ℕ). take k (x ∷ xs)) (let z : suc m + n ≡ suc (m + n) = omega arith in z)
    ∙ ap (λ (t : List ℕ). x ∷ t) (take-add m n xs)

-- one block more is enciphered in place of the text's
pub enciphered_more : (key text now after before block enciphered whole : List ℕ) (i count : ℕ) → i < count
    → take (16 * i) now ++ chain key before (count - i) (drop (16 * i) text) ≡ whole
    → drop (16 * i) now ≡ drop (16 * i) text
    → block ≡ take 16 (drop (16 * i) now) → enciphered ≡ encrypt key (sum_of block before)
    → take (16 * (i + 1)) after ≡ take (16 * i) now ++ enciphered
    → take (16 * (i + 1)) after ++ chain key enciphered (count - (i + 1)) (drop (16 * (i + 1)) text) ≡ whole
enciphered_more key text now after before block enciphered whole i count h done rest is made front =
    let left : count - i ≡ suc (count - (i + 1)) = omega arith in
    let place : 16 * i + 16 ≡ 16 * (i + 1) = omega arith in
    let made_of : enciphered ≡ encrypt key (sum_of (take 16 (drop (16 * i) text)) before)
    = made ∙ ap (λ (t : List ℕ). encrypt key (sum_of t before)) (is ∙ ap (take 16) rest) in
    let next : chain key before (count - i) (drop (16 * i) text)
    ≡ enciphered ++ chain key enciphered (count - (i + 1)) (drop (16 * (i + 1)) text)
    = ap (λ (n : ℕ). chain key before n (drop (16 * i) text)) left
    ∙ chain-next key before (drop (16 * i) text) (count - (i + 1)) enciphered made_of
    ∙ ap (λ (t : List ℕ). enciphered ++ chain key enciphered (count - (i + 1)) t)
    (drop-drop 16 (16 * i) text ∙ ap (λ (n : ℕ). drop n text) place) in
    ap (λ (t : List ℕ). t ++ chain key enciphered (count - (i + 1)) (drop (16 * (i + 1)) text)) front
    ∙ append_assoc (take (16 * i) now) enciphered (chain key enciphered (count - (i + 1)) (drop (16 * (i + 1)) text))
    ∙ ap (λ (t : List ℕ). take (16 * i) now ++ t) (sym next)
    ∙ done

-- with all blocks enciphered
pub enciphered_all : (key text now before whole : List ℕ) (i count : ℕ) → i ≡ count → length now ≤ 16 * count
    → take (16 * i) now ++ chain key before (count - i) (drop (16 * i) text) ≡ whole → now ≡ whole
enciphered_all key text now before whole i count end len done =
    let none : count - i ≡ 0 = omega arith in
    sym (
    ap (λ (t : List ℕ). t ++ chain key before (count - i) (drop (16 * i) text)) (take_all (16 * i) now (omega arith))
    ∙ ap (λ (n : ℕ). now ++ chain key before n (drop (16 * i) text)) none
    ∙ ap (λ (t : List ℕ). now ++ t) (chain-none key before (drop (16 * i) text))
    ∙ append-nil now
    )
    ∙ done

-- the front of the room has the text of the first i blocks that stood at `from`: whatever follows it
-- is chained as behind the last of these
abbrev pub Deciphered : List ℕ → List ℕ → List ℕ → List ℕ → List ℕ → ℕ → Type 0
Deciphered key iv ciphertext before front i =
    (n : ℕ) (rest : List ℕ)
    → chain key iv (i + n) (front ++ rest) ≡ take (16 * i) ciphertext ++ chain key before n rest

pub deciphered_none : (key iv ciphertext : List ℕ) → Deciphered key iv ciphertext iv [] 0
deciphered_none key iv ciphertext n rest = ap (λ (k : ℕ). chain key iv k rest) (let z : 0 + n ≡ n = omega arith in z)

pub deciphered_more : (key iv ciphertext before front block enciphered : List ℕ) (i : ℕ) → length block ≡ 16
    → Deciphered key iv ciphertext before front i
    → enciphered ≡ take 16 (drop (16 * i) ciphertext)
    → encrypt key (sum_of block before) ≡ enciphered
    → Deciphered key iv ciphertext enciphered (front ++ block) (i + 1)
deciphered_more key iv ciphertext before front block enciphered i len done is made n rest =
    let count : i + 1 + n ≡ i + suc n = omega arith in
    let place : 16 * i + 16 ≡ 16 * (i + 1) = omega arith in
    let made_of : enciphered ≡ encrypt key (sum_of (take 16 (block ++ rest)) before)
    = sym (ap (λ (t : List ℕ). encrypt key (sum_of t before)) (take_at block rest 16 len) ∙ made) in
    ap (λ (k : ℕ). chain key iv k (front ++ block ++ rest)) count
    ∙ ap (λ (t : List ℕ). chain key iv (i + suc n) t) (append_assoc front block rest)
    ∙ done (suc n) (block ++ rest)
    ∙ ap (λ (t : List ℕ). take (16 * i) ciphertext ++ t)
    (chain-next key before (block ++ rest) n enciphered made_of
    ∙ ap (λ (t : List ℕ). enciphered ++ chain key enciphered n t) (drop_at block rest 16 len))
    ∙ sym (append_assoc (take (16 * i) ciphertext) enciphered (chain key enciphered n rest))
    ∙ ap (λ (t : List ℕ). t ++ chain key enciphered n rest)
    (ap (λ (t : List ℕ). take (16 * i) ciphertext ++ t) is
    ∙ sym (take-add (16 * i) 16 ciphertext)
    ∙ ap (λ (k : ℕ). take k ciphertext) place)

pub deciphered_all : (key iv ciphertext before front : List ℕ) (i count : ℕ) → i ≡ count → length front ≡ 16 * count
    → Deciphered key iv ciphertext before front i
    → cbc key iv front ≡ take (16 * count) ciphertext
deciphered_all key iv ciphertext before front i count end len done =
    let size : length front / 16 ≡ count = omega arith in
    let more : count ≡ i + 0 = omega arith in
    let same : 16 * i ≡ 16 * count = omega arith in
    cbc-chain key iv front count size
    ∙ ap (λ (k : ℕ). chain key iv k front) more
    ∙ ap (λ (t : List ℕ). chain key iv (i + 0) t) (sym (append-nil front))
    ∙ done 0 []
    ∙ ap (λ (t : List ℕ). take (16 * i) ciphertext ++ t) (chain-none key before [])
    ∙ append-nil (take (16 * i) ciphertext)
    ∙ ap (λ (k : ℕ). take k ciphertext) same

-- one block further on
pub drop-add : (at i : ℕ) (xs : List ℕ) → at ≡ 16 * i → drop 16 (drop at xs) ≡ drop (16 * (i + 1)) xs
drop-add at i xs e =
    let place : at + 16 ≡ 16 * (i + 1) = omega arith in drop-drop 16 at xs ∙ ap (λ (n : ℕ). drop n xs) place
