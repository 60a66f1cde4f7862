-- A text opens to one plain text at most, and not where it has a fault.
use Rattle.std.proofs.Common.{◌≡◌, ℕ, zero, suc, ◌+◌, ◌-◌, ◌*◌, ◌/◌, ◌%◌, ◌^◌, ◌<◌, ◌≤◌, List, [], ◌∷◌, ◌++◌, length, get_or, take, drop, replicate, arith, refl, sym, ap, subst, ◌∙◌, append_assoc, Result, Ok, Err}
use Rattle.std.specs.Prelude.{slice_index, IfOk, IfErr, OnErr}
use Rattle.std.specs.Int.{w32, w64, to_be_bytes, bytes_high_first, byte_at}
use Rattle.std.proofs.lemmas.List.{take_at, drop_at, drop-drop, length-take, length-drop, length-append, length-replicate, take-append-drop, take-append-le}
use Rattle.base64.specs.GeneralPurpose.{IsBytes}
use Rattle.sha2.specs.Sha256.{sha256, digest_bytes}
use Rattle.sha2.proofs.Facts256.{length-sha256}
use Rattle.kms_aes.specs.Field.{sum_of}
use Rattle.kms_aes.specs.Cipher.{IsBytes as IsCountedBytes, IsBlock, encrypt}
use Rattle.kms_aes.proofs.States.{sum_of-twice}
use Rattle.kms_aes.proofs.ByteLists.{sum_bytes, encrypt_block}
use Rattle.kms_aes.proofs.Uniqueness.{encrypt-apart}
use Rattle.kms_fernet.specs.Hmac.{hmac}
use Rattle.kms_fernet.specs.Cbc.{cbc, padded, padding_len, EndsInPadding}
use Rattle.kms_fernet.specs.Key.{signing_key, enciphering_key, IsBase64url, IsNoBase64url}
use Rattle.kms_fernet.specs.Token.{signed_part, token_bytes, Opens, OpensToOne, OpensToNone, IsFramed, IsDeciphered, OpensBytes, IsBytesFault, IsFault, IsToken, moment_of, iv_of, ciphertext_len, ciphertext_of, signed_of, tag_of}
use Rattle.kms_fernet.specs.Laws.{TokenHasParts}
use Rattle.kms_fernet.specs.declared.open_fault.OpenFault.{OpenFault}
use Rattle.kms_fernet.specs.declared.open_fault.OpenFault.TheVariants.{Base64, Short, Version, Length, Mac, Padding, NoMemory}
use Rattle.kms_fernet.proofs.CbcLaws.{chain, chain-next, chain-none, cbc-chain}
use Rattle.kms_fernet.proofs.PaddingLaws.{last_is_count}
use Rattle.kms_fernet.proofs.KeyLaws.{one_base64url}
use Rattle.kms_fernet.proofs.OpenLaws.{take_bytes, drop_bytes}

pub append_bytes : (xs ys : List ℕ) → IsBytes xs → IsBytes ys → IsBytes (xs ++ ys)
append_bytes [] ys hx hy i = hy i
append_bytes (x ∷ xs) ys hx hy zero = hx 0
append_bytes (x ∷ xs) ys hx hy (suc i) = append_bytes xs ys (λ j. hx (suc j)) hy i

pub push_byte : (x : ℕ) (xs : List ℕ) → x < 256 → IsBytes xs → IsBytes (x ∷ xs)
push_byte x xs h hs zero = h
push_byte x xs h hs (suc i) = hs i

pub none_bytes : IsBytes []
none_bytes i = omega arith

below : (a : ℕ) → a % 256 < 256
below a = omega arith

byte_fits : (k n : ℕ) → byte_at k n < 256
byte_fits zero n = omega arith
byte_fits (suc k) n = below (n / 256 ^ suc k)

-- the last k bytes of a number, high first
low_bytes : (k n : ℕ) → IsBytes (bytes_high_first k n)
low_bytes zero n = none_bytes
low_bytes (suc k) n = push_byte (byte_at k n) (bytes_high_first k n) (byte_fits k n) (low_bytes k n)

word_bytes : (n : ℕ) → IsBytes (to_be_bytes w32 n)
word_bytes n = low_bytes 4 n

clock_bytes : (n : ℕ) → IsBytes (to_be_bytes w64 n)
clock_bytes n = low_bytes 8 n

digest_fits : (h : List ℕ) (n : ℕ) → IsBytes (digest_bytes h n)
unfolding digest_bytes
digest_fits h zero = none_bytes
digest_fits h (suc n) = append_bytes (digest_bytes h n) (to_be_bytes w32 (slice_index h n)) (digest_fits h n) (word_bytes (slice_index h n))

hmac_bytes : (key text : List ℕ) → IsCountedBytes 32 (hmac key text)
unfolding hmac sha256
hmac_bytes key text = record { len = length-sha256 _; fits = digest_fits _ 8 }

filled_bytes : (n v : ℕ) → v < 256 → IsBytes (replicate n v)
filled_bytes zero v h i = omega arith
filled_bytes (suc n) v h zero = h
filled_bytes (suc n) v h (suc i) = filled_bytes n v h i

padded_bytes : (plain : List ℕ) → IsBytes plain → IsBytes (padded plain)
unfolding padded
padded_bytes plain h = append_bytes plain _ h (filled_bytes (padding_len (length plain)) (padding_len (length plain)) (omega arith))

pub length-padded : (plain : List ℕ) → length (padded plain) ≡ length plain + padding_len (length plain)
unfolding padded
length-padded plain =
    let a = length-append plain (replicate (padding_len (length plain)) (padding_len (length plain))) in
    let b = length-replicate (padding_len (length plain)) (padding_len (length plain)) in
    omega arith

-- the padding of a padded text
padded_ends : (plain : List ℕ) → EndsInPadding (padded plain) (padding_len (length plain))
unfolding padded
padded_ends plain =
    let count = padding_len (length plain) in
    let all = length-padded plain in
    let at : length plain ≡ length (plain ++ replicate count count) - count = omega arith in
    record {
      least = omega arith;
      most = omega arith;
      bytes = drop_at plain (replicate count count) (length (plain ++ replicate count count) - count) at;
    }

padded_front : (plain : List ℕ) → take (length (padded plain) - padding_len (length plain)) (padded plain) ≡ plain
unfolding padded
padded_front plain =
    let count = padding_len (length plain) in
    let all = length-padded plain in
    let at : length plain ≡ length (plain ++ replicate count count) - count = omega arith in
    take_at plain (replicate count count) (length (plain ++ replicate count count) - count) at

block_of : (text : List ℕ) → 16 ≤ length text → IsBytes text → IsBlock (take 16 text)
block_of text h fits = record { len = let t = length-take 16 text in omega arith; fits = take_bytes 16 text fits }

-- a ciphertext is as long as its text, and its elements are bytes
chain_bytes : (key before text : List ℕ) (n : ℕ) → IsBlock key → IsBlock before → 16 * n ≤ length text → IsBytes text
    → IsCountedBytes (16 * n) (chain key before n text)
chain_bytes key before text zero hk hb len fits =
    subst (IsCountedBytes 0) (sym (chain-none key before text)) record { len = refl; fits = none_bytes }
chain_bytes key before text (suc n) hk hb len fits =
    let block = sum_bytes 16 (take 16 text) before (block_of text (omega arith) fits) hb in
    let enciphered = encrypt_block key (sum_of (take 16 text) before) hk block in
    let left = length-drop 16 text in
    let rest = chain_bytes key (encrypt key (sum_of (take 16 text) before)) (drop 16 text) n hk enciphered (omega arith) (drop_bytes 16 text fits) in
    let both = length-append (encrypt key (sum_of (take 16 text) before)) (chain key (encrypt key (sum_of (take 16 text) before)) n (drop 16 text)) in
    let a = enciphered.len in
    let b = rest.len in
    subst (IsCountedBytes (16 * suc n)) (sym (chain-next key before text n (encrypt key (sum_of (take 16 text) before)) refl))
    record { len = omega arith; fits = append_bytes _ _ enciphered.fits rest.fits }

-- two texts with one ciphertext are one
chain-apart : (key before a b : List ℕ) (n : ℕ) → IsBlock key → IsBlock before → length a ≡ 16 * n → length b ≡ 16 * n
    → IsBytes a → IsBytes b → chain key before n a ≡ chain key before n b → a ≡ b
chain-apart key before [] [] zero hk hb la lb fa fb e = refl
chain-apart key before (x ∷ a) b zero hk hb la lb fa fb e = absurd (omega arith)
chain-apart key before [] (x ∷ b) zero hk hb la lb fa fb e = absurd (omega arith)
chain-apart key before a b (suc n) hk hb la lb fa fb e =
    let block_a = block_of a (omega arith) fa in
    let block_b = block_of b (omega arith) fb in
    let sum_a = sum_bytes 16 (take 16 a) before block_a hb in
    let sum_b = sum_bytes 16 (take 16 b) before block_b hb in
    let first_a = encrypt key (sum_of (take 16 a) before) in
    let first_b = encrypt key (sum_of (take 16 b) before) in
    let enciphered_a = encrypt_block key (sum_of (take 16 a) before) hk sum_a in
    let enciphered_b = encrypt_block key (sum_of (take 16 b) before) hk sum_b in
    let whole : first_a ++ chain key first_a n (drop 16 a) ≡ first_b ++ chain key first_b n (drop 16 b)
    = sym (chain-next key before a n first_a refl) ∙ e ∙ chain-next key before b n first_b refl in
    let same_first : first_a ≡ first_b
    = sym (take_at first_a (chain key first_a n (drop 16 a)) 16 enciphered_a.len)
    ∙ ap (take 16) whole ∙ take_at first_b (chain key first_b n (drop 16 b)) 16 enciphered_b.len in
    let same_rest : chain key first_a n (drop 16 a) ≡ chain key first_a n (drop 16 b)
    = sym (drop_at first_a (chain key first_a n (drop 16 a)) 16 enciphered_a.len)
    ∙ ap (drop 16) whole ∙ drop_at first_b (chain key first_b n (drop 16 b)) 16 enciphered_b.len
    ∙ ap (λ (t : List ℕ). chain key t n (drop 16 b)) (sym same_first) in
    let same_sum : sum_of (take 16 a) before ≡ sum_of (take 16 b) before
    = encrypt-apart key (sum_of (take 16 a) before) (sum_of (take 16 b) before) hk sum_a sum_b same_first in
    let lens_a = block_a.len in
    let lens_b = block_b.len in
    let lens = hb.len in
    let front : take 16 a ≡ take 16 b
    = sym (sum_of-twice (take 16 a) before (omega arith)) ∙ ap (λ (t : List ℕ). sum_of t before) same_sum
    ∙ sum_of-twice (take 16 b) before (omega arith) in
    let left_a = length-drop 16 a in
    let left_b = length-drop 16 b in
    let rest : drop 16 a ≡ drop 16 b
    = chain-apart key first_a (drop 16 a) (drop 16 b) n hk enciphered_a (omega arith) (omega arith)
    (drop_bytes 16 a fa) (drop_bytes 16 b fb) same_rest in
    sym (take-append-drop 16 a) ∙ ap (λ (t : List ℕ). t ++ drop 16 a) front ∙ ap (λ (t : List ℕ). take 16 b ++ t) rest
    ∙ take-append-drop 16 b

cbc-apart : (key iv a b : List ℕ) → IsBlock key → IsBlock iv → length a ≡ length b → length a % 16 ≡ 0
    → IsBytes a → IsBytes b → cbc key iv a ≡ cbc key iv b → a ≡ b
cbc-apart key iv a b hk hi len whole fa fb e =
    chain-apart key iv a b (length a / 16) hk hi (omega arith) (omega arith) fa fb
    (sym (cbc-chain key iv a (length a / 16) refl) ∙ e
    ∙ cbc-chain key iv b (length a / 16) (let f : length b / 16 ≡ length a / 16 = omega arith in f))

cbc_bytes : (key iv text : List ℕ) → IsBlock key → IsBlock iv → length text % 16 ≡ 0 → IsBytes text
    → IsCountedBytes (length text) (cbc key iv text)
cbc_bytes key iv text hk hi whole fits =
    let size : 16 * (length text / 16) ≡ length text = omega arith in
    subst (IsCountedBytes (length text)) (sym (cbc-chain key iv text (length text / 16) refl))
    (subst (λ (n : ℕ). IsCountedBytes n (chain key iv (length text / 16) text)) size
    (chain_bytes key iv text (length text / 16) hk hi (omega arith) fits))

-- what stands in bytes that are put together as those of a token
record HasParts (moment : ℕ) (raw iv ciphertext signed tag : List ℕ) : Type 0 where
  len : length raw ≡ 57 + length ciphertext
  version : slice_index raw 0 ≡ 0x80
  moment_is : moment_of raw ≡ to_be_bytes w64 moment
  iv_is : iv_of raw ≡ iv
  ciphertext_is : ciphertext_of raw ≡ ciphertext
  signed_is : signed_of raw ≡ signed
  tag_is : tag_of raw ≡ tag

has_parts : (moment : ℕ) (iv ciphertext tag : List ℕ) → length iv ≡ 16 → length tag ≡ 32
    → HasParts moment (signed_part moment iv ciphertext ++ tag) iv ciphertext (signed_part moment iv ciphertext) tag
unfolding signed_part
has_parts moment iv ciphertext tag hi ht =
    let clock = to_be_bytes w64 moment in
    let signed = 0x80 ∷ clock ++ iv ++ ciphertext in
    let raw = signed ++ tag in
    let a = length-append (clock ++ iv) ciphertext in
    let b = length-append clock iv in
    let d = length-append signed tag in
    let eight : length clock ≡ 8 = refl in
    let signed_len : length signed ≡ 25 + length ciphertext = omega arith in
    let all : length raw ≡ 57 + length ciphertext = omega arith in
    let end : length raw - 32 ≡ length signed = omega arith in
    let size : ciphertext_len raw ≡ length ciphertext = omega arith in
    let head : drop 9 raw ≡ iv ++ (ciphertext ++ tag)
    = drop-append-le-9 clock iv ciphertext tag eight in
    record {
      len = all;
      version = refl;
      moment_is = ap (take 8) (whole clock iv ciphertext tag) ∙ take_at clock (iv ++ (ciphertext ++ tag)) 8 eight;
      iv_is = ap (take 16) head ∙ take_at iv (ciphertext ++ tag) 16 hi;
      ciphertext_is =
          ap (take (ciphertext_len raw)) (sym (drop-drop 16 9 raw) ∙ ap (drop 16) head ∙ drop_at iv (ciphertext ++ tag) 16 hi)
          ∙ take_at ciphertext tag (ciphertext_len raw) (sym size);
      signed_is = take_at signed tag (length raw - 32) (sym end);
      tag_is = drop_at signed tag (length raw - 32) (sym end);
    }
  where
    whole : (clock iv ciphertext tag : List ℕ) → clock ++ iv ++ ciphertext ++ tag ≡ clock ++ (iv ++ (ciphertext ++ tag))
    whole clock iv ciphertext tag = append_assoc (clock ++ iv) ciphertext tag ∙ append_assoc clock iv (ciphertext ++ tag)

    drop-append-le-9 : (clock iv ciphertext tag : List ℕ) → length clock ≡ 8
        → drop 8 (clock ++ iv ++ ciphertext ++ tag) ≡ iv ++ (ciphertext ++ tag)
    drop-append-le-9 clock iv ciphertext tag e =
        ap (drop 8) (whole clock iv ciphertext tag)
        ∙ drop_at clock (iv ++ (ciphertext ++ tag)) 8 e

-- the bytes of a token have its parts
record IsSealed (key text plain : List ℕ) : Type 0 where
  raw : List ℕ
  read : IsBase64url text raw
  opens : OpensBytes key raw plain
  padded_is : opens.deciphered ≡ padded plain

pub half : (key : List ℕ) → IsCountedBytes 32 key → IsBlock (enciphering_key key)
half key h = record { len = let d = length-drop 16 key in let l = h.len in omega arith; fits = drop_bytes 16 key h.fits }

signed_bytes : (moment : ℕ) (iv ciphertext : List ℕ) → IsBytes iv → IsBytes ciphertext → IsBytes (signed_part moment iv ciphertext)
unfolding signed_part
signed_bytes moment iv ciphertext hi hc =
    push_byte 0x80 (to_be_bytes w64 moment ++ iv ++ ciphertext) (omega arith) (append_bytes (to_be_bytes w64 moment ++ iv) ciphertext
    (append_bytes (to_be_bytes w64 moment) iv (clock_bytes moment) hi) hc)

sealed : (key text plain : List ℕ) → IsCountedBytes 32 key → Opens key text plain → IsSealed key text plain
unfolding token_bytes
sealed key text plain hk o =
    let ciphertext = cbc (enciphering_key key) o.iv (padded plain) in
    let signed = signed_part o.moment o.iv ciphertext in
    let tag = hmac (signing_key key) signed in
    let raw = signed ++ tag in
    let all = length-padded plain in
    let whole : length (padded plain) % 16 ≡ 0 = omega arith in
    let text_bytes = padded_bytes plain o.plain_fits in
    let enciphered = cbc_bytes (enciphering_key key) o.iv (padded plain) (half key hk) o.iv_fits whole text_bytes in
    let tagged = hmac_bytes (signing_key key) signed in
    let parts = has_parts o.moment o.iv ciphertext tag o.iv_fits.len tagged.len in
    let len = parts.len in
    let size = enciphered.len in
    let signed_fits : IsBytes signed = signed_bytes o.moment o.iv ciphertext o.iv_fits.fits enciphered.fits in
    record {
      raw = raw;
      read = record { fits = append_bytes signed tag signed_fits tagged.fits; spelled = o.token };
      opens = record {
        framed = record { long = omega arith; version = parts.version; whole = omega arith };
        signed = parts.tag_is ∙ ap (hmac (signing_key key)) (sym parts.signed_is);
        deciphered = padded plain;
        is_deciphered = record {
          fits = text_bytes;
          len = omega arith;
          enciphered = ap (λ (t : List ℕ). cbc (enciphering_key key) t (padded plain)) parts.iv_is ∙ sym parts.ciphertext_is;
        };
        count = padding_len (length plain);
        padding = padded_ends plain;
        front = sym (padded_front plain);
      };
      padded_is = refl;
    }

-- the parts of a token's bytes are those that it was sealed with
pub token_parts : (key plain iv text : List ℕ) (moment : ℕ) → IsCountedBytes 32 key → IsBytes plain → IsBlock iv
    → IsToken key moment iv plain text → TokenHasParts text moment iv plain
unfolding token_bytes
token_parts key plain iv text moment hk hp hi token =
    let ciphertext = cbc (enciphering_key key) iv (padded plain) in
    let signed = signed_part moment iv ciphertext in
    let tag = hmac (signing_key key) signed in
    let all = length-padded plain in
    let whole : length (padded plain) % 16 ≡ 0 = omega arith in
    let enciphered = cbc_bytes (enciphering_key key) iv (padded plain) (half key hk) hi whole (padded_bytes plain hp) in
    let tagged = hmac_bytes (signing_key key) signed in
    let parts = has_parts moment iv ciphertext tag hi.len tagged.len in
    let signed_fits : IsBytes signed = signed_bytes moment iv ciphertext hi.fits enciphered.fits in
    record {
      raw = signed ++ tag;
      read = record { fits = append_bytes signed tag signed_fits tagged.fits; spelled = token };
      moment_is = parts.moment_is;
      iv_is = parts.iv_is;
      len = parts.len ∙ ap (λ (n : ℕ). 57 + n) enciphered.len;
    }

pub iv_block : (raw : List ℕ) → IsBytes raw → 73 ≤ length raw → IsBlock (iv_of raw)
iv_block raw fits long = record {
  len = let a = length-take 16 (drop 9 raw) in let b = length-drop 9 raw in omega arith;
  fits = take_bytes 16 (drop 9 raw) (drop_bytes 9 raw fits);
}

-- a ciphertext is that of one text
one_deciphered : (key raw a b : List ℕ) → IsCountedBytes 32 key → IsBytes raw → IsFramed raw
    → IsDeciphered key raw a → IsDeciphered key raw b → a ≡ b
one_deciphered key raw a b hk fits framed ha hb =
    let whole = framed.whole in
    let la = ha.len in
    let lb = hb.len in
    cbc-apart (enciphering_key key) (iv_of raw) a b (half key hk) (iv_block raw fits framed.long) (omega arith) (omega arith)
    ha.fits hb.fits (ha.enciphered ∙ sym hb.enciphered)

one_opened : (key raw a b : List ℕ) → IsCountedBytes 32 key → IsBytes raw → OpensBytes key raw a → OpensBytes key raw b → a ≡ b
one_opened key raw a b hk fits oa ob =
    let framed = oa.framed in
    let long = framed.long in
    let whole = framed.whole in
    let same = one_deciphered key raw oa.deciphered ob.deciphered hk fits framed oa.is_deciphered ob.is_deciphered in
    let la = oa.is_deciphered.len in
    let lb = ob.is_deciphered.len in
    let count : oa.count ≡ ob.count
    = sym (last_is_count oa.deciphered oa.count (omega arith) oa.padding)
    ∙ ap (λ (t : List ℕ). get_or t (length t - 1) 0) same
    ∙ last_is_count ob.deciphered ob.count (omega arith) ob.padding in
    oa.front
    ∙ ap (λ (t : List ℕ). take (length t - oa.count) t) same
    ∙ ap (λ (n : ℕ). take (length ob.deciphered - n) ob.deciphered) count
    ∙ sym ob.front

pub one_plain : (key text raw plain other : List ℕ) → IsCountedBytes 32 key → IsBase64url text raw → OpensBytes key raw plain
    → Opens key text other → other ≡ plain
one_plain key text raw plain other hk read of o =
    let s = sealed key text other hk o in
    let same = one_base64url text s.raw raw s.read read in
    one_opened key raw other plain hk read.fits (subst (λ (t : List ℕ). OpensBytes key t other) same s.opens) of

pub opens_once : (key text a b : List ℕ) → IsCountedBytes 32 key → Opens key text a → Opens key text b → a ≡ b
opens_once key text a b hk oa ob =
    let s = sealed key text b hk ob in one_plain key text s.raw b a hk s.read s.opens oa

-- the bytes of a text that opens
opened : (key text raw plain : List ℕ) → IsCountedBytes 32 key → IsBase64url text raw → Opens key text plain → OpensBytes key raw plain
opened key text raw plain hk read o =
    let s = sealed key text plain hk o in
    subst (λ (t : List ℕ). OpensBytes key t plain) (one_base64url text s.raw raw s.read read) s.opens

bytes_fault_closes : (key text raw plain : List ℕ) (fault : OpenFault) → IsCountedBytes 32 key → IsBase64url text raw
    → IsBytesFault key raw fault → OpensBytes key raw plain → ⊥
bytes_fault_closes key text raw plain Base64 hk read f of = f
bytes_fault_closes key text raw plain Short hk read f of = let long = of.framed.long in omega arith
bytes_fault_closes key text raw plain Version hk read f of = f.1 of.framed.version
bytes_fault_closes key text raw plain Length hk read f of = f.2 of.framed.whole
bytes_fault_closes key text raw plain Mac hk read f of = f.1 of.signed
bytes_fault_closes key text raw plain Padding hk read f of =
    let same = one_deciphered key raw of.deciphered f.2.0 hk read.fits of.framed of.is_deciphered f.2.1 in
    f.2.2 of.count (subst (λ (t : List ℕ). EndsInPadding t of.count) same of.padding)
bytes_fault_closes key text raw plain NoMemory hk read f of = f

-- a text whose bytes have a fault opens to nothing
pub closed_by_bytes : (key text raw : List ℕ) (fault : OpenFault) → IsCountedBytes 32 key → IsBase64url text raw
    → IsBytesFault key raw fault → OpensToNone key text
closed_by_bytes key text raw fault hk read f plain o =
    bytes_fault_closes key text raw plain fault hk read f (opened key text raw plain hk read o)

-- and one that is no base64url
pub closed_by_text : (key text : List ℕ) → IsCountedBytes 32 key → IsNoBase64url text → OpensToNone key text
closed_by_text key text hk none plain o = let s = sealed key text plain hk o in none s.raw s.read

pub fault_closes : (key text : List ℕ) (fault : OpenFault) → IsCountedBytes 32 key → IsFault key text fault → OpensToNone key text
fault_closes key text Base64 hk f = closed_by_text key text hk f
fault_closes key text Short hk f = closed_by_bytes key text f.0 Short hk f.1 f.2
fault_closes key text Version hk f = closed_by_bytes key text f.0 Version hk f.1 f.2
fault_closes key text Length hk f = closed_by_bytes key text f.0 Length hk f.1 f.2
fault_closes key text Mac hk f = closed_by_bytes key text f.0 Mac hk f.1 f.2
fault_closes key text Padding hk f = closed_by_bytes key text f.0 Padding hk f.1 f.2
fault_closes key text NoMemory hk f = closed_by_bytes key text f.0 NoMemory hk f.1 f.2

-- at the front of a room
pub only_front : (r : Result ℕ OpenFault) (key text raw now rest : List ℕ) → IsCountedBytes 32 key → IsBase64url text raw
    → IfOk r (λ n. n ≤ length now) → IfOk r (λ n. OpensBytes key raw (take n now))
    → IfOk r (λ n. OpensToOne key text (take n (now ++ rest)))
only_front (Ok n) key text raw now rest hk read within of =
    λ other o. one_plain key text raw (take n now) other hk read of o ∙ sym (take-append-le n now rest within)
only_front (Err e) key text raw now rest hk read within of = tt

pub none_front : (r : Result ℕ OpenFault) (key text raw : List ℕ) → IsCountedBytes 32 key → IsBase64url text raw
    → IfErr r (IsBytesFault key raw) → OnErr r (OpensToNone key text)
none_front (Ok n) key text raw hk read f = tt
none_front (Err e) key text raw hk read f = closed_by_bytes key text raw e hk read f

-- two faults of the same bytes are one
same_bytes_fault : (key raw : List ℕ) (f g : OpenFault) → IsBytesFault key raw f → IsBytesFault key raw g → f ≡ g
same_bytes_fault key raw Base64 Base64 hf hg = absurd hf
same_bytes_fault key raw Base64 Short hf hg = absurd hf
same_bytes_fault key raw Base64 Version hf hg = absurd hf
same_bytes_fault key raw Base64 Length hf hg = absurd hf
same_bytes_fault key raw Base64 Mac hf hg = absurd hf
same_bytes_fault key raw Base64 Padding hf hg = absurd hf
same_bytes_fault key raw Base64 NoMemory hf hg = absurd hf
same_bytes_fault key raw Short Base64 hf hg = absurd hg
same_bytes_fault key raw Short Short hf hg = refl
same_bytes_fault key raw Short Version hf hg = absurd (let l = hg.0 in omega arith)
same_bytes_fault key raw Short Length hf hg = absurd (let l = hg.0 in omega arith)
same_bytes_fault key raw Short Mac hf hg = absurd (let l = hg.0.long in omega arith)
same_bytes_fault key raw Short Padding hf hg = absurd (let l = hg.0.long in omega arith)
same_bytes_fault key raw Short NoMemory hf hg = absurd hg
same_bytes_fault key raw Version Base64 hf hg = absurd hg
same_bytes_fault key raw Version Short hf hg = absurd (let l = hf.0 in omega arith)
same_bytes_fault key raw Version Version hf hg = refl
same_bytes_fault key raw Version Length hf hg = absurd (hf.1 hg.1)
same_bytes_fault key raw Version Mac hf hg = absurd (hf.1 hg.0.version)
same_bytes_fault key raw Version Padding hf hg = absurd (hf.1 hg.0.version)
same_bytes_fault key raw Version NoMemory hf hg = absurd hg
same_bytes_fault key raw Length Base64 hf hg = absurd hg
same_bytes_fault key raw Length Short hf hg = absurd (let l = hf.0 in omega arith)
same_bytes_fault key raw Length Version hf hg = absurd (hg.1 hf.1)
same_bytes_fault key raw Length Length hf hg = refl
same_bytes_fault key raw Length Mac hf hg = absurd (hf.2 hg.0.whole)
same_bytes_fault key raw Length Padding hf hg = absurd (hf.2 hg.0.whole)
same_bytes_fault key raw Length NoMemory hf hg = absurd hg
same_bytes_fault key raw Mac Base64 hf hg = absurd hg
same_bytes_fault key raw Mac Short hf hg = absurd (let l = hf.0.long in omega arith)
same_bytes_fault key raw Mac Version hf hg = absurd (hg.1 hf.0.version)
same_bytes_fault key raw Mac Length hf hg = absurd (hg.2 hf.0.whole)
same_bytes_fault key raw Mac Mac hf hg = refl
same_bytes_fault key raw Mac Padding hf hg = absurd (hf.1 hg.1)
same_bytes_fault key raw Mac NoMemory hf hg = absurd hg
same_bytes_fault key raw Padding Base64 hf hg = absurd hg
same_bytes_fault key raw Padding Short hf hg = absurd (let l = hf.0.long in omega arith)
same_bytes_fault key raw Padding Version hf hg = absurd (hg.1 hf.0.version)
same_bytes_fault key raw Padding Length hf hg = absurd (hg.2 hf.0.whole)
same_bytes_fault key raw Padding Mac hf hg = absurd (hg.1 hf.1)
same_bytes_fault key raw Padding Padding hf hg = refl
same_bytes_fault key raw Padding NoMemory hf hg = absurd hg
same_bytes_fault key raw NoMemory Base64 hf hg = absurd hf
same_bytes_fault key raw NoMemory Short hf hg = absurd hf
same_bytes_fault key raw NoMemory Version hf hg = absurd hf
same_bytes_fault key raw NoMemory Length hf hg = absurd hf
same_bytes_fault key raw NoMemory Mac hf hg = absurd hf
same_bytes_fault key raw NoMemory Padding hf hg = absurd hf
same_bytes_fault key raw NoMemory NoMemory hf hg = absurd hf

-- the fault of a text is one
pub one_fault : (key text : List ℕ) (f g : OpenFault) → IsFault key text f → IsFault key text g → f ≡ g
one_fault key text Base64 Base64 hf hg = refl
one_fault key text Base64 Short hf hg = absurd (hf hg.0 hg.1)
one_fault key text Base64 Version hf hg = absurd (hf hg.0 hg.1)
one_fault key text Base64 Length hf hg = absurd (hf hg.0 hg.1)
one_fault key text Base64 Mac hf hg = absurd (hf hg.0 hg.1)
one_fault key text Base64 Padding hf hg = absurd (hf hg.0 hg.1)
one_fault key text Base64 NoMemory hf hg = absurd (hf hg.0 hg.1)
one_fault key text Short Base64 hf hg = absurd (hg hf.0 hf.1)
one_fault key text Short Short hf hg = same_bytes_fault key hf.0 Short Short hf.2 (subst (λ (t : List ℕ). IsBytesFault key t Short) (one_base64url text hg.0 hf.0 hg.1 hf.1) hg.2)
one_fault key text Short Version hf hg = same_bytes_fault key hf.0 Short Version hf.2 (subst (λ (t : List ℕ). IsBytesFault key t Version) (one_base64url text hg.0 hf.0 hg.1 hf.1) hg.2)
one_fault key text Short Length hf hg = same_bytes_fault key hf.0 Short Length hf.2 (subst (λ (t : List ℕ). IsBytesFault key t Length) (one_base64url text hg.0 hf.0 hg.1 hf.1) hg.2)
one_fault key text Short Mac hf hg = same_bytes_fault key hf.0 Short Mac hf.2 (subst (λ (t : List ℕ). IsBytesFault key t Mac) (one_base64url text hg.0 hf.0 hg.1 hf.1) hg.2)
one_fault key text Short Padding hf hg = same_bytes_fault key hf.0 Short Padding hf.2 (subst (λ (t : List ℕ). IsBytesFault key t Padding) (one_base64url text hg.0 hf.0 hg.1 hf.1) hg.2)
one_fault key text Short NoMemory hf hg = same_bytes_fault key hf.0 Short NoMemory hf.2 (subst (λ (t : List ℕ). IsBytesFault key t NoMemory) (one_base64url text hg.0 hf.0 hg.1 hf.1) hg.2)
one_fault key text Version Base64 hf hg = absurd (hg hf.0 hf.1)
one_fault key text Version Short hf hg = same_bytes_fault key hf.0 Version Short hf.2 (subst (λ (t : List ℕ). IsBytesFault key t Short) (one_base64url text hg.0 hf.0 hg.1 hf.1) hg.2)
one_fault key text Version Version hf hg = same_bytes_fault key hf.0 Version Version hf.2 (subst (λ (t : List ℕ). IsBytesFault key t Version) (one_base64url text hg.0 hf.0 hg.1 hf.1) hg.2)
one_fault key text Version Length hf hg = same_bytes_fault key hf.0 Version Length hf.2 (subst (λ (t : List ℕ). IsBytesFault key t Length) (one_base64url text hg.0 hf.0 hg.1 hf.1) hg.2)
one_fault key text Version Mac hf hg = same_bytes_fault key hf.0 Version Mac hf.2 (subst (λ (t : List ℕ). IsBytesFault key t Mac) (one_base64url text hg.0 hf.0 hg.1 hf.1) hg.2)
one_fault key text Version Padding hf hg = same_bytes_fault key hf.0 Version Padding hf.2 (subst (λ (t : List ℕ). IsBytesFault key t Padding) (one_base64url text hg.0 hf.0 hg.1 hf.1) hg.2)
one_fault key text Version NoMemory hf hg = same_bytes_fault key hf.0 Version NoMemory hf.2 (subst (λ (t : List ℕ). IsBytesFault key t NoMemory) (one_base64url text hg.0 hf.0 hg.1 hf.1) hg.2)
one_fault key text Length Base64 hf hg = absurd (hg hf.0 hf.1)
one_fault key text Length Short hf hg = same_bytes_fault key hf.0 Length Short hf.2 (subst (λ (t : List ℕ). IsBytesFault key t Short) (one_base64url text hg.0 hf.0 hg.1 hf.1) hg.2)
one_fault key text Length Version hf hg = same_bytes_fault key hf.0 Length Version hf.2 (subst (λ (t : List ℕ). IsBytesFault key t Version) (one_base64url text hg.0 hf.0 hg.1 hf.1) hg.2)
one_fault key text Length Length hf hg = same_bytes_fault key hf.0 Length Length hf.2 (subst (λ (t : List ℕ). IsBytesFault key t Length) (one_base64url text hg.0 hf.0 hg.1 hf.1) hg.2)
one_fault key text Length Mac hf hg = same_bytes_fault key hf.0 Length Mac hf.2 (subst (λ (t : List ℕ). IsBytesFault key t Mac) (one_base64url text hg.0 hf.0 hg.1 hf.1) hg.2)
one_fault key text Length Padding hf hg = same_bytes_fault key hf.0 Length Padding hf.2 (subst (λ (t : List ℕ). IsBytesFault key t Padding) (one_base64url text hg.0 hf.0 hg.1 hf.1) hg.2)
one_fault key text Length NoMemory hf hg = same_bytes_fault key hf.0 Length NoMemory hf.2 (subst (λ (t : List ℕ). IsBytesFault key t NoMemory) (one_base64url text hg.0 hf.0 hg.1 hf.1) hg.2)
one_fault key text Mac Base64 hf hg = absurd (hg hf.0 hf.1)
one_fault key text Mac Short hf hg = same_bytes_fault key hf.0 Mac Short hf.2 (subst (λ (t : List ℕ). IsBytesFault key t Short) (one_base64url text hg.0 hf.0 hg.1 hf.1) hg.2)
one_fault key text Mac Version hf hg = same_bytes_fault key hf.0 Mac Version hf.2 (subst (λ (t : List ℕ). IsBytesFault key t Version) (one_base64url text hg.0 hf.0 hg.1 hf.1) hg.2)
one_fault key text Mac Length hf hg = same_bytes_fault key hf.0 Mac Length hf.2 (subst (λ (t : List ℕ). IsBytesFault key t Length) (one_base64url text hg.0 hf.0 hg.1 hf.1) hg.2)
one_fault key text Mac Mac hf hg = same_bytes_fault key hf.0 Mac Mac hf.2 (subst (λ (t : List ℕ). IsBytesFault key t Mac) (one_base64url text hg.0 hf.0 hg.1 hf.1) hg.2)
one_fault key text Mac Padding hf hg = same_bytes_fault key hf.0 Mac Padding hf.2 (subst (λ (t : List ℕ). IsBytesFault key t Padding) (one_base64url text hg.0 hf.0 hg.1 hf.1) hg.2)
one_fault key text Mac NoMemory hf hg = same_bytes_fault key hf.0 Mac NoMemory hf.2 (subst (λ (t : List ℕ). IsBytesFault key t NoMemory) (one_base64url text hg.0 hf.0 hg.1 hf.1) hg.2)
one_fault key text Padding Base64 hf hg = absurd (hg hf.0 hf.1)
one_fault key text Padding Short hf hg = same_bytes_fault key hf.0 Padding Short hf.2 (subst (λ (t : List ℕ). IsBytesFault key t Short) (one_base64url text hg.0 hf.0 hg.1 hf.1) hg.2)
one_fault key text Padding Version hf hg = same_bytes_fault key hf.0 Padding Version hf.2 (subst (λ (t : List ℕ). IsBytesFault key t Version) (one_base64url text hg.0 hf.0 hg.1 hf.1) hg.2)
one_fault key text Padding Length hf hg = same_bytes_fault key hf.0 Padding Length hf.2 (subst (λ (t : List ℕ). IsBytesFault key t Length) (one_base64url text hg.0 hf.0 hg.1 hf.1) hg.2)
one_fault key text Padding Mac hf hg = same_bytes_fault key hf.0 Padding Mac hf.2 (subst (λ (t : List ℕ). IsBytesFault key t Mac) (one_base64url text hg.0 hf.0 hg.1 hf.1) hg.2)
one_fault key text Padding Padding hf hg = same_bytes_fault key hf.0 Padding Padding hf.2 (subst (λ (t : List ℕ). IsBytesFault key t Padding) (one_base64url text hg.0 hf.0 hg.1 hf.1) hg.2)
one_fault key text Padding NoMemory hf hg = same_bytes_fault key hf.0 Padding NoMemory hf.2 (subst (λ (t : List ℕ). IsBytesFault key t NoMemory) (one_base64url text hg.0 hf.0 hg.1 hf.1) hg.2)
one_fault key text NoMemory Base64 hf hg = absurd (hg hf.0 hf.1)
one_fault key text NoMemory Short hf hg = same_bytes_fault key hf.0 NoMemory Short hf.2 (subst (λ (t : List ℕ). IsBytesFault key t Short) (one_base64url text hg.0 hf.0 hg.1 hf.1) hg.2)
one_fault key text NoMemory Version hf hg = same_bytes_fault key hf.0 NoMemory Version hf.2 (subst (λ (t : List ℕ). IsBytesFault key t Version) (one_base64url text hg.0 hf.0 hg.1 hf.1) hg.2)
one_fault key text NoMemory Length hf hg = same_bytes_fault key hf.0 NoMemory Length hf.2 (subst (λ (t : List ℕ). IsBytesFault key t Length) (one_base64url text hg.0 hf.0 hg.1 hf.1) hg.2)
one_fault key text NoMemory Mac hf hg = same_bytes_fault key hf.0 NoMemory Mac hf.2 (subst (λ (t : List ℕ). IsBytesFault key t Mac) (one_base64url text hg.0 hf.0 hg.1 hf.1) hg.2)
one_fault key text NoMemory Padding hf hg = same_bytes_fault key hf.0 NoMemory Padding hf.2 (subst (λ (t : List ℕ). IsBytesFault key t Padding) (one_base64url text hg.0 hf.0 hg.1 hf.1) hg.2)
one_fault key text NoMemory NoMemory hf hg = same_bytes_fault key hf.0 NoMemory NoMemory hf.2 (subst (λ (t : List ℕ). IsBytesFault key t NoMemory) (one_base64url text hg.0 hf.0 hg.1 hf.1) hg.2)
