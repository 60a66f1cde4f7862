-- The rounds one after another, forward and back.
use Rattle.std.proofs.Common.{◌≡◌, ℕ, zero, suc, ◌+◌, ◌-◌, ◌<◌, ◌≤◌, List, [], get_or, arith, refl, sym, ap, ◌∙◌, add-one}
use Rattle.kms_aes.specs.Field.{sum_of}
use Rattle.kms_aes.specs.KeyExpansion.{round_key, IsSchedule}
use Rattle.kms_aes.specs.Cipher.{sub_bytes, shift_rows, mix_columns, full_round, after_rounds, last_round, encrypt}

-- a schedule that begins with a key is that key's
pub key_of_round : (key : List ℕ) (keys : List (List ℕ)) → get_or keys 0 [] ≡ key → IsSchedule (get_or keys 0 []) keys
    → (round : ℕ) → round < 11 → get_or keys round [] ≡ round_key key round
key_of_round key keys first all round h = all round h ∙ ap (λ (t : List ℕ). round_key t round) first

pub after_rounds-none : (key block s : List ℕ) → s ≡ sum_of block (round_key key 0) → s ≡ after_rounds key block 0
unfolding after_rounds
after_rounds-none key block s e = e

-- one round more
pub after_rounds-more : (key block s t : List ℕ) (round : ℕ) → 1 ≤ round → s ≡ after_rounds key block (round - 1)
    → t ≡ sum_of (mix_columns (shift_rows (sub_bytes s))) (round_key key round)
    → t ≡ after_rounds key block (round + 1 - 1)
unfolding full_round after_rounds
after_rounds-more key block s t round h before is =
    let next : round + 1 - 1 ≡ suc (round - 1) = omega arith in
    let place : round ≡ suc (round - 1) = omega arith in
    is
    ∙ ap (λ (u : List ℕ). full_round key round u) before
    ∙ ap (λ (n : ℕ). full_round key n (after_rounds key block (round - 1))) place
    ∙ sym (ap (after_rounds key block) next)

pub encrypt-all : (key block s t : List ℕ) (round : ℕ) → round ≡ 10 → s ≡ after_rounds key block (round - 1)
    → t ≡ sum_of (shift_rows (sub_bytes s)) (round_key key 10) → t ≡ encrypt key block
unfolding last_round encrypt
encrypt-all key block s t round end before is =
    let count : round - 1 ≡ 9 = omega arith in
    is ∙ ap (last_round key) (before ∙ ap (after_rounds key block) count)

-- what the last `left` full rounds and the last round make of a state
unfoldable pub finished : List ℕ → ℕ → List ℕ → List ℕ
finished key zero state = last_round key state
finished key (suc left) state = finished key left (full_round key (9 - left) state)

finished-after : (key block : List ℕ) (left : ℕ) → left ≤ 9
    → finished key left (after_rounds key block (9 - left)) ≡ encrypt key block
unfolding finished encrypt after_rounds
finished-after key block zero h = refl
finished-after key block (suc left) h =
    let place : 9 - left ≡ suc (9 - suc left) = omega arith in
    ap (λ (n : ℕ). finished key left (full_round key n (after_rounds key block (9 - suc left)))) place
    ∙ sym (ap (λ (n : ℕ). finished key left (after_rounds key block n)) place)
    ∙ finished-after key block left (omega arith)

pub finished-none : (key block s : List ℕ) → sum_of (shift_rows (sub_bytes s)) (round_key key 10) ≡ block
    → finished key 0 s ≡ block
unfolding last_round finished
finished-none key block s e = e

-- one round back
pub finished-more : (key block s t : List ℕ) (left : ℕ) → finished key left s ≡ block
    → sum_of (mix_columns (shift_rows (sub_bytes t))) (round_key key (9 - left)) ≡ s
    → finished key (left + 1) t ≡ block
unfolding full_round finished
finished-more key block s t left before is =
    ap (λ (n : ℕ). finished key n t) (add-one left) ∙ ap (finished key left) is ∙ before

pub finished-all : (key block s p : List ℕ) (left : ℕ) → left ≡ 9 → finished key left s ≡ block
    → sum_of p (round_key key 0) ≡ s → encrypt key p ≡ block
unfolding after_rounds
finished-all key block s p left end before is =
    sym (finished-after key p 9 (omega arith))
    ∙ ap (finished key 9) is
    ∙ ap (λ (n : ℕ). finished key n s) (sym end)
    ∙ before
