-- The words of the key schedule one after another, and the keys of the rounds.
use Rattle.std.proofs.Common.{◌≡◌, ℕ, zero, suc, ◌+◌, ◌-◌, ◌*◌, ◌/◌, ◌%◌, ◌==◌, true, false, ◌<◌, ◌≤◌, List, [], ◌∷◌, ◌++◌, length, get_or, set, take, drop, arith, refl, sym, ap, ◌∙◌, bit_xor}
use Rattle.std.proofs.lemmas.List.{take_more_set, take_all, get_or-take, get_or_append_left, length-append}
use Rattle.std.proofs.lemmas.Bool.{eq-eqb, ne_eqb}
use lib.Bits.{xor_zero_r}
use Rattle.kms_aes.specs.Field.{times_x, sum_of}
use Rattle.kms_aes.specs.SBox.{substitute}
use Rattle.kms_aes.specs.KeyExpansion.{power_of_x, rot_word, sub_word, next_word, first_words, word, round_key}
use Rattle.kms_aes.proofs.AllBytes.{all_below, same_below}
use Rattle.kms_aes.proofs.States.{four, sixteen, appended}

constants_test : all_below 10 (λ j.
    get_or (0x01 ∷ 0x02 ∷ 0x04 ∷ 0x08 ∷ 0x10 ∷ 0x20 ∷ 0x40 ∷ 0x80 ∷ 0x1b ∷ 0x36 ∷ []) j 0 == power_of_x j) ≡ true
unfolding times_x power_of_x
constants_test = refl

pub constant_entry : (j : ℕ) → j < 10
    → get_or (0x01 ∷ 0x02 ∷ 0x04 ∷ 0x08 ∷ 0x10 ∷ 0x20 ∷ 0x40 ∷ 0x80 ∷ 0x1b ∷ 0x36 ∷ []) j 0 ≡ power_of_x j
constant_entry =
    same_below 10 (λ j. get_or (0x01 ∷ 0x02 ∷ 0x04 ∷ 0x08 ∷ 0x10 ∷ 0x20 ∷ 0x40 ∷ 0x80 ∷ 0x1b ∷ 0x36 ∷ []) j 0)
    power_of_x constants_test

-- the sum of two words, by their bytes
pub summed_words : (a b : List ℕ) → length a ≡ 4 → length b ≡ 4
    → bit_xor (get_or a 0 0) (get_or b 0 0) ∷ bit_xor (get_or a 1 0) (get_or b 1 0)
    ∷ bit_xor (get_or a 2 0) (get_or b 2 0) ∷ bit_xor (get_or a 3 0) (get_or b 3 0) ∷ []
    ≡ sum_of a b
summed_words a b ha hb =
    sym (ap (λ (t : List ℕ). sum_of t b) (four a ha) ∙ ap (λ (t : List ℕ). sum_of (bytes a) t) (four b hb))
  where
    bytes : List ℕ → List ℕ
    bytes w = get_or w 0 0 ∷ get_or w 1 0 ∷ get_or w 2 0 ∷ get_or w 3 0 ∷ []

-- the key's own words
own_words : List ℕ → List (List ℕ)
own_words key = take 4 key ∷ take 4 (drop 4 key) ∷ take 4 (drop 8 key) ∷ take 4 (drop 12 key) ∷ []

pub first_words-none : (key : List ℕ) → length key ≡ 16
    → (get_or key 0 0 ∷ get_or key 1 0 ∷ get_or key 2 0 ∷ get_or key 3 0 ∷ [])
    ∷ (get_or key 4 0 ∷ get_or key 5 0 ∷ get_or key 6 0 ∷ get_or key 7 0 ∷ [])
    ∷ (get_or key 8 0 ∷ get_or key 9 0 ∷ get_or key 10 0 ∷ get_or key 11 0 ∷ [])
    ∷ (get_or key 12 0 ∷ get_or key 13 0 ∷ get_or key 14 0 ∷ get_or key 15 0 ∷ []) ∷ []
    ≡ first_words key 0
unfolding own_words first_words
first_words-none key e = sym (ap own_words (sixteen key e))

-- only the words before it make the next
next_word-take : (words : List (List ℕ)) (i : ℕ) → 4 ≤ i → next_word (take i words) i ≡ next_word words i
unfolding next_word
next_word-take words i h =
    let before : get_or (take i words) (i - 1) [] ≡ get_or words (i - 1) [] = get_or-take i words (i - 1) [] (omega arith) in
    let fourth : get_or (take i words) (i - 4) [] ≡ get_or words (i - 4) [] = get_or-take i words (i - 4) [] (omega arith) in
    rw (before, fourth)

pub first_words-more : (key : List ℕ) (words : List (List ℕ)) (i : ℕ) (x : List ℕ) → 4 ≤ i → i < length words
    → take i words ≡ first_words key (i - 4) → x ≡ next_word words i
    → take (i + 1) (set words i x) ≡ first_words key (i + 1 - 4)
unfolding first_words
first_words-more key words i x h l done is =
    let place : i ≡ i - 4 + 4 = omega arith in
    let count : i + 1 - 4 ≡ suc (i - 4) = omega arith in
    let made : x ≡ next_word (first_words key (i - 4)) (i - 4 + 4)
    = is ∙ sym (next_word-take words i h) ∙ ap (λ (t : List (List ℕ)). next_word t i) done
    ∙ ap (λ (t : ℕ). next_word (first_words key (i - 4)) t) place in
    take_more_set words i x l
    ∙ ap (λ (t : List (List ℕ)). t ++ x ∷ []) done
    ∙ ap (λ (t : List ℕ). first_words key (i - 4) ++ t ∷ []) made
    ∙ ap (λ (t : ℕ). first_words key t) (sym count)

pub first_words-all : (key : List ℕ) (words : List (List ℕ)) (i : ℕ) → length words ≡ 44 → i ≡ 44
    → take i words ≡ first_words key (i - 4) → words ≡ first_words key 40
first_words-all key words i len end done =
    let count : i - 4 ≡ 40 = omega arith in
    sym (take_all i words (omega arith)) ∙ done ∙ ap (first_words key) count

pub length-first_words : (key : List ℕ) (n : ℕ) → length (first_words key n) ≡ n + 4
unfolding first_words
length-first_words key zero = refl
length-first_words key (suc n) =
    let words = first_words key n in
    let before : length words ≡ n + 4 = length-first_words key n in
    let both : length (words ++ next_word words (n + 4) ∷ []) ≡ length words + 1
    = length-append words (next_word words (n + 4) ∷ []) in
    omega arith

-- more words leave those before them
first_words-front : (key : List ℕ) (n i : ℕ) → i < 4 → get_or (first_words key n) i [] ≡ get_or (first_words key 0) i []
unfolding first_words
first_words-front key zero i h = refl
first_words-front key (suc n) i h =
    let words = first_words key n in
    let len : length words ≡ n + 4 = length-first_words key n in
    get_or_append_left words (next_word words (n + 4) ∷ []) [] i (omega arith) ∙ first_words-front key n i h

own_word : (key : List ℕ) (i : ℕ) → i < 4 → word key i ≡ get_or (first_words key 0) i []
unfolding word
own_word key i h = first_words-front key 40 i h

-- the first round's key is the key
pub round_key-zero : (key : List ℕ) → length key ≡ 16 → round_key key 0 ≡ key
unfolding round_key own_words
round_key-zero key e =
    appended (own_word key 0 (omega arith)) (own_word key 1 (omega arith)) (own_word key 2 (omega arith)) (own_word key 3 (omega arith))
    ∙ own key e
  where
    joined : List (List ℕ) → List ℕ
    joined words = get_or words 0 [] ++ get_or words 1 [] ++ get_or words 2 [] ++ get_or words 3 []

    own : (key : List ℕ) → length key ≡ 16
        → get_or (first_words key 0) 0 [] ++ get_or (first_words key 0) 1 [] ++ get_or (first_words key 0) 2 [] ++ get_or (first_words key 0) 3 [] ≡ key
    own key e = ap joined (sym (first_words-none key e)) ∙ sym (sixteen key e)

-- the key of a round from its words
pub round_key-words : (key : List ℕ) (words : List (List ℕ)) (round : ℕ) → words ≡ first_words key 40
    → get_or words (4 * round) [] ++ get_or words (4 * round + 1) [] ++ get_or words (4 * round + 2) [] ++ get_or words (4 * round + 3) []
    ≡ round_key key round
unfolding round_key word
round_key-words key words round e =
    ap (λ (t : List (List ℕ)). get_or t (4 * round) [] ++ get_or t (4 * round + 1) [] ++ get_or t (4 * round + 2) [] ++ get_or t (4 * round + 3) []) e

-- the word before the first of a round, turned
pub turned_words : (w : List ℕ) (constant a b c d : ℕ) → length w ≡ 4
    → a ≡ substitute (get_or w 1 0) → b ≡ substitute (get_or w 2 0) → c ≡ substitute (get_or w 3 0) → d ≡ substitute (get_or w 0 0)
    → bit_xor a constant ∷ b ∷ c ∷ d ∷ [] ≡ sum_of (sub_word (rot_word w)) (constant ∷ 0 ∷ 0 ∷ 0 ∷ [])
turned_words w constant a b c d e p q r t =
    let zb : bit_xor b 0 ≡ b = xor_zero_r b in
    let zc : bit_xor c 0 ≡ c = xor_zero_r c in
    let zd : bit_xor d 0 ≡ d = xor_zero_r d in
    let summed : bit_xor a constant ∷ b ∷ c ∷ d ∷ [] ≡ bit_xor a constant ∷ bit_xor b 0 ∷ bit_xor c 0 ∷ bit_xor d 0 ∷ [] = cc in
    let substituted : ◌≡◌ {A = List ℕ} (a ∷ b ∷ c ∷ d ∷ [])
    (substitute (get_or w 1 0) ∷ substitute (get_or w 2 0) ∷ substitute (get_or w 3 0) ∷ substitute (get_or w 0 0) ∷ [])
    = cc in
    summed
    ∙ ap (λ (u : List ℕ). sum_of u (constant ∷ 0 ∷ 0 ∷ 0 ∷ []))
    (substituted ∙ sym (ap (λ (u : List ℕ). sub_word (rot_word u)) (four w e)))

pub next_word-first : (words : List (List ℕ)) (i constant : ℕ) (turned made : List ℕ) → i % 4 ≡ 0
    → constant ≡ power_of_x (i / 4 - 1)
    → turned ≡ sum_of (sub_word (rot_word (get_or words (i - 1) []))) (constant ∷ 0 ∷ 0 ∷ 0 ∷ [])
    → made ≡ sum_of (get_or words (i - 4) []) turned → made ≡ next_word words i
unfolding next_word
next_word-first words i constant turned made e p q r =
    let yes_first : (i % 4 == 0) ≡ true = eq-eqb (i % 4) 0 e in
    rw yes_first
    (r ∙ ap (sum_of (get_or words (i - 4) []))
    (q ∙ ap (λ (t : ℕ). sum_of (sub_word (rot_word (get_or words (i - 1) []))) (t ∷ 0 ∷ 0 ∷ 0 ∷ [])) p))

pub next_word-other : (words : List (List ℕ)) (i : ℕ) (made : List ℕ) → (i % 4 ≡ 0 → ⊥)
    → made ≡ sum_of (get_or words (i - 4) []) (get_or words (i - 1) []) → made ≡ next_word words i
unfolding next_word
next_word-other words i made e r =
    let not_first : (i % 4 == 0) ≡ false = ne_eqb (i % 4) 0 e in
    rw not_first r
