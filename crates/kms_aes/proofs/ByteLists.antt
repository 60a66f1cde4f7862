-- The steps of a round and the words of the schedule are lists of bytes.
use Rattle.std.proofs.Common.{◌≡◌, ℕ, zero, suc, ◌+◌, ◌-◌, ◌*◌, ◌/◌, ◌%◌, ◌==◌, ◌<◌, ◌≤◌, Bool, true, false, nat_lt, List, [], ◌∷◌, ◌++◌, length, get_or, take, drop, map, arith, refl, sym, ap, ◌∙◌, subst, inl, inr}
use Rattle.std.specs.Prelude.{if◌then◌else◌}
use Rattle.std.proofs.lemmas.List.{length-append, length-map, length-take, length-drop, get_or-drop, get_or_append_left, get_or-append_right}
use Rattle.std.proofs.lemmas.Bool.{cases_lt}
use Rattle.kms_aes.specs.Field.{times_x, partial_product, product, inverse_below, inverse, sum_of}
use Rattle.kms_aes.specs.SBox.{substitute}
use Rattle.kms_aes.specs.KeyExpansion.{power_of_x, round_constant, rot_word, next_word, first_words, word, round_key}
use Rattle.kms_aes.specs.Cipher.{IsBytes, IsBlock, mixed_byte, mixed_column, sub_bytes, shift_rows, mix_columns, full_round, after_rounds, last_round, encrypt}
use Rattle.kms_aes.proofs.AllBytes.{all_below, less_below}
use Rattle.kms_aes.proofs.FieldLaws.{times_x_fits, xor_fits, product_fits, sum_of_four_fits}
use Rattle.kms_aes.proofs.ScheduleLaws.{length-first_words}

-- each element is a byte
abbrev pub Fit : List ℕ → Type 0
Fit xs = (i : ℕ) → get_or xs i 0 < 256

none_fit : Fit []
none_fit i = omega arith

one_more_fits : (x : ℕ) (xs : List ℕ) → x < 256 → Fit xs → Fit (x ∷ xs)
one_more_fits x xs h hs zero = h
one_more_fits x xs h hs (suc i) = hs i

append_fit : (xs ys : List ℕ) → Fit xs → Fit ys → Fit (xs ++ ys)
append_fit [] ys hx hy i = hy i
append_fit (x ∷ xs) ys hx hy zero = hx 0
append_fit (x ∷ xs) ys hx hy (suc i) = append_fit xs ys (λ j. hx (suc j)) hy i

take_fit : (n : ℕ) (xs : List ℕ) → Fit xs → Fit (take n xs)
take_fit zero xs h i = omega arith
take_fit (suc n) [] h i = omega arith
take_fit (suc n) (x ∷ xs) h zero = h 0
take_fit (suc n) (x ∷ xs) h (suc i) = take_fit n xs (λ j. h (suc j)) i

drop_fit : (n : ℕ) (xs : List ℕ) → Fit xs → Fit (drop n xs)
drop_fit n xs h i = subst (λ (t : ℕ). t < 256) (sym (get_or-drop n xs i 0)) (h (n + i))

pub sum_fit : (xs ys : List ℕ) → Fit xs → Fit ys → Fit (sum_of xs ys)
sum_fit [] ys hx hy i = omega arith
sum_fit (x ∷ xs) [] hx hy i = omega arith
sum_fit (x ∷ xs) (y ∷ ys) hx hy zero = xor_fits x y (hx 0) (hy 0)
sum_fit (x ∷ xs) (y ∷ ys) hx hy (suc i) = sum_fit xs ys (λ j. hx (suc j)) (λ j. hy (suc j)) i

pub length-sum_of : (xs ys : List ℕ) (n : ℕ) → length xs ≡ n → length ys ≡ n → length (sum_of xs ys) ≡ n
length-sum_of [] ys n hx hy = hx
length-sum_of (x ∷ xs) [] n hx hy = absurd (omega arith)
length-sum_of (x ∷ xs) (y ∷ ys) n hx hy =
    let rest : length (sum_of xs ys) ≡ length xs = length-sum_of xs ys (length xs) refl (omega arith) in
    omega arith

-- a sum of as many bytes
pub sum_bytes : (n : ℕ) (xs ys : List ℕ) → IsBytes n xs → IsBytes n ys → IsBytes n (sum_of xs ys)
sum_bytes n xs ys hx hy = record {
  len = length-sum_of xs ys n hx.len hy.len;
  fits = sum_fit xs ys hx.fits hy.fits;
}

append_bytes : (m n : ℕ) (xs ys : List ℕ) → IsBytes m xs → IsBytes n ys → IsBytes (m + n) (xs ++ ys)
append_bytes m n xs ys hx hy = record {
  len = let l = length-append xs ys in let a = hx.len in let b = hy.len in omega arith;
  fits = append_fit xs ys hx.fits hy.fits;
}

-- four words are a block
pub four_words : (a b c d : List ℕ) → IsBytes 4 a → IsBytes 4 b → IsBytes 4 c → IsBytes 4 d → IsBlock (a ++ b ++ c ++ d)
four_words a b c d ha hb hc hd =
    append_bytes 12 4 (a ++ b ++ c) d (append_bytes 8 4 (a ++ b) c (append_bytes 4 4 a b ha hb) hc) hd

pub column_bytes : (a b c d : ℕ) → a < 256 → b < 256 → c < 256 → d < 256 → IsBytes 4 (a ∷ b ∷ c ∷ d ∷ [])
column_bytes a b c d ha hb hc hd = record {
  len = refl;
  fits = one_more_fits a (b ∷ c ∷ d ∷ []) ha (one_more_fits b (c ∷ d ∷ []) hb
      (one_more_fits c (d ∷ []) hc (one_more_fits d [] hd none_fit)));
}

substitute_test : all_below 256 (λ b. nat_lt (substitute b) 256) ≡ true
unfolding times_x partial_product product inverse_below inverse substitute
substitute_test = refl

pub substitute_fits : (b : ℕ) → b < 256 → substitute b < 256
substitute_fits = less_below 256 256 substitute substitute_test

substituted_fit : (xs : List ℕ) → Fit xs → Fit (map substitute xs)
substituted_fit [] h i = omega arith
substituted_fit (x ∷ xs) h zero = substitute_fits x (h 0)
substituted_fit (x ∷ xs) h (suc i) = substituted_fit xs (λ j. h (suc j)) i

substituted_bytes : (n : ℕ) (xs : List ℕ) → IsBytes n xs → IsBytes n (map substitute xs)
substituted_bytes n xs h = record {
  len = length-map xs substitute ∙ h.len;
  fits = substituted_fit xs h.fits;
}

pub sub_bytes_block : (s : List ℕ) → IsBlock s → IsBlock (sub_bytes s)
unfolding sub_bytes
sub_bytes_block s h = substituted_bytes 16 s h

pub shift_rows_block : (s : List ℕ) → IsBlock s → IsBlock (shift_rows s)
unfolding shift_rows
shift_rows_block s h =
    let f : Fit s = h.fits in
    four_words _ _ _ _
    (column_bytes _ _ _ _ (f 0) (f 5) (f 10) (f 15))
    (column_bytes _ _ _ _ (f 4) (f 9) (f 14) (f 3))
    (column_bytes _ _ _ _ (f 8) (f 13) (f 2) (f 7))
    (column_bytes _ _ _ _ (f 12) (f 1) (f 6) (f 11))

mixed_fits : (a b c d : ℕ) → a < 256 → b < 256 → c < 256 → d < 256 → mixed_byte a b c d < 256
mixed_fits a b c d ha hb hc hd =
    sum_of_four_fits (product 2 a) (product 3 b) c d (product_fits 2 a ha) (product_fits 3 b hb) hc hd

mixed_bytes : (a b c d : ℕ) → a < 256 → b < 256 → c < 256 → d < 256 → IsBytes 4 (mixed_column a b c d)
mixed_bytes a b c d ha hb hc hd =
    column_bytes _ _ _ _
    (mixed_fits a b c d ha hb hc hd) (mixed_fits b c d a hb hc hd ha)
    (mixed_fits c d a b hc hd ha hb) (mixed_fits d a b c hd ha hb hc)

pub mix_columns_block : (s : List ℕ) → IsBlock s → IsBlock (mix_columns s)
unfolding mix_columns
mix_columns_block s h =
    let f : Fit s = h.fits in
    four_words _ _ _ _
    (mixed_bytes (get_or s 0 0) (get_or s 1 0) (get_or s 2 0) (get_or s 3 0) (f 0) (f 1) (f 2) (f 3))
    (mixed_bytes (get_or s 4 0) (get_or s 5 0) (get_or s 6 0) (get_or s 7 0) (f 4) (f 5) (f 6) (f 7))
    (mixed_bytes (get_or s 8 0) (get_or s 9 0) (get_or s 10 0) (get_or s 11 0) (f 8) (f 9) (f 10) (f 11))
    (mixed_bytes (get_or s 12 0) (get_or s 13 0) (get_or s 14 0) (get_or s 15 0) (f 12) (f 13) (f 14) (f 15))

power_fits : (j : ℕ) → power_of_x j < 256
unfolding power_of_x
power_fits zero = omega arith
power_fits (suc j) = times_x_fits (power_of_x j) (power_fits j)

constant_bytes : (j : ℕ) → IsBytes 4 (round_constant j)
constant_bytes j = column_bytes _ _ _ _ (power_fits (j - 1)) (omega arith) (omega arith) (omega arith)

turned_bytes : (w : List ℕ) → IsBytes 4 w → IsBytes 4 (rot_word w)
turned_bytes w h =
    append_bytes 3 1 (drop 1 w) (take 1 w)
    record { len = let l = length-drop 1 w in let a = h.len in omega arith; fits = drop_fit 1 w h.fits }
    record { len = let l = length-take 1 w in let a = h.len in omega arith; fits = take_fit 1 w h.fits }

-- each of the words has four bytes
AllWords : List (List ℕ) → Type 0
AllWords words = (i : ℕ) → i < length words → IsBytes 4 (get_or words i [])

either_bytes : (b : Bool) (x y : List ℕ) → IsBytes 4 x → IsBytes 4 y → IsBytes 4 (if b then x else y)
either_bytes true x y hx hy = hx
either_bytes false x y hx hy = hy

next_word_bytes : (words : List (List ℕ)) (i : ℕ) → 4 ≤ i → i ≤ length words → AllWords words → IsBytes 4 (next_word words i)
unfolding AllWords next_word
next_word_bytes words i l h all =
    let before : IsBytes 4 (get_or words (i - 1) []) = all (i - 1) (omega arith) in
    let fourth : IsBytes 4 (get_or words (i - 4) []) = all (i - 4) (omega arith) in
    sum_bytes 4 _ _ fourth
    (either_bytes (i % 4 == 0) _ _
    (sum_bytes 4 _ _ (substituted_bytes 4 _ (turned_bytes _ before)) (constant_bytes (i / 4)))
    before)

push_words : (words : List (List ℕ)) (w : List ℕ) → AllWords words → IsBytes 4 w → AllWords (words ++ w ∷ [])
unfolding AllWords
push_words words w all h i below =
    let len = length-append words (w ∷ []) in
    elim (cases_lt i (length words)) [
      | inl within ↦ subst (IsBytes 4) (sym (get_or_append_left words (w ∷ []) [] i within)) (all i within)
      | inr past ↦
          let last : i - length words ≡ 0 = omega arith in
          subst (IsBytes 4)
          (sym (get_or-append_right words (w ∷ []) (length words) i [] refl past
          ∙ ap (λ (k : ℕ). get_or (w ∷ []) k []) last))
          h
    ]

part_bytes : (n : ℕ) (key : List ℕ) → n + 4 ≤ 16 → IsBlock key → IsBytes 4 (take 4 (drop n key))
part_bytes n key l h = record {
  len =
      let a = h.len in
      let d = length-drop n key in
      let t = length-take 4 (drop n key) in
      omega arith;
  fits = take_fit 4 (drop n key) (drop_fit n key h.fits);
}

first_words_bytes : (key : List ℕ) (n : ℕ) → IsBlock key → AllWords (first_words key n)
unfolding AllWords first_words
first_words_bytes key zero h zero below = part_bytes 0 key (omega arith) h
first_words_bytes key zero h (suc zero) below = part_bytes 4 key (omega arith) h
first_words_bytes key zero h (suc (suc zero)) below = part_bytes 8 key (omega arith) h
first_words_bytes key zero h (suc (suc (suc zero))) below = part_bytes 12 key (omega arith) h
first_words_bytes key zero h (suc (suc (suc (suc i)))) below = absurd (omega arith)
first_words_bytes key (suc n) h i below =
    let words = first_words key n in
    let len : length words ≡ n + 4 = length-first_words key n in
    let all : AllWords words = first_words_bytes key n h in
    push_words words (next_word words (n + 4)) all (next_word_bytes words (n + 4) (omega arith) (omega arith) all) i below

word_bytes : (key : List ℕ) (i : ℕ) → i < 44 → IsBlock key → IsBytes 4 (word key i)
unfolding AllWords word
word_bytes key i l h =
    let len : length (first_words key 40) ≡ 40 + 4 = length-first_words key 40 in
    first_words_bytes key 40 h i (omega arith)

-- the key of a round has 16 bytes
pub round_key_block : (key : List ℕ) (round : ℕ) → round < 11 → IsBlock key → IsBlock (round_key key round)
unfolding round_key
round_key_block key round l h =
    four_words _ _ _ _
    (word_bytes key (4 * round) (omega arith) h)
    (word_bytes key (4 * round + 1) (omega arith) h)
    (word_bytes key (4 * round + 2) (omega arith) h)
    (word_bytes key (4 * round + 3) (omega arith) h)

pub full_round_block : (key s : List ℕ) (round : ℕ) → round < 11 → IsBlock key → IsBlock s → IsBlock (full_round key round s)
unfolding full_round
full_round_block key s round l hk hs =
    sum_bytes 16 _ _ (mix_columns_block _ (shift_rows_block _ (sub_bytes_block s hs))) (round_key_block key round l hk)

pub after_rounds_block : (key block : List ℕ) (n : ℕ) → n < 11 → IsBlock key → IsBlock block → IsBlock (after_rounds key block n)
unfolding after_rounds
after_rounds_block key block zero l hk hb = sum_bytes 16 _ _ hb (round_key_block key 0 (omega arith) hk)
after_rounds_block key block (suc n) l hk hb =
    full_round_block key (after_rounds key block n) (suc n) l hk (after_rounds_block key block n (omega arith) hk hb)

-- a block is enciphered to a block
pub encrypt_block : (key block : List ℕ) → IsBlock key → IsBlock block → IsBlock (encrypt key block)
unfolding last_round encrypt
encrypt_block key block hk hb =
    sum_bytes 16 _ _
    (shift_rows_block _ (sub_bytes_block _ (after_rounds_block key block 9 (omega arith) hk hb)))
    (round_key_block key 10 (omega arith) hk)
