-- Each step of the cipher has a block that it makes into a given one, so each block is one that some block
-- enciphers to.
use Rattle.std.proofs.Common.{◌≡◌, ℕ, zero, suc, ◌<◌, true, nat_lt, List, [], ◌∷◌, get_or, map, arith, refl, sym, ap, ◌∙◌}
use Rattle.std.proofs.lemmas.List.{length-map}
use Rattle.kms_aes.specs.Field.{product, sum_of}
use Rattle.kms_aes.specs.SBox.{substitute}
use Rattle.kms_aes.specs.KeyExpansion.{round_key}
use Rattle.kms_aes.specs.Cipher.{IsBytes, IsBlock, sub_bytes, shift_rows, mix_columns, full_round, after_rounds, last_round, encrypt}
use Rattle.kms_aes.proofs.AllBytes.{all_below, less_below}
use Rattle.kms_aes.proofs.FieldLaws.{product_fits, sum_of_four_fits}
use Rattle.kms_aes.proofs.MixLaws.{unmixed, unmixed_column, mixed_column-unmixed}
use Rattle.kms_aes.proofs.States.{sixteen, appended, sum_of-twice}
use Rattle.kms_aes.proofs.Tables.{inverse_entry}
use Rattle.kms_aes.proofs.Uniqueness.{unsubstituted, turned_back, unmixed_columns}
use Rattle.kms_aes.proofs.ByteLists.{Fit, four_words, column_bytes, sum_bytes, round_key_block}

-- a block of which the step makes the given one
abbrev pub MadeBy : (List ℕ → List ℕ) → List ℕ → Type 0
MadeBy step block = (before : List ℕ) × IsBlock before × (step before ≡ block)

fits_test : all_below 256 (λ b. nat_lt (unsubstituted b) 256) ≡ true
unfolding unsubstituted
fits_test = refl

unsubstituted_fits : (b : ℕ) → b < 256 → unsubstituted b < 256
unsubstituted_fits = less_below 256 256 unsubstituted fits_test

all_fit : (xs : List ℕ) → Fit xs → Fit (map unsubstituted xs)
all_fit [] h i = omega arith
all_fit (x ∷ xs) h zero = unsubstituted_fits x (h 0)
all_fit (x ∷ xs) h (suc i) = all_fit xs (λ j. h (suc j)) i

resubstituted : (xs : List ℕ) → Fit xs → map substitute (map unsubstituted xs) ≡ xs
unfolding unsubstituted
resubstituted [] h = refl
resubstituted (x ∷ xs) h =
    ap (λ (t : ℕ). t ∷ map substitute (map unsubstituted xs)) (inverse_entry x (h 0))
    ∙ ap (λ (t : List ℕ). x ∷ t) (resubstituted xs (λ i. h (suc i)))

sub_bytes-made : (s : List ℕ) → IsBlock s → MadeBy sub_bytes s
unfolding sub_bytes
sub_bytes-made s h =
    (map unsubstituted s, record { len = length-map s unsubstituted ∙ h.len; fits = all_fit s h.fits }, resubstituted s h.fits)

turned_back_block : (s : List ℕ) → IsBlock s → IsBlock (turned_back s)
unfolding turned_back
turned_back_block s h =
    let f : Fit s = h.fits in
    four_words _ _ _ _
    (column_bytes _ _ _ _ (f 0) (f 13) (f 10) (f 7))
    (column_bytes _ _ _ _ (f 4) (f 1) (f 14) (f 11))
    (column_bytes _ _ _ _ (f 8) (f 5) (f 2) (f 15))
    (column_bytes _ _ _ _ (f 12) (f 9) (f 6) (f 3))

shift_rows-turned_back : (s : List ℕ) → IsBlock s → shift_rows (turned_back s) ≡ s
unfolding shift_rows turned_back
shift_rows-turned_back s h = sym (sixteen s h.len)

shift_rows-made : (s : List ℕ) → IsBlock s → MadeBy shift_rows s
shift_rows-made s h = (turned_back s, turned_back_block s h, shift_rows-turned_back s h)

unmixed_fits : (a b c d : ℕ) → a < 256 → b < 256 → c < 256 → d < 256 → unmixed a b c d < 256
unmixed_fits a b c d ha hb hc hd =
    sum_of_four_fits (product 14 a) (product 11 b) (product 13 c) (product 9 d)
    (product_fits 14 a ha) (product_fits 11 b hb) (product_fits 13 c hc) (product_fits 9 d hd)

unmixed_bytes : (a b c d : ℕ) → a < 256 → b < 256 → c < 256 → d < 256 → IsBytes 4 (unmixed_column a b c d)
unmixed_bytes a b c d ha hb hc hd =
    column_bytes _ _ _ _
    (unmixed_fits a b c d ha hb hc hd)
    (unmixed_fits b c d a hb hc hd ha)
    (unmixed_fits c d a b hc hd ha hb)
    (unmixed_fits d a b c hd ha hb hc)

unmixed_columns_block : (s : List ℕ) → IsBlock s → IsBlock (unmixed_columns s)
unfolding unmixed_columns
unmixed_columns_block s h =
    let f : Fit s = h.fits in
    four_words _ _ _ _
    (unmixed_bytes _ _ _ _ (f 0) (f 1) (f 2) (f 3))
    (unmixed_bytes _ _ _ _ (f 4) (f 5) (f 6) (f 7))
    (unmixed_bytes _ _ _ _ (f 8) (f 9) (f 10) (f 11))
    (unmixed_bytes _ _ _ _ (f 12) (f 13) (f 14) (f 15))

mix_columns-unmixed_columns : (s : List ℕ) → IsBlock s → mix_columns (unmixed_columns s) ≡ s
unfolding mix_columns unmixed_columns
mix_columns-unmixed_columns s h =
    let f : Fit s = h.fits in
    appended
    (mixed_column-unmixed (get_or s 0 0) (get_or s 1 0) (get_or s 2 0) (get_or s 3 0) (f 0) (f 1) (f 2) (f 3))
    (mixed_column-unmixed (get_or s 4 0) (get_or s 5 0) (get_or s 6 0) (get_or s 7 0) (f 4) (f 5) (f 6) (f 7))
    (mixed_column-unmixed (get_or s 8 0) (get_or s 9 0) (get_or s 10 0) (get_or s 11 0) (f 8) (f 9) (f 10) (f 11))
    (mixed_column-unmixed (get_or s 12 0) (get_or s 13 0) (get_or s 14 0) (get_or s 15 0) (f 12) (f 13) (f 14) (f 15))
    ∙ sym (sixteen s h.len)

mix_columns-made : (s : List ℕ) → IsBlock s → MadeBy mix_columns s
mix_columns-made s h = (unmixed_columns s, unmixed_columns_block s h, mix_columns-unmixed_columns s h)

sum_of-made : (k s : List ℕ) → IsBlock k → IsBlock s → MadeBy (λ t. sum_of t k) s
sum_of-made k s hk hs =
    let lk = hk.len in
    let ls = hs.len in
    (sum_of s k, sum_bytes 16 s k hs hk, sum_of-twice s k (omega arith))

full_round-made : (key s : List ℕ) (round : ℕ) → round < 11 → IsBlock key → IsBlock s → MadeBy (full_round key round) s
unfolding full_round
full_round-made key s round l hk hs =
    let mixed = sum_of-made (round_key key round) s (round_key_block key round l hk) hs in
    let shifted = mix_columns-made mixed.0 mixed.1 in
    let substituted = shift_rows-made shifted.0 shifted.1 in
    let before = sub_bytes-made substituted.0 substituted.1 in (
      before.0,
      before.1,
      ap (λ (t : List ℕ). sum_of (mix_columns (shift_rows t)) (round_key key round)) before.2
          ∙ ap (λ (t : List ℕ). sum_of (mix_columns t) (round_key key round)) substituted.2
          ∙ ap (λ (t : List ℕ). sum_of t (round_key key round)) shifted.2
          ∙ mixed.2,
    )

after_rounds-made : (key s : List ℕ) (n : ℕ) → n < 11 → IsBlock key → IsBlock s → MadeBy (λ t. after_rounds key t n) s
unfolding after_rounds
after_rounds-made key s zero l hk hs = sum_of-made (round_key key 0) s (round_key_block key 0 (omega arith) hk) hs
after_rounds-made key s (suc n) l hk hs =
    let last = full_round-made key s (suc n) l hk hs in
    let first = after_rounds-made key last.0 n (omega arith) hk last.1 in
    (first.0, first.1, ap (full_round key (suc n)) first.2 ∙ last.2)

-- some block enciphers to a given one
pub encrypt-made : (key s : List ℕ) → IsBlock key → IsBlock s → MadeBy (encrypt key) s
unfolding last_round encrypt
encrypt-made key s hk hs =
    let shifted = sum_of-made (round_key key 10) s (round_key_block key 10 (omega arith) hk) hs in
    let substituted = shift_rows-made shifted.0 shifted.1 in
    let state = sub_bytes-made substituted.0 substituted.1 in
    let plain = after_rounds-made key state.0 9 (omega arith) hk state.1 in (
      plain.0,
      plain.1,
      ap (last_round key) plain.2
          ∙ ap (λ (t : List ℕ). sum_of (shift_rows t) (round_key key 10)) state.2
          ∙ ap (λ (t : List ℕ). sum_of t (round_key key 10)) substituted.2
          ∙ shifted.2,
    )
