-- Each step of the cipher can be undone, so two blocks that encipher to one are one.
use Rattle.std.proofs.Common.{◌≡◌, ℕ, zero, suc, ◌<◌, ◌==◌, true, List, [], ◌∷◌, ◌++◌, get_or, map, arith, refl, sym, ap, ◌∙◌}
use Rattle.kms_aes.specs.Field.{times_x, partial_product, product, inverse_below, inverse, sum_of}
use Rattle.kms_aes.specs.SBox.{substitute}
use Rattle.kms_aes.specs.KeyExpansion.{round_key}
use Rattle.kms_aes.specs.Cipher.{IsBlock, sub_bytes, shift_rows, mix_columns, full_round, after_rounds, last_round, encrypt}
use Rattle.kms_aes.specs.declared.sbox.TheConstants.{INVERSE_SBOX}
use Rattle.kms_aes.proofs.AllBytes.{all_below, same_below}
use Rattle.kms_aes.proofs.MixLaws.{unmixed_column, unmixed_column-mixed}
use Rattle.kms_aes.proofs.States.{sixteen, appended, sum_of-twice}
use Rattle.kms_aes.proofs.ByteLists.{Fit, sub_bytes_block, shift_rows_block, mix_columns_block, round_key_block, after_rounds_block}

unfoldable pub unsubstituted : ℕ → ℕ
unsubstituted b = get_or INVERSE_SBOX b 0

unsubstituted_test : all_below 256 (λ b. unsubstituted (substitute b) == b) ≡ true
unfolding times_x partial_product product inverse_below inverse substitute unsubstituted
unsubstituted_test = refl

unsubstituted-substitute : (b : ℕ) → b < 256 → unsubstituted (substitute b) ≡ b
unsubstituted-substitute = same_below 256 (λ b. unsubstituted (substitute b)) (λ b. b) unsubstituted_test

restored : (xs : List ℕ) → Fit xs → map unsubstituted (map substitute xs) ≡ xs
restored [] h = refl
restored (x ∷ xs) h =
    ap (λ (t : ℕ). t ∷ map unsubstituted (map substitute xs)) (unsubstituted-substitute x (h 0))
    ∙ ap (λ (t : List ℕ). x ∷ t) (restored xs (λ i. h (suc i)))

sub_bytes-apart : (s t : List ℕ) → IsBlock s → IsBlock t → sub_bytes s ≡ sub_bytes t → s ≡ t
unfolding sub_bytes
sub_bytes-apart s t hs ht e = sym (restored s hs.fits) ∙ ap (map unsubstituted) e ∙ restored t ht.fits

unfoldable pub turned_back : List ℕ → List ℕ
turned_back s =
    get_or s 0 0 ∷ get_or s 13 0 ∷ get_or s 10 0 ∷ get_or s 7 0 ∷ get_or s 4 0 ∷ get_or s 1 0 ∷ get_or s 14 0 ∷ get_or s 11 0
    ∷ get_or s 8 0 ∷ get_or s 5 0 ∷ get_or s 2 0 ∷ get_or s 15 0 ∷ get_or s 12 0 ∷ get_or s 9 0 ∷ get_or s 6 0 ∷ get_or s 3 0 ∷ []

turned_back-shift_rows : (s : List ℕ) → IsBlock s → turned_back (shift_rows s) ≡ s
unfolding shift_rows turned_back
turned_back-shift_rows s h = sym (sixteen s h.len)

shift_rows-apart : (s t : List ℕ) → IsBlock s → IsBlock t → shift_rows s ≡ shift_rows t → s ≡ t
shift_rows-apart s t hs ht e = sym (turned_back-shift_rows s hs) ∙ ap turned_back e ∙ turned_back-shift_rows t ht

unfoldable pub unmixed_columns : List ℕ → List ℕ
unmixed_columns s =
    unmixed_column (get_or s 0 0) (get_or s 1 0) (get_or s 2 0) (get_or s 3 0)
    ++ unmixed_column (get_or s 4 0) (get_or s 5 0) (get_or s 6 0) (get_or s 7 0)
    ++ unmixed_column (get_or s 8 0) (get_or s 9 0) (get_or s 10 0) (get_or s 11 0)
    ++ unmixed_column (get_or s 12 0) (get_or s 13 0) (get_or s 14 0) (get_or s 15 0)

unmixed_columns-mix_columns : (s : List ℕ) → IsBlock s → unmixed_columns (mix_columns s) ≡ s
unfolding mix_columns unmixed_columns
unmixed_columns-mix_columns s h =
    let f : Fit s = h.fits in
    appended
    (unmixed_column-mixed (get_or s 0 0) (get_or s 1 0) (get_or s 2 0) (get_or s 3 0) (f 0) (f 1) (f 2) (f 3))
    (unmixed_column-mixed (get_or s 4 0) (get_or s 5 0) (get_or s 6 0) (get_or s 7 0) (f 4) (f 5) (f 6) (f 7))
    (unmixed_column-mixed (get_or s 8 0) (get_or s 9 0) (get_or s 10 0) (get_or s 11 0) (f 8) (f 9) (f 10) (f 11))
    (unmixed_column-mixed (get_or s 12 0) (get_or s 13 0) (get_or s 14 0) (get_or s 15 0) (f 12) (f 13) (f 14) (f 15))
    ∙ sym (sixteen s h.len)

mix_columns-apart : (s t : List ℕ) → IsBlock s → IsBlock t → mix_columns s ≡ mix_columns t → s ≡ t
mix_columns-apart s t hs ht e =
    sym (unmixed_columns-mix_columns s hs) ∙ ap unmixed_columns e ∙ unmixed_columns-mix_columns t ht

sum_of-apart : (s t k : List ℕ) → IsBlock s → IsBlock t → IsBlock k → sum_of s k ≡ sum_of t k → s ≡ t
sum_of-apart s t k hs ht hk e =
    let ls = hs.len in
    let lt = ht.len in
    let lk = hk.len in
    sym (sum_of-twice s k (omega arith)) ∙ ap (λ (u : List ℕ). sum_of u k) e ∙ sum_of-twice t k (omega arith)

full_round-apart : (key s t : List ℕ) (round : ℕ) → round < 11 → IsBlock key → IsBlock s → IsBlock t
    → full_round key round s ≡ full_round key round t → s ≡ t
unfolding full_round
full_round-apart key s t round l hk hs ht e =
    let ss = sub_bytes_block s hs in
    let st = sub_bytes_block t ht in
    let rs = shift_rows_block _ ss in
    let rt = shift_rows_block _ st in
    sub_bytes-apart s t hs ht (shift_rows-apart _ _ ss st (mix_columns-apart _ _ rs rt
    (sum_of-apart _ _ (round_key key round) (mix_columns_block _ rs) (mix_columns_block _ rt) (round_key_block key round l hk) e)))

after_rounds-apart : (key p q : List ℕ) (n : ℕ) → n < 11 → IsBlock key → IsBlock p → IsBlock q
    → after_rounds key p n ≡ after_rounds key q n → p ≡ q
unfolding after_rounds
after_rounds-apart key p q zero l hk hp hq e = sum_of-apart p q (round_key key 0) hp hq (round_key_block key 0 (omega arith) hk) e
after_rounds-apart key p q (suc n) l hk hp hq e =
    after_rounds-apart key p q n (omega arith) hk hp hq
    (full_round-apart key (after_rounds key p n) (after_rounds key q n) (suc n) l hk
    (after_rounds_block key p n (omega arith) hk hp) (after_rounds_block key q n (omega arith) hk hq) e)

-- two blocks that encipher to one are one
pub encrypt-apart : (key p q : List ℕ) → IsBlock key → IsBlock p → IsBlock q → encrypt key p ≡ encrypt key q → p ≡ q
unfolding last_round encrypt
encrypt-apart key p q hk hp hq e =
    let ap = after_rounds_block key p 9 (omega arith) hk hp in
    let aq = after_rounds_block key q 9 (omega arith) hk hq in
    let sp = sub_bytes_block _ ap in
    let sq = sub_bytes_block _ aq in
    after_rounds-apart key p q 9 (omega arith) hk hp hq
    (sub_bytes-apart _ _ ap aq (shift_rows-apart _ _ sp sq
    (sum_of-apart _ _ (round_key key 10) (shift_rows_block _ sp) (shift_rows_block _ sq) (round_key_block key 10 (omega arith) hk) e)))
