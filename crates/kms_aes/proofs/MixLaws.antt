-- The matrix of MixColumns and that of its inverse undo one another (FIPS 197, sections 5.1.3 and
-- 5.3.3).
use Rattle.std.proofs.Common.{◌≡◌, ℕ, List, [], ◌∷◌, ◌<◌, ◌==◌, true, refl, ap, ◌∙◌, bit_xor}
use lib.Bits.{xor_zero_r}
use Rattle.kms_aes.specs.Field.{times_x, partial_product, product}
use Rattle.kms_aes.specs.Cipher.{sum_of_four, mixed_byte, mixed_column}
use Rattle.kms_aes.proofs.AllBytes.{all_below, same_below}
use Rattle.kms_aes.proofs.Xor.{sum_of_four-across, sum_of_four-turn}
use Rattle.kms_aes.proofs.FieldLaws.{product_fits, product-sum_of_four}

-- a byte of a column under the inverse of the matrix
abbrev pub unmixed : ℕ → ℕ → ℕ → ℕ → ℕ
unmixed a b c d = sum_of_four (product 14 a) (product 11 b) (product 13 c) (product 9 d)

nothing : ℕ → ℕ
nothing a = 0

itself : ℕ → ℕ
itself a = a

alone : (a : ℕ) → sum_of_four a 0 0 0 ≡ a
unfolding sum_of_four
alone a = xor_zero_r (bit_xor a 0) ∙ xor_zero_r a

turned_twice : (a b c d : ℕ) → sum_of_four a b c d ≡ sum_of_four c d a b
turned_twice a b c d = sum_of_four-turn a b c d ∙ sum_of_four-turn d a b c

turned_thrice : (a b c d : ℕ) → sum_of_four a b c d ≡ sum_of_four b c d a
turned_thrice a b c d = turned_twice a b c d ∙ sum_of_four-turn c d a b

-- equal summands have equal sums
summed : {a b c d a' b' c' d' : ℕ} → a ≡ a' → b ≡ b' → c ≡ c' → d ≡ d'
    → sum_of_four a b c d ≡ sum_of_four a' b' c' d'
summed {b = b} {c = c} {d = d} {a' = a'} {b' = b'} {c' = c'} p q r s =
    ap (λ (t : ℕ). sum_of_four t b c d) p
    ∙ ap (λ (t : ℕ). sum_of_four a' t c d) q
    ∙ ap (λ (t : ℕ). sum_of_four a' b' t d) r
    ∙ ap (λ (t : ℕ). sum_of_four a' b' c' t) s

remixed_a : ℕ → ℕ
remixed_a x = sum_of_four (product 2 (product 14 x)) (product 3 (product 9 x)) (product 13 x) (product 11 x)

remixed_a_test : all_below 256 (λ x. remixed_a x == itself x) ≡ true
unfolding times_x partial_product product sum_of_four itself remixed_a
remixed_a_test = refl

remixed_b : ℕ → ℕ
remixed_b x = sum_of_four (product 2 (product 11 x)) (product 3 (product 14 x)) (product 9 x) (product 13 x)

remixed_b_test : all_below 256 (λ x. remixed_b x == nothing x) ≡ true
unfolding times_x partial_product product sum_of_four nothing remixed_b
remixed_b_test = refl

remixed_c : ℕ → ℕ
remixed_c x = sum_of_four (product 2 (product 13 x)) (product 3 (product 11 x)) (product 14 x) (product 9 x)

remixed_c_test : all_below 256 (λ x. remixed_c x == nothing x) ≡ true
unfolding times_x partial_product product sum_of_four nothing remixed_c
remixed_c_test = refl

remixed_d : ℕ → ℕ
remixed_d x = sum_of_four (product 2 (product 9 x)) (product 3 (product 13 x)) (product 11 x) (product 14 x)

remixed_d_test : all_below 256 (λ x. remixed_d x == nothing x) ≡ true
unfolding times_x partial_product product sum_of_four nothing remixed_d
remixed_d_test = refl

-- to mix what is unmixed gives it back
pub mixed_byte-unmixed : (a b c d : ℕ) → a < 256 → b < 256 → c < 256 → d < 256
    → mixed_byte (unmixed a b c d) (unmixed b c d a) (unmixed c d a b) (unmixed d a b c) ≡ a
unfolding remixed_a remixed_b remixed_c remixed_d itself nothing
mixed_byte-unmixed a b c d ha hb hc hd =
    let row0 : product 2 (unmixed a b c d) ≡ sum_of_four (product 2 (product 14 a)) (product 2 (product 11 b)) (product 2 (product 13 c)) (product 2 (product 9 d))
    = product-sum_of_four 2 (product 14 a) (product 11 b) (product 13 c) (product 9 d) (product_fits 14 a ha) (product_fits 11 b hb) (product_fits 13 c hc) (product_fits 9 d hd) in
    let row1 : product 3 (unmixed b c d a) ≡ sum_of_four (product 3 (product 9 a)) (product 3 (product 14 b)) (product 3 (product 11 c)) (product 3 (product 13 d))
    = ap (λ (t : ℕ). product 3 t) (sum_of_four-turn (product 14 b) (product 11 c) (product 13 d) (product 9 a)) ∙ product-sum_of_four 3 (product 9 a) (product 14 b) (product 11 c) (product 13 d) (product_fits 9 a ha) (product_fits 14 b hb) (product_fits 11 c hc) (product_fits 13 d hd) in
    let row2 : unmixed c d a b ≡ sum_of_four (product 13 a) (product 9 b) (product 14 c) (product 11 d)
    = turned_twice (product 14 c) (product 11 d) (product 13 a) (product 9 b) in
    let row3 : unmixed d a b c ≡ sum_of_four (product 11 a) (product 13 b) (product 9 c) (product 14 d)
    = turned_thrice (product 14 d) (product 11 a) (product 13 b) (product 9 c) in
    summed row0 row1 row2 row3
    ∙ sum_of_four-across (product 2 (product 14 a)) (product 2 (product 11 b)) (product 2 (product 13 c)) (product 2 (product 9 d)) (product 3 (product 9 a)) (product 3 (product 14 b)) (product 3 (product 11 c)) (product 3 (product 13 d)) (product 13 a) (product 9 b) (product 14 c) (product 11 d) (product 11 a) (product 13 b) (product 9 c) (product 14 d)
    ∙ summed
    (same_below 256 remixed_a itself remixed_a_test a ha)
    (same_below 256 remixed_b nothing remixed_b_test b hb)
    (same_below 256 remixed_c nothing remixed_c_test c hc)
    (same_below 256 remixed_d nothing remixed_d_test d hd)
    ∙ alone a

restored_a : ℕ → ℕ
restored_a x = sum_of_four (product 14 (product 2 x)) (product 11 x) (product 13 x) (product 9 (product 3 x))

restored_a_test : all_below 256 (λ x. restored_a x == itself x) ≡ true
unfolding times_x partial_product product sum_of_four itself restored_a
restored_a_test = refl

restored_b : ℕ → ℕ
restored_b x = sum_of_four (product 14 (product 3 x)) (product 11 (product 2 x)) (product 13 x) (product 9 x)

restored_b_test : all_below 256 (λ x. restored_b x == nothing x) ≡ true
unfolding times_x partial_product product sum_of_four nothing restored_b
restored_b_test = refl

restored_c : ℕ → ℕ
restored_c x = sum_of_four (product 14 x) (product 11 (product 3 x)) (product 13 (product 2 x)) (product 9 x)

restored_c_test : all_below 256 (λ x. restored_c x == nothing x) ≡ true
unfolding times_x partial_product product sum_of_four nothing restored_c
restored_c_test = refl

restored_d : ℕ → ℕ
restored_d x = sum_of_four (product 14 x) (product 11 x) (product 13 (product 3 x)) (product 9 (product 2 x))

restored_d_test : all_below 256 (λ x. restored_d x == nothing x) ≡ true
unfolding times_x partial_product product sum_of_four nothing restored_d
restored_d_test = refl

-- to unmix what is mixed gives it back
pub unmixed-mixed_byte : (a b c d : ℕ) → a < 256 → b < 256 → c < 256 → d < 256
    → unmixed (mixed_byte a b c d) (mixed_byte b c d a) (mixed_byte c d a b) (mixed_byte d a b c) ≡ a
unfolding restored_a restored_b restored_c restored_d itself nothing
unmixed-mixed_byte a b c d ha hb hc hd =
    let row0 : product 14 (mixed_byte a b c d) ≡ sum_of_four (product 14 (product 2 a)) (product 14 (product 3 b)) (product 14 c) (product 14 d)
    = product-sum_of_four 14 (product 2 a) (product 3 b) c d (product_fits 2 a ha) (product_fits 3 b hb) hc hd in
    let row1 : product 11 (mixed_byte b c d a) ≡ sum_of_four (product 11 a) (product 11 (product 2 b)) (product 11 (product 3 c)) (product 11 d)
    = ap (λ (t : ℕ). product 11 t) (sum_of_four-turn (product 2 b) (product 3 c) d a) ∙ product-sum_of_four 11 a (product 2 b) (product 3 c) d ha (product_fits 2 b hb) (product_fits 3 c hc) hd in
    let row2 : product 13 (mixed_byte c d a b) ≡ sum_of_four (product 13 a) (product 13 b) (product 13 (product 2 c)) (product 13 (product 3 d))
    = ap (λ (t : ℕ). product 13 t) (turned_twice (product 2 c) (product 3 d) a b) ∙ product-sum_of_four 13 a b (product 2 c) (product 3 d) ha hb (product_fits 2 c hc) (product_fits 3 d hd) in
    let row3 : product 9 (mixed_byte d a b c) ≡ sum_of_four (product 9 (product 3 a)) (product 9 b) (product 9 c) (product 9 (product 2 d))
    = ap (λ (t : ℕ). product 9 t) (turned_thrice (product 2 d) (product 3 a) b c) ∙ product-sum_of_four 9 (product 3 a) b c (product 2 d) (product_fits 3 a ha) hb hc (product_fits 2 d hd) in
    summed row0 row1 row2 row3
    ∙ sum_of_four-across (product 14 (product 2 a)) (product 14 (product 3 b)) (product 14 c) (product 14 d) (product 11 a) (product 11 (product 2 b)) (product 11 (product 3 c)) (product 11 d) (product 13 a) (product 13 b) (product 13 (product 2 c)) (product 13 (product 3 d)) (product 9 (product 3 a)) (product 9 b) (product 9 c) (product 9 (product 2 d))
    ∙ summed
    (same_below 256 restored_a itself restored_a_test a ha)
    (same_below 256 restored_b nothing restored_b_test b hb)
    (same_below 256 restored_c nothing restored_c_test c hc)
    (same_below 256 restored_d nothing restored_d_test d hd)
    ∙ alone a

-- four bytes in a list
listed : {a b c d a' b' c' d' : ℕ} → a ≡ a' → b ≡ b' → c ≡ c' → d ≡ d'
    → ◌≡◌ {A = List ℕ} (a ∷ b ∷ c ∷ d ∷ []) (a' ∷ b' ∷ c' ∷ d' ∷ [])
listed {b = b} {c = c} {d = d} {a' = a'} {b' = b'} {c' = c'} p q r s =
    ap (λ (t : ℕ). t ∷ b ∷ c ∷ d ∷ []) p
    ∙ ap (λ (t : ℕ). a' ∷ t ∷ c ∷ d ∷ []) q
    ∙ ap (λ (t : ℕ). a' ∷ b' ∷ t ∷ d ∷ []) r
    ∙ ap (λ (t : ℕ). a' ∷ b' ∷ c' ∷ t ∷ []) s

-- the column that is mixed to a given one
pub mixed_column-unmixed : (a b c d : ℕ) → a < 256 → b < 256 → c < 256 → d < 256
    → mixed_column (unmixed a b c d) (unmixed b c d a) (unmixed c d a b) (unmixed d a b c) ≡ a ∷ b ∷ c ∷ d ∷ []
mixed_column-unmixed a b c d ha hb hc hd =
    listed
    (mixed_byte-unmixed a b c d ha hb hc hd)
    (mixed_byte-unmixed b c d a hb hc hd ha)
    (mixed_byte-unmixed c d a b hc hd ha hb)
    (mixed_byte-unmixed d a b c hd ha hb hc)

abbrev pub unmixed_column : ℕ → ℕ → ℕ → ℕ → List ℕ
unmixed_column a b c d = unmixed a b c d ∷ unmixed b c d a ∷ unmixed c d a b ∷ unmixed d a b c ∷ []

pub unmixed_column-mixed : (a b c d : ℕ) → a < 256 → b < 256 → c < 256 → d < 256
    → unmixed_column (mixed_byte a b c d) (mixed_byte b c d a) (mixed_byte c d a b) (mixed_byte d a b c) ≡ a ∷ b ∷ c ∷ d ∷ []
unmixed_column-mixed a b c d ha hb hc hd =
    listed
    (unmixed-mixed_byte a b c d ha hb hc hd)
    (unmixed-mixed_byte b c d a hb hc hd ha)
    (unmixed-mixed_byte c d a b hc hd ha hb)
    (unmixed-mixed_byte d a b c hd ha hb hc)
