-- Lists of four and of sixteen bytes by their elements, and the steps of a round on them.
use Rattle.std.proofs.Common.{◌≡◌, ℕ, zero, suc, ◌+◌, ◌<◌, ◌≤◌, List, [], ◌∷◌, ◌++◌, length, get_or, set, take, drop, map, arith, refl, sym, ap, ◌∙◌, bit_xor, add-one}
use Rattle.std.proofs.lemmas.List.{drop_more, take_more, take_more_set, drop-set-lt, map-append, append-nil, take_all, drop_all}
use Rattle.kms_aes.specs.Field.{sum_of}
use Rattle.kms_aes.specs.Cipher.{mixed_column, mix_columns, IsMixedTo}
use Rattle.kms_aes.proofs.Xor.{xor-twice}

-- the n elements of a list from place i on
abbrev entries : ℕ → ℕ → List ℕ → List ℕ
entries zero i s = []
entries (suc n) i s = get_or s i 0 ∷ entries n (i + 1) s

drop-entries : (n i : ℕ) (s : List ℕ) → i + n ≡ length s → drop i s ≡ entries n i s
drop-entries zero i s e = drop_all i s (omega arith)
drop-entries (suc n) i s e =
    drop_more s i 0 (omega arith)
    ∙ ap (λ (t : List ℕ). get_or s i 0 ∷ t) (drop-entries n (i + 1) s (omega arith))

pub four : (w : List ℕ) → length w ≡ 4 → w ≡ entries 4 0 w
four w e = drop-entries 4 0 w (sym e)

pub sixteen : (s : List ℕ) → length s ≡ 16 → s ≡ entries 16 0 s
sixteen s e = drop-entries 16 0 s (sym e)

-- four words one after another
pub appended : {a b c d a' b' c' d' : List ℕ} → a ≡ a' → b ≡ b' → c ≡ c' → d ≡ d'
    → a ++ b ++ c ++ d ≡ a' ++ b' ++ c' ++ d'
appended {b = b} {c = c} {d = d} {a' = a'} {b' = b'} {c' = c'} p q r s =
    ap (λ (t : List ℕ). t ++ b ++ c ++ d) p
    ∙ ap (λ (t : List ℕ). a' ++ t ++ c ++ d) q
    ∙ ap (λ (t : List ℕ). a' ++ b' ++ t ++ d) r
    ∙ ap (λ (t : List ℕ). a' ++ b' ++ c' ++ t) s

-- and their bytes
pub joined_words : (a b c d : List ℕ) → length a ≡ 4 → length b ≡ 4 → length c ≡ 4 → length d ≡ 4
    → entries 4 0 a ++ entries 4 0 b ++ entries 4 0 c ++ entries 4 0 d ≡ a ++ b ++ c ++ d
joined_words a b c d ha hb hc hd = appended (sym (four a ha)) (sym (four b hb)) (sym (four c hc)) (sym (four d hd))

-- a state whose columns are mixed
pub mixed_state : (s a b c d : List ℕ)
    → a ≡ mixed_column (get_or s 0 0) (get_or s 1 0) (get_or s 2 0) (get_or s 3 0)
    → b ≡ mixed_column (get_or s 4 0) (get_or s 5 0) (get_or s 6 0) (get_or s 7 0)
    → c ≡ mixed_column (get_or s 8 0) (get_or s 9 0) (get_or s 10 0) (get_or s 11 0)
    → d ≡ mixed_column (get_or s 12 0) (get_or s 13 0) (get_or s 14 0) (get_or s 15 0)
    → a ++ b ++ c ++ d ≡ mix_columns s
unfolding mix_columns
mixed_state s a b c d p q r t = appended p q r t

-- a state whose columns are unmixed
pub unmixed_state : (s a b c d : List ℕ) → length s ≡ 16
    → IsMixedTo a (get_or s 0 0) (get_or s 1 0) (get_or s 2 0) (get_or s 3 0)
    → IsMixedTo b (get_or s 4 0) (get_or s 5 0) (get_or s 6 0) (get_or s 7 0)
    → IsMixedTo c (get_or s 8 0) (get_or s 9 0) (get_or s 10 0) (get_or s 11 0)
    → IsMixedTo d (get_or s 12 0) (get_or s 13 0) (get_or s 14 0) (get_or s 15 0)
    → mix_columns (a ++ b ++ c ++ d) ≡ s
unfolding mix_columns
unmixed_state s a b c d e p q r t =
    ap mix_columns (appended (four a p.0) (four b q.0) (four c r.0) (four d t.0))
    ∙ appended p.1 q.1 r.1 t.1
    ∙ sym (sixteen s e)

-- a step of a loop that finds what a function makes into each element
pub sought_more : (f : ℕ → ℕ) (s items : List ℕ) (i x : ℕ) → i < length s → length items ≡ length s
    → map f (take i items) ≡ take i s → drop i items ≡ drop i s → f x ≡ get_or items i 0
    → (map f (take (i + 1) (set items i x)) ≡ take (i + 1) s) × (drop (i + 1) (set items i x) ≡ drop (i + 1) s)
sought_more f s items i x h len done rest is =
    let here : i < length items = omega arith in
    let both : ◌≡◌ {A = List ℕ} (get_or items i 0 ∷ drop (i + 1) items) (get_or s i 0 ∷ drop (i + 1) s)
    = sym (drop_more items i 0 here) ∙ rest ∙ drop_more s i 0 h in
    let same : get_or items i 0 ≡ get_or s i 0 = cc in
    let more : drop (i + 1) items ≡ drop (i + 1) s = cc in (
      ap (map f) (take_more_set items i x here)
          ∙ map-append f (take i items) (x ∷ [])
          ∙ ap (λ (t : List ℕ). t ++ f x ∷ []) done
          ∙ ap (λ (t : ℕ). take i s ++ t ∷ []) (is ∙ same)
          ∙ sym (take_more s i 0 h),
      drop-set-lt (i + 1) items i x (omega arith) ∙ more,
    )

summed_more : (s k : List ℕ) (i : ℕ) → i < length s → i < length k
    → set (sum_of (take i s) (take i k) ++ drop i s) i
    (bit_xor (get_or (sum_of (take i s) (take i k) ++ drop i s) i 0) (get_or k i 0))
    ≡ sum_of (take (suc i) s) (take (suc i) k) ++ drop (suc i) s
summed_more [] k i h l = absurd (omega arith)
summed_more (x ∷ xs) [] i h l = absurd (omega arith)
summed_more (x ∷ xs) (y ∷ ys) zero h l = refl
summed_more (x ∷ xs) (y ∷ ys) (suc i) h l =
    ap (λ (t : List ℕ). bit_xor x y ∷ t) (summed_more xs ys i (omega arith) (omega arith))

-- a step of a loop that adds the second list to the first in place
pub sum_of-more : (s k items : List ℕ) (i : ℕ) → i < length s → i < length k
    → items ≡ sum_of (take i s) (take i k) ++ drop i s
    → set items i (bit_xor (get_or items i 0) (get_or k i 0))
    ≡ sum_of (take (i + 1) s) (take (i + 1) k) ++ drop (i + 1) s
sum_of-more s k items i h l e =
    ap (λ (t : List ℕ). set t i (bit_xor (get_or t i 0) (get_or k i 0))) e
    ∙ rw add-one (summed_more s k i h l)

-- and its end
pub sum_of-all : (s k items : List ℕ) (i : ℕ) → length s ≤ i → length k ≤ i
    → items ≡ sum_of (take i s) (take i k) ++ drop i s → items ≡ sum_of s k
sum_of-all s k items i h l e =
    e
    ∙ ap (λ (t : List ℕ). sum_of (take i s) (take i k) ++ t) (drop_all i s h)
    ∙ append-nil (sum_of (take i s) (take i k))
    ∙ ap (λ (t : List ℕ). sum_of t (take i k)) (take_all i s h)
    ∙ ap (λ (t : List ℕ). sum_of s t) (take_all i k l)

-- what is added twice is gone
pub sum_of-twice : (s k : List ℕ) → length s ≤ length k → sum_of (sum_of s k) k ≡ s
sum_of-twice [] k h = refl
sum_of-twice (x ∷ xs) [] h = absurd (omega arith)
sum_of-twice (x ∷ xs) (y ∷ ys) h =
    ap (λ (t : List ℕ). bit_xor (bit_xor x y) y ∷ t) (sum_of-twice xs ys (omega arith))
    ∙ ap (λ (t : ℕ). t ∷ xs) (xor-twice x y)
