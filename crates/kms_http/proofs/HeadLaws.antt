-- The end of a head.
use Rattle.std.proofs.Common.{◌≡◌, ℕ, zero, suc, ◌+◌, ◌≤◌, List, [], ◌∷◌, ◌++◌, length, take, Option, Some, None, is_some, option_map, IfSome, cond, refl, ap, arith}
use Rattle.kms_http.specs.HeadEnd.{past, head_len, empty_line}
use Rattle.kms_http.proofs.PastLaws.{some_same, past_length, past-more, past-none}

-- a value that a map gave came from one
pub mapped : {A B : Type 0} (f : A → B) (o : Option A) (y : B) → option_map f o ≡ Some y → (x : A) × (o ≡ Some x) × (f x ≡ y)
mapped f None y e = absurd (cc)
mapped f (Some x) y e = (x, refl, some_same (f x) y e)

-- a head has four bytes at least, and lies within the bytes
pub head_len-bounds : (bytes : List ℕ) (n : ℕ) → head_len bytes ≡ Some n → (4 ≤ n) × (n ≤ length bytes)
unfolding head_len
head_len-bounds [] n e = absurd (cc)
head_len-bounds (b ∷ bytes) n e = step (λ m h. head_len-bounds bytes m h) (past empty_line (b ∷ bytes)) refl e
  where
    step : ((m : ℕ) → head_len bytes ≡ Some m → (4 ≤ m) × (m ≤ length bytes)) → (o : Option (List ℕ)) → past empty_line (b ∷ bytes) ≡ o → cond (is_some o) (Some 4) (option_map (λ k. k + 1) (head_len bytes)) ≡ Some n → (4 ≤ n) × (n ≤ length (b ∷ bytes))
    step shorter (Some r) here h =
        let long : 4 ≤ length (b ∷ bytes) = past_length empty_line (b ∷ bytes) (ap is_some here) in
        let n_is : 4 ≡ n = some_same 4 n h in
        (omega arith, omega arith)
    step shorter None here h =
        let (m, e, k) = mapped (λ k. k + 1) (head_len bytes) n h in
        (omega (arith, shorter m e, k), omega (arith, shorter m e, k))

pub head_len-more : (bytes more : List ℕ) (n : ℕ) → head_len bytes ≡ Some n → head_len (bytes ++ more) ≡ Some n
unfolding head_len
head_len-more [] more n e = absurd (cc)
head_len-more (b ∷ bytes) more n e = step (λ m h. head_len-more bytes more m h) (past empty_line (b ∷ bytes)) refl e
  where
    step : ((m : ℕ) → head_len bytes ≡ Some m → head_len (bytes ++ more) ≡ Some m) → (o : Option (List ℕ)) → past empty_line (b ∷ bytes) ≡ o → cond (is_some o) (Some 4) (option_map (λ k. k + 1) (head_len bytes)) ≡ Some n → cond (is_some (past empty_line (b ∷ (bytes ++ more)))) (Some 4) (option_map (λ k. k + 1) (head_len (bytes ++ more))) ≡ Some n
    step shorter (Some r) here h = rw (past-more empty_line (b ∷ bytes) more r here) h
    step shorter None here h =
        let (m, e, k) = mapped (λ k. k + 1) (head_len bytes) n h in
        let bounds = head_len-bounds bytes m e in
        let long : length empty_line ≤ length (b ∷ bytes) = omega (arith, bounds) in
        rw (past-none empty_line (b ∷ bytes) more long here, shorter m e) (ap Some k)

-- more bytes stand behind what was taken
pub take-onto : (limit : ℕ) (bytes more : List ℕ) → (rest : List ℕ) × (take limit (bytes ++ more) ≡ take limit bytes ++ rest)
take-onto zero bytes more = ([], refl)
take-onto (suc limit) [] more = (take (suc limit) more, refl)
take-onto (suc limit) (b ∷ bytes) more =
    let (rest, e) = take-onto limit bytes more in
    (rest, ap (λ x. b ∷ x) e)

-- the same where the search stops at a limit
pub head-more : (limit : ℕ) (bytes more : List ℕ) (n : ℕ) → head_len (take limit bytes) ≡ Some n → head_len (take limit (bytes ++ more)) ≡ Some n
head-more limit bytes more n e =
    let (rest, onto) = take-onto limit bytes more in
    rw onto (head_len-more (take limit bytes) rest n e)

-- what a value has, it has under a weaker fact too
pub if_some : (o : Option ℕ) (P Q : ℕ → Type 0) → ((n : ℕ) → P n → Q n) → IfSome o P → IfSome o Q
if_some None P Q f h = h
if_some (Some n) P Q f h = f n h
