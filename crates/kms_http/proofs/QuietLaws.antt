-- The end of a head is looked for behind a place before which no empty line begins.
use Rattle.std.proofs.Common.{◌≡◌, ℕ, zero, suc, ◌+◌, ◌-◌, ◌≤◌, List, [], ◌∷◌, ◌++◌, length, take, drop, Option, Some, None, is_some, option_map, cond, refl, sym, ap, ◌∙◌, arith, length-drop}
use Rattle.std.proofs.lemmas.List.{drop-append-le, take-append-drop, length-take}
use Rattle.kms_http.specs.HeadEnd.{past, head_len, empty_line}
use Rattle.kms_http.specs.Quiet.{IsQuiet}
use Rattle.kms_http.proofs.PastLaws.{past-more, past-none}

-- more bytes begin no empty line before the last three
pub quiet-append : (place : ℕ) (bytes more : List ℕ) → place ≤ length bytes - 3 → IsQuiet place bytes → IsQuiet place (bytes ++ more)
quiet-append place bytes more early q = λ k lt.
    let within : k ≤ length bytes = omega arith in
    let long : length empty_line ≤ length (drop k bytes) = omega (arith, length-drop k bytes) in
    rw (drop-append-le k bytes more within) (past-none empty_line (drop k bytes) more long (q k lt))

past-shorter : (xs a b : List ℕ) → past xs (a ++ b) ≡ None → past xs a ≡ None
past-shorter xs a b e = step (past xs a) refl
  where
    step : (o : Option (List ℕ)) → past xs a ≡ o → past xs a ≡ None
    step None here = here
    step (Some r) here = absurd (let more = past-more xs a b r here in cc)

-- nor do fewer bytes
pub quiet-take : (place limit : ℕ) (bytes : List ℕ) → place ≤ length bytes → place ≤ limit → IsQuiet place bytes → IsQuiet place (take limit bytes)
quiet-take place limit bytes low high q = λ k lt.
    let within : k ≤ length (take limit bytes) = omega (arith, length-take limit bytes) in
    let whole : drop k bytes ≡ drop k (take limit bytes) ++ drop limit bytes =
    ap (drop k) (sym (take-append-drop limit bytes)) ∙ drop-append-le k (take limit bytes) (drop limit bytes) within in
    past-shorter empty_line (drop k (take limit bytes)) (drop limit bytes) (rw whole at (q k lt))

map_zero : (o : Option ℕ) → o ≡ option_map (λ n. n + 0) o
map_zero None = refl
map_zero (Some n) = ap Some (omega arith)

map_more : (place : ℕ) (o : Option ℕ) → option_map (λ n. n + 1) (option_map (λ n. n + place) o) ≡ option_map (λ n. n + suc place) o
map_more place None = refl
map_more place (Some n) = ap Some (omega arith)

-- so the head ends where it ends behind that place
pub quiet-head : (place : ℕ) (bytes : List ℕ) → place ≤ length bytes → IsQuiet place bytes → head_len bytes ≡ option_map (λ n. n + place) (head_len (drop place bytes))
unfolding head_len
quiet-head zero bytes within q = map_zero (head_len bytes)
quiet-head (suc place) [] within q = absurd (omega arith)
quiet-head (suc place) (b ∷ bytes) within q =
    let here : past empty_line (b ∷ bytes) ≡ None = q 0 (omega arith) in
    let later = quiet-head place bytes (omega arith) (λ k lt. q (suc k) (omega arith)) in
    rw (here, later) (map_more place (head_len (drop place bytes)))

map_none : (o : Option ℕ) → option_map (λ n. n + 1) o ≡ None → o ≡ None
map_none None e = refl
map_none (Some n) e = absurd (cc)

-- where no head ends, no empty line begins
pub none-quiet : (bytes : List ℕ) → head_len bytes ≡ None → (k : ℕ) → past empty_line (drop k bytes) ≡ None
unfolding head_len past
none-quiet [] e zero = refl
none-quiet [] e (suc k) = refl
none-quiet (b ∷ bytes) e zero = step (past empty_line (b ∷ bytes)) refl e
  where
    step : (o : Option (List ℕ)) → past empty_line (b ∷ bytes) ≡ o → cond (is_some o) (Some 4) (option_map (λ n. n + 1) (head_len bytes)) ≡ None → past empty_line (b ∷ bytes) ≡ None
    step None here h = here
    step (Some r) here h = absurd (cc)
none-quiet (b ∷ bytes) e (suc k) = step (past empty_line (b ∷ bytes)) e (λ h. none-quiet bytes h k)
  where
    step : (o : Option (List ℕ)) → cond (is_some o) (Some 4) (option_map (λ n. n + 1) (head_len bytes)) ≡ None → (head_len bytes ≡ None → past empty_line (drop k bytes) ≡ None) → past empty_line (drop k bytes) ≡ None
    step None h tail = tail (map_none (head_len bytes) h)
    step (Some r) h tail = absurd (cc)

-- what was found among the bytes behind the place, of those within the limit
pub found : (place limit : ℕ) (bytes searched rest : List ℕ) (o : Option ℕ) → place ≤ length bytes → place ≤ limit → IsQuiet place bytes
    → searched ≡ take limit bytes → rest ≡ drop place searched → o ≡ head_len rest → option_map (λ n. n + place) o ≡ head_len (take limit bytes)
found place limit bytes searched rest o low high q s r e =
    let within : place ≤ length (take limit bytes) = omega (arith, length-take limit bytes) in
    let same : rest ≡ drop place (take limit bytes) = r ∙ ap (drop place) s in
    sym (quiet-head place (take limit bytes) within (quiet-take place limit bytes low high q) ∙ ap (λ t. option_map (λ n. n + place) (head_len t)) (sym same) ∙ ap (option_map (λ n. n + place)) (sym e))

pub found-bound : (place limit : ℕ) (bytes searched rest : List ℕ) (count : ℕ) → place ≤ length bytes → place ≤ limit
    → searched ≡ take limit bytes → rest ≡ drop place searched → count ≤ length rest → count + place ≤ length bytes
found-bound place limit bytes searched rest count low high s r few =
    omega (arith, ap length s, ap length r, length-take limit bytes, length-drop place searched)
