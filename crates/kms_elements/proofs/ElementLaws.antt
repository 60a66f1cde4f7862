-- The elements of a value, one after the other.
use Rattle.std.proofs.Common.{◌≡◌, ℕ, suc, ◌+◌, ◌<◌, ◌≤◌, List, [], ◌∷◌, length, take, drop, not, cond, Bool, true, false, inl, inr, ◌⊎◌, refl, sym, ap, ◌∙◌, arith}
use Rattle.std.specs.Prelude.{◌==◌}
use Rattle.std.specs.List.{list_any, prefix_len}
use Rattle.std.proofs.lemmas.Bool.{cases_lt}
use Rattle.std.proofs.lemmas.List.{take_all}
use Rattle.kms_elements.specs.Elements.{elements, onto}

abbrev pub is_inner : ℕ → Bool
is_inner b = not (b == 44)

pub elements-last : (bytes : List ℕ) → prefix_len is_inner bytes ≡ length bytes → elements bytes ≡ bytes ∷ []
elements-last [] e = refl
elements-last (b ∷ bytes) e = step (λ h. elements-last bytes h) (b == 44) refl e
  where
    step : (prefix_len is_inner bytes ≡ length bytes → elements bytes ≡ bytes ∷ []) → (t : Bool) → (b == 44) ≡ t → cond (not t) (1 + prefix_len is_inner bytes) 0 ≡ suc (length bytes) → cond t ([] ∷ elements bytes) (onto b (elements bytes)) ≡ (b ∷ bytes) ∷ []
    step shorter true here h = absurd (omega arith)
    step shorter false here h = ap (onto b) (shorter (omega arith))

pub elements-more : (bytes : List ℕ) → prefix_len is_inner bytes < length bytes
    → elements bytes ≡ take (prefix_len is_inner bytes) bytes ∷ elements (drop (prefix_len is_inner bytes + 1) bytes)
elements-more [] below = absurd (omega arith)
elements-more (b ∷ bytes) below = step (λ h. elements-more bytes h) (b == 44) refl below
  where
    step : (prefix_len is_inner bytes < length bytes → elements bytes ≡ take (prefix_len is_inner bytes) bytes ∷ elements (drop (prefix_len is_inner bytes + 1) bytes)) → (t : Bool) → (b == 44) ≡ t → cond (not t) (1 + prefix_len is_inner bytes) 0 < suc (length bytes)
        → cond t ([] ∷ elements bytes) (onto b (elements bytes)) ≡ take (cond (not t) (1 + prefix_len is_inner bytes) 0) (b ∷ bytes) ∷ elements (drop (cond (not t) (1 + prefix_len is_inner bytes) 0 + 1) (b ∷ bytes))
    step shorter true here h = refl
    step shorter false here h =
        let n = prefix_len is_inner bytes in
        let here_is : 1 + n ≡ suc n = omega arith in
        let next : suc n + 1 ≡ suc (n + 1) = omega arith in
        let whole : onto b (elements bytes) ≡ take (suc n) (b ∷ bytes) ∷ elements (drop (suc (n + 1)) (b ∷ bytes)) = ap (onto b) (shorter (omega arith)) in
        whole ∙ ap (λ k. take (suc n) (b ∷ bytes) ∷ elements (drop k (b ∷ bytes))) (sym next) ∙ ap (λ k. take k (b ∷ bytes) ∷ elements (drop (k + 1) (b ∷ bytes))) (sym here_is)

is-first : (bytes : List ℕ) (end : ℕ) → end ≡ prefix_len is_inner bytes → end < length bytes → elements bytes ≡ take end bytes ∷ elements (drop (end + 1) bytes)
is-first bytes end e below = rw e (elements-more bytes (omega (arith, e)))

is-only : (bytes : List ℕ) (end : ℕ) → end ≡ prefix_len is_inner bytes → end ≡ length bytes → elements bytes ≡ take end bytes ∷ []
is-only bytes end e all = elements-last bytes (sym e ∙ all) ∙ ap (λ t. t ∷ []) (sym (take_all end bytes (omega arith)))

pub first_passes : (test : List ℕ → Bool) (bytes : List ℕ) (end : ℕ) → end ≡ prefix_len is_inner bytes → end ≤ length bytes → test (take end bytes) ≡ true → list_any test (elements bytes) ≡ true
first_passes test bytes end e within passes = step (cases_lt end (length bytes))
  where
    step : (end < length bytes) ⊎ (length bytes ≤ end) → list_any test (elements bytes) ≡ true
    step (inl below) = rw (is-first bytes end e below, passes) refl
    step (inr all) = rw (is-only bytes end e (omega arith), passes) refl

pub last_fails : (test : List ℕ → Bool) (bytes : List ℕ) (end : ℕ) → end ≡ prefix_len is_inner bytes → end ≡ length bytes → test (take end bytes) ≡ false → list_any test (elements bytes) ≡ false
last_fails test bytes end e all passes = rw (is-only bytes end e all, passes) refl

pub others_decide : (test : List ℕ → Bool) (bytes : List ℕ) (end : ℕ) → end ≡ prefix_len is_inner bytes → end < length bytes → test (take end bytes) ≡ false → list_any test (elements bytes) ≡ list_any test (elements (drop (end + 1) bytes))
others_decide test bytes end e below passes = rw (is-first bytes end e below, passes) refl
