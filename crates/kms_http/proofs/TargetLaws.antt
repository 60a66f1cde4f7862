-- Parts of a target.
use Rattle.std.proofs.Common.{◌≡◌, ◌≢◌, ℕ, List, [], ◌∷◌, ◌++◌, nat_eq, Bool, true, false, cond, refl, ap}
use Rattle.std.proofs.lemmas.Bool.{eqb-true}
use Rattle.kms_http.specs.Targets.{drop_slash}

-- a slash behind a text is dropped
pub slash-dropped : (front : List ℕ) → drop_slash (front ++ 47 ∷ []) ≡ front
unfolding drop_slash
slash-dropped [] = refl
slash-dropped (b ∷ []) = refl
slash-dropped (b ∷ c ∷ front) = ap (λ t. b ∷ t) (slash-dropped (c ∷ front))

-- and a text without one stays
pub slash-kept : (bytes : List ℕ) → ((front : List ℕ) → bytes ≢ front ++ 47 ∷ []) → drop_slash bytes ≡ bytes
unfolding drop_slash
slash-kept [] none = refl
slash-kept (b ∷ []) none = at (nat_eq b 47) refl
  where
    at : (t : Bool) → nat_eq b 47 ≡ t → cond t [] (b ∷ []) ≡ b ∷ []
    at false e = refl
    at true e = absurd (none [] (ap (λ x. x ∷ []) (eqb-true b 47 e)))
slash-kept (b ∷ c ∷ bytes) none = ap (λ t. b ∷ t) (slash-kept (c ∷ bytes) (λ front e. none (b ∷ front) (ap (λ t. b ∷ t) e)))
