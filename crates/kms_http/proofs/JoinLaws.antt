-- Texts with commas between them, one more at a time.
use Rattle.std.proofs.Common.{◌≡◌, ℕ, List, [], ◌∷◌, ◌++◌, Bool, true, false, map, refl, sym, ap, ◌∙◌, append_assoc}
use Rattle.kms_http.specs.Routing.{joined, value_text, with_text}

-- there are none
abbrev pub has_none : List (List ℕ) → Bool
has_none [] = true
has_none (text ∷ texts) = false

joined-onto : (text other : List ℕ) (texts : List (List ℕ)) → joined (text ∷ (texts ++ other ∷ [])) ≡ joined (text ∷ texts) ++ 44 ∷ other
joined-onto text other [] = refl
joined-onto text other (next ∷ texts) =
    ap (λ t. text ++ 44 ∷ t) (joined-onto next other texts) ∙ sym (append_assoc text (44 ∷ joined (next ∷ texts)) (44 ∷ other))

joined-more : (texts : List (List ℕ)) (other : List ℕ) → joined (map value_text texts ++ other ∷ []) ≡ with_text (has_none texts) (joined (map value_text texts)) other
joined-more [] other = refl
joined-more (text ∷ texts) other = joined-onto (value_text text) other (map value_text texts)

map-more : (texts : List (List ℕ)) (other : List ℕ) → map value_text (texts ++ other ∷ []) ≡ map value_text texts ++ value_text other ∷ []
map-more [] other = refl
map-more (text ∷ texts) other = ap (λ t. value_text text ∷ t) (map-more texts other)

pub has_none-more : (texts : List (List ℕ)) (other : List ℕ) → has_none (texts ++ other ∷ []) ≡ false
has_none-more [] other = refl
has_none-more (text ∷ texts) other = refl

pub joined-values : (texts : List (List ℕ)) (other : List ℕ) → joined (map value_text (texts ++ other ∷ [])) ≡ with_text (has_none texts) (joined (map value_text texts)) (value_text other)
joined-values texts other = ap joined (map-more texts other) ∙ joined-more texts (value_text other)
