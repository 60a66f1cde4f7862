-- The list of methods, item by item.
use Rattle.std.proofs.Common.{◌≡◌, ℕ, List, [], ◌∷◌, ◌++◌, Bool, true, false, not, ◌&&◌, cond, codes, refl, sym, append_assoc}
use Rattle.kms_world.specs.declared.refusal.Allow.{Allow}
use Rattle.std.proofs.lemmas.List.{append-nil}
use Rattle.kms_http.specs.Allow.{chosen, methods, comma_list, allow_text, item}

-- the items one after another
abbrev items : Bool → List (Bool × List ℕ) → List ℕ
items is_first [] = []
items is_first (x ∷ xs) = item is_first x.0 x.1 ++ items (is_first && not x.0) xs

-- with a comma and a space in front, where there are words
abbrev continued : List (List ℕ) → List ℕ
continued [] = []
continued (word ∷ words) = codes ", " ++ comma_list (word ∷ words)

comma_list-cons : (word : List ℕ) (words : List (List ℕ)) → comma_list (word ∷ words) ≡ word ++ continued words
comma_list-cons word [] = sym (append-nil word)
comma_list-cons word (next ∷ words) = append_assoc word (codes ", ") (comma_list (next ∷ words))

later_items : (xs : List (Bool × List ℕ)) → items false xs ≡ continued (chosen xs)
later_items [] = refl
later_items (x ∷ xs) = step x.0 (later_items xs)
  where
    step : (b : Bool) → items false xs ≡ continued (chosen xs) → item false b x.1 ++ items (false && not b) xs ≡ continued (cond b (x.1 ∷ chosen xs) (chosen xs))
    step true e = rw (e, comma_list-cons) (append_assoc (codes ", ") x.1 (continued (chosen xs)))
    step false e = e

all_items : (xs : List (Bool × List ℕ)) → items true xs ≡ comma_list (chosen xs)
all_items [] = refl
all_items (x ∷ xs) = step x.0 (all_items xs)
  where
    step : (b : Bool) → items true xs ≡ comma_list (chosen xs) → item true b x.1 ++ items (true && not b) xs ≡ comma_list (cond b (x.1 ∷ chosen xs) (chosen xs))
    step true e = rw (later_items xs, comma_list-cons) refl
    step false e = e

-- five items put one after another
pub put_items : (out : List ℕ) (a : Allow) {o₁ o₂ o₃ o₄ o₅ : List ℕ} (b₁ b₂ b₃ b₄ : Bool)
    → o₁ ≡ out ++ item true a.get (codes "GET") → b₁ ≡ (true && not a.get)
    → o₂ ≡ o₁ ++ item b₁ a.post (codes "POST") → b₂ ≡ (b₁ && not a.post)
    → o₃ ≡ o₂ ++ item b₂ a.put (codes "PUT") → b₃ ≡ (b₂ && not a.put)
    → o₄ ≡ o₃ ++ item b₃ a.patch (codes "PATCH") → b₄ ≡ (b₃ && not a.patch)
    → o₅ ≡ o₄ ++ item b₄ a.delete (codes "DELETE") → o₅ ≡ out ++ allow_text a
unfolding allow_text
put_items out a b₁ b₂ b₃ b₄ p₁ q₁ p₂ q₂ p₃ q₃ p₄ q₄ p₅ =
    rw (p₅, p₄, p₃, p₂, p₁, q₄, q₃, q₂, q₁, ← all_items (methods a)) (simp (append_assoc, append-nil))
