-- Edits of lists.
use Rattle.std.proofs.Common.{◌≡◌, ℕ, suc, ◌<◌, true, false, List, [], ◌∷◌, map, length, get_or, set, Some, None, cond, refl, ap, arith, inl, inr}
use Prim.Native.Nat.{zero}
use Rattle.std.specs.List.{insert}
use Rattle.std.specs.Prelude.{find}
use Rattle.std.proofs.lemmas.Bool.{cases_Bool}
use Rattle.kms_record.specs.declared.key.WrappedKey.{WrappedKey}
use Rattle.kms_kept.specs.Kept.{is_key_below, insert_key}

module _ {X : Type 0} (f : X → X) where
  -- the first so many are mapped
  abbrev pub mapped : ℕ → List X → List X
  mapped zero xs = xs
  mapped (suc i) [] = []
  mapped (suc i) (x ∷ xs) = f x ∷ mapped i xs

  pub mapped_all : (xs : List X) → mapped (length xs) xs ≡ map f xs
  mapped_all [] = refl
  mapped_all (x ∷ xs) = ap (λ (l : List X). f x ∷ l) (mapped_all xs)

  more : (xs : List X) (i : ℕ) (d : X) → i < length xs → set (mapped i xs) i (f (get_or (mapped i xs) i d)) ≡ mapped (suc i) xs
  more [] i d lt = absurd (omega (arith, lt))
  more (x ∷ xs) zero d lt = refl
  more (x ∷ xs) (suc i) d lt = ap (λ (l : List X). f x ∷ l) (more xs i d (omega (arith, lt)))

  pub mapped_more : (xs ys : List X) (i j : ℕ) (d new : X) → ys ≡ mapped i xs → i < length xs → j ≡ suc i → new ≡ f (get_or ys i d) → set ys i new ≡ mapped j xs
  mapped_more xs ys i j d new so_far lt next is = rw (is, next, so_far) (more xs i d lt)

-- a key before the first that it is below
pub insert_here : (key d : WrappedKey) (keys : List WrappedKey) (i : ℕ) → i < length keys → is_key_below key (get_or keys i d) ≡ true → ((k : ℕ) → k < i → is_key_below key (get_or keys k d) ≡ false)
    → insert keys i key ≡ insert_key key keys
insert_here key d [] i lt here before = absurd (omega (arith, lt))
insert_here key d (x ∷ xs) zero lt here before = rw here refl
insert_here key d (x ∷ xs) (suc i) lt here before =
    rw (before 0 (omega arith)) (ap (λ (l : List WrappedKey). x ∷ l) (insert_here key d xs i (omega (arith, lt)) here (λ k less. before (suc k) (omega (arith, less)))))

-- a key that is below none goes last
pub insert_last : (key : WrappedKey) (keys : List WrappedKey) → find (is_key_below key) keys ≡ None → insert keys (length keys) key ≡ insert_key key keys
insert_last key [] none = refl
insert_last key (x ∷ xs) none = elim (cases_Bool (is_key_below key x)) [
  | inl t ↦ let some : cond true (Some x) (find (is_key_below key) xs) ≡ None = rw t at none in absurd cc
  | inr f ↦ rw f (ap (λ (l : List WrappedKey). x ∷ l) (insert_last key xs (rw f at none)))
]
