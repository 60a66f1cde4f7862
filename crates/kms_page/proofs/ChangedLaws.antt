-- Pages of rows that are changed where neither filters nor keys look.
use Rattle.std.proofs.Common.{◌≡◌, Bool, true, false, cond, List, [], ◌∷◌, map, length, take, drop, refl, ap, ◌∙◌}
use Rattle.std.specs.Prelude.{filter}
use Rattle.std.specs.declared.cmp.Ordering.{Ordering}
use Rattle.std.specs.Ordering.{is_gt}
use Rattle.std.proofs.lemmas.List.{take-map, drop-map, length-map}
use Rattle.kms_world.specs.declared.secret.SecretRow.{SecretRow}
use Rattle.kms_page.specs.Filter.{passes}
use Rattle.kms_page.specs.Order.{row_cmp}
use Rattle.kms_page.specs.Page.{page_of_list}
use Rattle.kms_page.specs.Sorted.{put, sorted}
use Rattle.kms_page.specs.declared.query.Query.{Query}
use Rattle.kms_page.specs.declared.sorts.SortKey.{SortKey}

filter_changed : {X : Type 0} (p : X → Bool) (f : X → X) → ((x : X) → p (f x) ≡ p x) → (xs : List X) → filter p (map f xs) ≡ map f (filter p xs)
filter_changed p f same [] = refl
filter_changed p f same (x ∷ xs) = rw (same x) (step (p x) (filter_changed p f same xs))
  where
    step : (b : Bool) → filter p (map f xs) ≡ map f (filter p xs) → cond b (f x ∷ filter p (map f xs)) (filter p (map f xs)) ≡ map f (cond b (x ∷ filter p xs) (filter p xs))
    step true e = ap (λ ys. f x ∷ ys) e
    step false e = e

put_changed : {X : Type 0} (R : X → X → Ordering) (f : X → X) → ((x y : X) → R (f x) (f y) ≡ R x y) → (x : X) (ys : List X) → put R (f x) (map f ys) ≡ map f (put R x ys)
put_changed R f same x [] = refl
put_changed R f same x (y ∷ ys) = rw (same x y) (step (is_gt (R x y)) (put_changed R f same x ys))
  where
    step : (b : Bool) → put R (f x) (map f ys) ≡ map f (put R x ys) → cond b (f y ∷ put R (f x) (map f ys)) (f x ∷ f y ∷ map f ys) ≡ map f (cond b (y ∷ put R x ys) (x ∷ y ∷ ys))
    step true e = ap (λ zs. f y ∷ zs) e
    step false e = refl

sorted_changed : {X : Type 0} (R : X → X → Ordering) (f : X → X) → ((x y : X) → R (f x) (f y) ≡ R x y) → (xs : List X) → sorted R (map f xs) ≡ map f (sorted R xs)
sorted_changed R f same [] = refl
sorted_changed R f same (x ∷ xs) = ap (put R (f x)) (sorted_changed R f same xs) ∙ put_changed R f same x (sorted R xs)

-- neither filters nor keys look at what is changed
pub record IsUnseen (f : SecretRow → SecretRow) : Type 0 where
  pub filters : (query : Query) (row : SecretRow) → passes query (f row) ≡ passes query row
  pub keys : (sorts : List (SortKey × Bool)) (a b : SecretRow) → row_cmp sorts (f a) (f b) ≡ row_cmp sorts a b

all_changed : (f : SecretRow → SecretRow) (unseen : IsUnseen f) (rows : List SecretRow) (query : Query)
    → sorted (row_cmp query.sort) (filter (passes query) (map f rows)) ≡ map f (sorted (row_cmp query.sort) (filter (passes query) rows))
all_changed f unseen rows query =
    ap (sorted (row_cmp query.sort)) (filter_changed (passes query) f (unseen.filters query) rows)
    ∙ sorted_changed (row_cmp query.sort) f (unseen.keys query.sort) (filter (passes query) rows)

-- the page is that of the rows before they were changed
pub page_changed : (f : SecretRow → SecretRow) (unseen : IsUnseen f) (rows : List SecretRow) (query : Query) → (page_of_list (map f rows) query).0 ≡ map f (page_of_list rows query).0
unfolding page_of_list
page_changed f unseen rows query =
    let all = sorted (row_cmp query.sort) (filter (passes query) rows) in
    ap (λ (l : List SecretRow). take query.limit (drop query.offset l)) (all_changed f unseen rows query)
    ∙ ap (take query.limit) (drop-map f query.offset all)
    ∙ take-map f query.limit (drop query.offset all)

pub total_changed : (f : SecretRow → SecretRow) (unseen : IsUnseen f) (rows : List SecretRow) (query : Query) → (page_of_list (map f rows) query).1 ≡ (page_of_list rows query).1
unfolding page_of_list
total_changed f unseen rows query =
    let all = sorted (row_cmp query.sort) (filter (passes query) rows) in
    ap length (all_changed f unseen rows query) ∙ length-map all f
