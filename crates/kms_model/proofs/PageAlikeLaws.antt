-- What a page of secrets shows doesn't hang on the bytes of their payloads.
use Rattle.std.proofs.Common.{◌≡◌, ℕ, Bool, true, false, List, [], ◌∷◌, map, length, take, drop, refl, ap, ◌∙◌}
use Rattle.std.specs.Prelude.{filter}
use Rattle.std.specs.declared.cmp.Ordering.{Ordering}
use Rattle.std.specs.Ordering.{is_gt}
use Rattle.std.proofs.lemmas.List.{take-map, drop-map, length-map}
use Rattle.kms_page.specs.Filter.{passes}
use Rattle.kms_page.specs.Order.{key_cmp, sort_cmp, row_cmp}
use Rattle.kms_page.specs.Page.{page_of_list}
use Rattle.kms_page.specs.Sorted.{put, sorted}
use Rattle.kms_page.specs.declared.query.Query.{Query}
use Rattle.kms_page.specs.declared.sorts.SortKey.{SortKey}
use Rattle.kms_page.specs.declared.sorts.SortKey.TheVariants.{Name, Alg, Bits, Mode, SecretType, Created, Updated, Expiration}
use Rattle.kms_world.specs.declared.secret.SecretRow.{SecretRow}
use Rattle.kms_model.specs.Alike.{hidden}

-- ---- lists under a map

module _ {X Y : Type 0} (f : X → Y) where
  kept_here : (p : Y → Bool) (q : X → Bool) (b : Bool) (x : X) (xs : List X) → p (f x) ≡ b → q x ≡ b → filter p (map f xs) ≡ map f (filter q xs)
      → filter p (map f (x ∷ xs)) ≡ map f (filter q (x ∷ xs))
  kept_here p q true x xs a b rest = rw (a, b) (ap (λ ys. f x ∷ ys) rest)
  kept_here p q false x xs a b rest = rw (a, b) rest

  pub filter_mapped : (p : Y → Bool) (q : X → Bool) → ((x : X) → p (f x) ≡ q x) → (xs : List X) → filter p (map f xs) ≡ map f (filter q xs)
  filter_mapped p q same [] = refl
  filter_mapped p q same (x ∷ xs) = kept_here p q (q x) x xs (same x) refl (filter_mapped p q same xs)

  module _ (a : X → X → Ordering) (b : Y → Y → Ordering) (same : (x y : X) → b (f x) (f y) ≡ a x y) where
    put_here : (t : Bool) (x y : X) (ys : List X) → is_gt (a x y) ≡ t → put b (f x) (map f ys) ≡ map f (put a x ys)
        → put b (f x) (map f (y ∷ ys)) ≡ map f (put a x (y ∷ ys))
    put_here true x y ys is rest = rw (same x y, is) (ap (λ zs. f y ∷ zs) rest)
    put_here false x y ys is rest = rw (same x y, is) refl

    put_mapped : (x : X) (ys : List X) → put b (f x) (map f ys) ≡ map f (put a x ys)
    put_mapped x [] = refl
    put_mapped x (y ∷ ys) = put_here (is_gt (a x y)) x y ys refl (put_mapped x ys)

    pub sorted_mapped : (xs : List X) → sorted b (map f xs) ≡ map f (sorted a xs)
    sorted_mapped [] = refl
    sorted_mapped (x ∷ xs) = ap (put b (f x)) (sorted_mapped xs) ∙ put_mapped x (sorted a xs)

-- ---- secrets whose payloads' bytes are hidden

key_hidden : (key : SortKey) (x y : SecretRow) → key_cmp key (hidden x) (hidden y) ≡ key_cmp key x y
key_hidden Name x y = refl
key_hidden Alg x y = refl
key_hidden Bits x y = refl
key_hidden Mode x y = refl
key_hidden SecretType x y = refl
key_hidden Created x y = refl
key_hidden Updated x y = refl
key_hidden Expiration x y = refl

sort_hidden : (sort : SortKey × Bool) (x y : SecretRow) → sort_cmp sort (hidden x) (hidden y) ≡ sort_cmp sort x y
sort_hidden (key, false) x y = key_hidden key x y
sort_hidden (key, true) x y = key_hidden key y x

row_hidden : (sorts : List (SortKey × Bool)) (x y : SecretRow) → row_cmp sorts (hidden x) (hidden y) ≡ row_cmp sorts x y
row_hidden [] x y = refl
row_hidden (sort ∷ sorts) x y = rw (sort_hidden sort x y, row_hidden sorts x y) refl

passes_hidden : (query : Query) (row : SecretRow) → passes query (hidden row) ≡ passes query row
unfolding passes
passes_hidden query row = refl

-- the page of these secrets, with the bytes hidden
pub page_hidden : (rows : List SecretRow) (query : Query) → page_of_list (map hidden rows) query ≡ (map hidden (page_of_list rows query).0, (page_of_list rows query).1)
unfolding page_of_list
page_hidden rows query =
    let kept = filter_mapped hidden (passes query) (passes query) (passes_hidden query) rows in
    let order = row_cmp query.sort in
    let all = sorted order (filter (passes query) rows) in
    let whole : sorted order (filter (passes query) (map hidden rows)) ≡ map hidden all = ap (sorted order) kept ∙ sorted_mapped hidden order order (row_hidden query.sort) (filter (passes query) rows) in
    ap (λ (rows : List SecretRow). (take query.limit (drop query.offset rows), length rows)) whole
    ∙ ap (λ (n : ℕ). (take query.limit (drop query.offset (map hidden all)), n)) (length-map all hidden)
    ∙ ap (λ (rows : List SecretRow). (rows, length all)) (ap (take query.limit) (drop-map hidden query.offset all) ∙ take-map hidden query.limit (drop query.offset all))
