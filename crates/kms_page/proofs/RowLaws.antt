-- A page of places is the page of the rows there.
use Rattle.std.proofs.Common.{◌≡◌, ℕ, zero, suc, ◌<◌, Bool, true, List, [], ◌∷◌, length, take, drop, Option, Some, None, refl, sym, ap, ◌∙◌, inl, inr, arith}
use Rattle.std.specs.Prelude.{filter}
use Rattle.std.specs.Option.{is_some, option_and_then}
use Rattle.std.specs.List.{All, AllByRecursion, slice_get}
use Rattle.std.specs.Ordering.{is_gt}
use Rattle.std.proofs.lemmas.Bool.{false≢true, cases_Bool}
use Rattle.std.proofs.lemmas.List.Elements.{recursion_from_All}
use Rattle.kms_world.specs.declared.secret.SecretRow.{SecretRow}
use Rattle.kms_page.specs.declared.query.Query.{Query}
use Rattle.kms_page.specs.declared.sorts.SortKey.{SortKey}
use Rattle.kms_page.specs.Filter.{passes, passes_at, filtered}
use Rattle.kms_page.specs.Order.{row_cmp, place_cmp}
use Rattle.kms_page.specs.Sorted.{put, sorted}
use Rattle.kms_page.specs.Page.{rows_at, page_of_list, ordered, page_from, page_of_rows}
use Rattle.kms_page.proofs.PlainLaws.{HasRow, rows_of_filtered}

-- filtering places filters the rows there
kept_one : (rows : List SecretRow) (query : Query) (p : ℕ) (row : Option SecretRow) (shown : List ℕ) → slice_get rows p ≡ row
    → rows_at rows (filter (passes_at rows query) shown) ≡ filter (passes query) (rows_at rows shown)
    → rows_at rows (filter (passes_at rows query) (p ∷ shown)) ≡ filter (passes query) (rows_at rows (p ∷ shown))
kept_one rows query p None shown e same = rw e same
kept_one rows query p (Some row) shown e same = elim (cases_Bool (passes query row)) [
  | inl pass ↦ rw (e, pass, e) (ap (λ (l : List SecretRow). row ∷ l) same)
  | inr fails ↦ rw (e, fails) same
]

kept_rows : (rows : List SecretRow) (query : Query) (shown : List ℕ) → rows_at rows (filter (passes_at rows query) shown) ≡ filter (passes query) (rows_at rows shown)
kept_rows rows query [] = refl
kept_rows rows query (p ∷ shown) = kept_one rows query p (slice_get rows p) shown refl (kept_rows rows query shown)

-- sorting places sorts the rows there
module _ (rows : List SecretRow) (sorts : List (SortKey × Bool)) where
  put_there : (x : ℕ) (ys : List ℕ) → HasRow rows x → AllByRecursion (HasRow rows) ys → AllByRecursion (HasRow rows) (put (place_cmp rows sorts) x ys)
  put_there x [] h all = (h, tt)
  put_there x (y ∷ ys) h all = elim (cases_Bool (is_gt (place_cmp rows sorts x y))) [
    | inl gt ↦ rw gt (all.0, put_there x ys h all.1)
    | inr over ↦ rw over (h, (all.0, all.1))
  ]

  pub sorted_there : (xs : List ℕ) → AllByRecursion (HasRow rows) xs → AllByRecursion (HasRow rows) (sorted (place_cmp rows sorts) xs)
  sorted_there [] all = tt
  sorted_there (x ∷ xs) all = put_there x (sorted (place_cmp rows sorts) xs) all.0 (sorted_there xs all.1)

  put_rows : (x : ℕ) (a : SecretRow) → slice_get rows x ≡ Some a → (ys : List ℕ) → AllByRecursion (HasRow rows) ys
      → rows_at rows (put (place_cmp rows sorts) x ys) ≡ put (row_cmp sorts) a (rows_at rows ys)
  put_rows x a e [] all = rw e refl
  put_rows x a e (y ∷ ys) all = at (put_rows x a e ys all.1) (slice_get rows y) refl all.0
    where
      at : rows_at rows (put (place_cmp rows sorts) x ys) ≡ put (row_cmp sorts) a (rows_at rows ys)
          → (row : Option SecretRow) → slice_get rows y ≡ row → is_some row ≡ true → rows_at rows (put (place_cmp rows sorts) x (y ∷ ys)) ≡ put (row_cmp sorts) a (rows_at rows (y ∷ ys))
      at same None f h = absurd (false≢true h)
      at same (Some b) f h = elim (cases_Bool (is_gt (row_cmp sorts a b))) [
        | inl gt ↦ rw (e, f, gt, f) (ap (λ (l : List SecretRow). b ∷ l) same)
        | inr over ↦ rw (e, f, over, e, f) refl
      ]

  sorted_rows : (xs : List ℕ) → AllByRecursion (HasRow rows) xs → rows_at rows (sorted (place_cmp rows sorts) xs) ≡ sorted (row_cmp sorts) (rows_at rows xs)
  sorted_rows [] all = refl
  sorted_rows (x ∷ xs) all = at (sorted_rows xs all.1) (slice_get rows x) refl all.0
    where
      at : rows_at rows (sorted (place_cmp rows sorts) xs) ≡ sorted (row_cmp sorts) (rows_at rows xs)
          → (row : Option SecretRow) → slice_get rows x ≡ row → is_some row ≡ true → rows_at rows (sorted (place_cmp rows sorts) (x ∷ xs)) ≡ sorted (row_cmp sorts) (rows_at rows (x ∷ xs))
      at same None f h = absurd (false≢true h)
      at same (Some a) f h =
          put_rows x a f (sorted (place_cmp rows sorts) xs) (sorted_there xs all.1)
          ∙ ap (put (row_cmp sorts) a) same
          ∙ rw f refl

-- cutting places cuts the rows there
module _ {X : Type 0} (rows : List X) where
  length_there : (places : List ℕ) → AllByRecursion (HasRow rows) places → length (rows_at rows places) ≡ length places
  length_there [] all = refl
  length_there (p ∷ places) all = at (length_there places all.1) (slice_get rows p) refl all.0
    where
      at : length (rows_at rows places) ≡ length places → (row : Option X) → slice_get rows p ≡ row → is_some row ≡ true → length (rows_at rows (p ∷ places)) ≡ length (p ∷ places)
      at same None f h = absurd (false≢true h)
      at same (Some a) f h = rw f (ap suc same)

  take_there : (n : ℕ) (places : List ℕ) → AllByRecursion (HasRow rows) places → rows_at rows (take n places) ≡ take n (rows_at rows places)
  take_there zero places all = refl
  take_there (suc n) [] all = refl
  take_there (suc n) (p ∷ places) all = at (take_there n places all.1) (slice_get rows p) refl all.0
    where
      at : rows_at rows (take n places) ≡ take n (rows_at rows places)
          → (row : Option X) → slice_get rows p ≡ row → is_some row ≡ true → rows_at rows (take (suc n) (p ∷ places)) ≡ take (suc n) (rows_at rows (p ∷ places))
      at same None f h = absurd (false≢true h)
      at same (Some a) f h = rw f (ap (λ (l : List X). a ∷ l) same)

  drop_there : (n : ℕ) (places : List ℕ) → AllByRecursion (HasRow rows) places → rows_at rows (drop n places) ≡ drop n (rows_at rows places)
  drop_there zero places all = refl
  drop_there (suc n) [] all = refl
  drop_there (suc n) (p ∷ places) all = at (drop_there n places all.1) (slice_get rows p) refl all.0
    where
      at : rows_at rows (drop n places) ≡ drop n (rows_at rows places)
          → (row : Option X) → slice_get rows p ≡ row → is_some row ≡ true → rows_at rows (drop (suc n) (p ∷ places)) ≡ drop (suc n) (rows_at rows (p ∷ places))
      at same None f h = absurd (false≢true h)
      at same (Some a) f h = rw f same

  rest_there : (n : ℕ) (places : List ℕ) → AllByRecursion (HasRow rows) places → AllByRecursion (HasRow rows) (drop n places)
  rest_there zero places all = all
  rest_there (suc n) [] all = tt
  rest_there (suc n) (p ∷ places) all = rest_there n places all.1

  cut_there : (limit offset : ℕ) (places : List ℕ) → AllByRecursion (HasRow rows) places
      → rows_at rows (take limit (drop offset places)) ≡ take limit (drop offset (rows_at rows places))
  cut_there limit offset places all =
      take_there limit (drop offset places) (rest_there offset places all) ∙ ap (take limit) (drop_there offset places all)

  each_there : (places : List ℕ) → AllByRecursion (HasRow rows) places → (i : ℕ) → slice_get (rows_at rows places) i ≡ option_and_then (slice_get rows) (slice_get places i)
  each_there [] all i = refl
  each_there (p ∷ places) all zero = at (slice_get rows p) refl all.0
    where
      at : (row : Option X) → slice_get rows p ≡ row → is_some row ≡ true → slice_get (rows_at rows (p ∷ places)) zero ≡ slice_get rows p
      at None f h = absurd (false≢true h)
      at (Some a) f h = rw f refl
  each_there (p ∷ places) all (suc i) = at (each_there places all.1 i) (slice_get rows p) refl all.0
    where
      at : slice_get (rows_at rows places) i ≡ option_and_then (slice_get rows) (slice_get places i)
          → (row : Option X) → slice_get rows p ≡ row → is_some row ≡ true → slice_get (rows_at rows (p ∷ places)) (suc i) ≡ option_and_then (slice_get rows) (slice_get places i)
      at same None f h = absurd (false≢true h)
      at same (Some a) f h = rw f same

has_row : {X : Type 0} (rows : List X) (place : ℕ) → place < length rows → HasRow rows place
has_row [] place below = absurd (omega arith)
has_row (row ∷ rows) zero below = refl
has_row (row ∷ rows) (suc place) below = has_row rows place (omega arith)

all_there : {X : Type 0} (rows : List X) (places : List ℕ) → AllByRecursion (λ place. place < length rows) places → AllByRecursion (HasRow rows) places
all_there rows [] all = tt
all_there rows (p ∷ places) all = (has_row rows p all.0, all_there rows places all.1)

pub row_of_place : {X : Type 0} (rows : List X) (places : List ℕ) → All (λ place. place < length rows) places
    → (i : ℕ) → slice_get (rows_at rows places) i ≡ option_and_then (slice_get rows) (slice_get places i)
row_of_place rows places below =
    each_there rows places (all_there rows places (recursion_from_All (λ place. place < length rows) places below))

pub rows_of_places : {X : Type 0} (rows : List X) (places : List ℕ) (query : Query) → All (λ place. place < length rows) places
    → rows_at rows (page_from places query).at ≡ take query.limit (drop query.offset (rows_at rows places))
unfolding page_from
rows_of_places rows places query below =
    cut_there rows query.limit query.offset places (all_there rows places (recursion_from_All (λ place. place < length rows) places below))

pub total_of_places : {X : Type 0} (rows : List X) (places : List ℕ) (query : Query) → All (λ place. place < length rows) places
    → (page_from places query).total ≡ length (rows_at rows places)
unfolding page_from
total_of_places rows places query below =
    sym (length_there rows places (all_there rows places (recursion_from_All (λ place. place < length rows) places below)))

ordered_there : (rows : List SecretRow) (shown : List ℕ) (query : Query) → AllByRecursion (HasRow rows) (ordered rows shown query)
unfolding ordered filtered
ordered_there rows shown query =
    sorted_there rows query.sort (filter (passes_at rows query) shown) (rows_of_filtered rows query shown)

ordered_rows : (rows : List SecretRow) (shown : List ℕ) (query : Query) → rows_at rows (ordered rows shown query) ≡ sorted (row_cmp query.sort) (filter (passes query) (rows_at rows shown))
unfolding ordered filtered
ordered_rows rows shown query =
    sorted_rows rows query.sort (filter (passes_at rows query) shown) (rows_of_filtered rows query shown)
    ∙ ap (sorted (row_cmp query.sort)) (kept_rows rows query shown)

pub rows_of_page : (rows : List SecretRow) (shown : List ℕ) (query : Query) → rows_at rows (page_of_rows rows shown query).at ≡ (page_of_list (rows_at rows shown) query).0
unfolding page_of_rows page_from page_of_list
rows_of_page rows shown query =
    cut_there rows query.limit query.offset (ordered rows shown query) (ordered_there rows shown query)
    ∙ ap (λ (l : List SecretRow). take query.limit (drop query.offset l)) (ordered_rows rows shown query)

pub total_of_page : (rows : List SecretRow) (shown : List ℕ) (query : Query) → (page_of_rows rows shown query).total ≡ (page_of_list (rows_at rows shown) query).1
unfolding page_of_rows page_from page_of_list
total_of_page rows shown query =
    sym (length_there rows (ordered rows shown query) (ordered_there rows shown query))
    ∙ ap length (ordered_rows rows shown query)
