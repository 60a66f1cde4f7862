-- Without a key rows stay in their order, and without a filter all pass.
use Rattle.std.proofs.Common.{◌≡◌, ℕ, zero, suc, ◌<◌, Bool, true, false, ◌||◌, List, [], ◌∷◌, length, Option, Some, None, refl, sym, ap, ◌∙◌, inl, inr, arith}
use Rattle.std.specs.Prelude.{filter}
use Rattle.std.specs.Option.{is_some, option_map_or, option_cmp}
use Rattle.std.specs.List.{All, AllByRecursion, slice_get}
use Rattle.std.specs.Ordering.{is_gt}
use Rattle.std.proofs.lemmas.Bool.{or_parts, false≢true, cases_Bool}
use Rattle.std.proofs.lemmas.List.Elements.{recursion_from_All}
use Rattle.kms_world.specs.declared.secret.SecretKind.{SecretKind}
use Rattle.kms_world.specs.declared.secret.SecretRow.{SecretRow}
use Rattle.kms_page.specs.declared.query.Query.{Query}
use Rattle.kms_page.specs.Filter.{passes_text, passes_number, passes_kind, passes, passes_at, filtered}
use Rattle.kms_page.specs.Order.{row_cmp, place_cmp}
use Rattle.kms_page.specs.Sorted.{put, sorted}
use Rattle.kms_page.specs.Page.{ordered}

-- one filter at least
abbrev has_filter : Query → Bool
has_filter query =
    is_some query.name || is_some query.alg || is_some query.bits || is_some query.mode || is_some query.secret_type

-- there is a row at the place
abbrev pub HasRow : {X : Type 0} → List X → ℕ → Type 0
HasRow rows place = is_some (slice_get rows place) ≡ true

level : (p q : Option SecretRow) → is_some p ≡ true → is_some q ≡ true → is_gt (option_cmp (row_cmp []) p q) ≡ false
level None q h g = absurd (false≢true h)
level (Some a) None h g = absurd (false≢true g)
level (Some a) (Some b) h g = refl

put_level : (rows : List SecretRow) (x : ℕ) (xs : List ℕ) → HasRow rows x → AllByRecursion (HasRow rows) xs → put (place_cmp rows []) x xs ≡ x ∷ xs
put_level rows x [] h all = refl
put_level rows x (y ∷ ys) h all = rw (level (slice_get rows x) (slice_get rows y) h all.0) refl

sorted_level : (rows : List SecretRow) (xs : List ℕ) → AllByRecursion (HasRow rows) xs → sorted (place_cmp rows []) xs ≡ xs
sorted_level rows [] all = refl
sorted_level rows (x ∷ xs) all = ap (put (place_cmp rows []) x) (sorted_level rows xs all.1) ∙ put_level rows x xs all.0 all.1

has_row : (query : Query) (row : Option SecretRow) → option_map_or (passes query) row false ≡ true → is_some row ≡ true
has_row query None h = h
has_row query (Some row) h = refl

pub rows_of_filtered : (rows : List SecretRow) (query : Query) (shown : List ℕ) → AllByRecursion (HasRow rows) (filter (passes_at rows query) shown)
rows_of_filtered rows query [] = tt
rows_of_filtered rows query (p ∷ shown) = elim (cases_Bool (passes_at rows query p)) [
  | inl pass ↦ rw pass (has_row query (slice_get rows p) pass, rows_of_filtered rows query shown)
  | inr fails ↦ rw fails (rows_of_filtered rows query shown)
]

-- without a key the rows stand in the order in which they are shown
pub ordered_by_none : (rows : List SecretRow) (shown : List ℕ) (query : Query) → query.sort ≡ [] → ordered rows shown query ≡ filtered rows shown query
unfolding ordered filtered
ordered_by_none rows shown query none =
    ap (λ s. sorted (place_cmp rows s) (filter (passes_at rows query) shown)) none
    ∙ sorted_level rows (filter (passes_at rows query) shown) (rows_of_filtered rows query shown)

free_text : (wanted attribute : Option (List ℕ)) → is_some wanted ≡ false → passes_text wanted attribute ≡ true
free_text None attribute h = refl
free_text (Some text) attribute h = absurd (false≢true (sym h))

free_number : (wanted attribute : Option ℕ) → is_some wanted ≡ false → passes_number wanted attribute ≡ true
free_number None attribute h = refl
free_number (Some number) attribute h = absurd (false≢true (sym h))

free_kind : (wanted : Option SecretKind) (kind : SecretKind) → is_some wanted ≡ false → passes_kind wanted kind ≡ true
free_kind None kind h = refl
free_kind (Some word) kind h = absurd (false≢true (sym h))

all_pass : (query : Query) (row : SecretRow) → has_filter query ≡ false → passes query row ≡ true
unfolding passes
all_pass query row none =
    let kind = or_parts _ _ none in
    let mode = or_parts _ _ kind.0 in
    let bits = or_parts _ _ mode.0 in
    let alg = or_parts _ _ bits.0 in
    rw (
      free_text query.name row.name alg.0,
      free_text query.alg row.algorithm alg.1,
      free_number query.bits row.bit_length bits.1,
      free_text query.mode row.mode mode.1,
      free_kind query.secret_type row.kind kind.1,
    ) refl

pass_there : (rows : List SecretRow) (query : Query) (place : ℕ) → has_filter query ≡ false → place < length rows → passes_at rows query place ≡ true
pass_there [] query place none below = absurd (omega arith)
pass_there (row ∷ rows) query zero none below = all_pass query row none
pass_there (row ∷ rows) query (suc place) none below = pass_there rows query place none (omega arith)

all_kept : (rows : List SecretRow) (query : Query) (shown : List ℕ) → has_filter query ≡ false → AllByRecursion (λ place. place < length rows) shown → filter (passes_at rows query) shown ≡ shown
all_kept rows query [] none below = refl
all_kept rows query (p ∷ shown) none below =
    rw (pass_there rows query p none below.0) (ap (λ l. p ∷ l) (all_kept rows query shown none below.1))

-- without a filter each row that is shown passes
pub filtered_by_none : (rows : List SecretRow) (shown : List ℕ) (query : Query) → has_filter query ≡ false → All (λ place. place < length rows) shown → filtered rows shown query ≡ shown
unfolding filtered
filtered_by_none rows shown query none below =
    all_kept rows query shown none (recursion_from_All (λ place. place < length rows) shown below)
