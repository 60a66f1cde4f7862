-- The rows that lists show, and pages of them, by their places.
use Rattle.std.proofs.Common.{◌≡◌, ℕ, zero, suc, ◌+◌, ◌<◌, ◌≤◌, Bool, true, false, List, [], ◌∷◌, ◌++◌, length, map, take, get_or, Option, Some, None, refl, sym, ap, subst, ◌∙◌, arith}
use Rattle.std.specs.Prelude.{filter, All}
use Rattle.std.specs.List.{AllByRecursion, slice_get}
use Rattle.std.proofs.lemmas.List.{append-nil, length-map, map-append, take_all, take_more}
use Rattle.std.proofs.lemmas.List.Elements.{All-from_recursion, filter-append, filter_map-append}
use Rattle.std.proofs.lemmas.Option.{slice_get-get_or, slice_get-map}
use Rattle.kms_kept.specs.Kept.{Kept}
use Rattle.kms_kept.specs.OfGrammar.{IsSecret, IsContainer}
use Rattle.kms_kept.specs.Sound.{IsSound}
use Rattle.kms_model.specs.Containers.{view_of}
use Rattle.kms_model.specs.Lists.{cut}
use Rattle.kms_page.proofs.ChangedLaws.{IsUnseen, page_changed, total_changed}
use Rattle.kms_page.proofs.RowLaws.{rows_of_page, rows_of_places, total_of_page, total_of_places}
use Rattle.kms_page.specs.Filter.{passes}
use Rattle.kms_page.specs.Order.{key_cmp, row_cmp, sort_cmp}
use Rattle.kms_page.specs.Page.{page_from, page_of_list, page_of_rows, rows_at}
use Rattle.kms_page.specs.declared.places.Page.{Page}
use Rattle.kms_page.specs.declared.query.Query.{Query}
use Rattle.kms_page.specs.declared.sorts.SortKey.{SortKey}
use Rattle.kms_page.specs.declared.sorts.SortKey.TheVariants.{Name, Alg, Bits, Mode, SecretType, Created, Updated, Expiration}
use Rattle.kms_record.proofs.PairwiseLaws.{all_push}
use Rattle.kms_store.specs.KeptSecret.{without_number}
use Rattle.kms_world.specs.Secret.{attributes_of}
use Rattle.kms_world.specs.State.{State}
use Rattle.kms_world.specs.Times.{IsTimely, IsTimelyContainer}
use Rattle.kms_world.specs.declared.answer.ContainerView.{ContainerView}
use Rattle.kms_world.specs.declared.container.ContainerRow.{ContainerRow}
use Rattle.kms_world.specs.declared.secret.SecretRow.{SecretRow}
use Rattle.kms_operations.specs.Places.{AreThose}
use Rattle.kms_operations.proofs.FoundLaws.{attributes_unsealed, is_time, some_same}

-- ---- rows at places

-- the places of a row more
pub places_none : {X : Type 0} (test : X → Bool) (rows : List X) (places : List ℕ) → places ≡ [] → AreThose test rows 0 places
places_none test rows places none = subst (AreThose test rows 0) (sym none) (record { within = tt; those = refl })

pub places_more : {X : Type 0} (test : X → Bool) (rows : List X) (i : ℕ) (places : List ℕ) (row : X) → AreThose test rows i places → i < length rows → row ≡ get_or rows i row → test row ≡ true
    → AreThose test rows (i + 1) (places ++ i ∷ [])
places_more test rows i places row those here is passes =
    let there : slice_get rows i ≡ Some row = slice_get-get_or rows i row here ∙ ap (λ (r : _). Some r) (sym is) in
    let last : rows_at rows (i ∷ []) ≡ row ∷ [] = rw there refl in
    let one : filter test (row ∷ []) ≡ row ∷ [] = rw passes refl in
    record {
      within = all_push (λ (place : ℕ). place < length rows) places i those.within here;
      those =
          filter_map-append (slice_get rows) places (i ∷ [])
          ∙ ap (λ (l : List _). l ++ rows_at rows (i ∷ [])) those.those
          ∙ ap (λ (l : List _). filter test (take i rows) ++ l) (last ∙ sym one)
          ∙ sym (filter-append test (take i rows) (row ∷ []))
          ∙ ap (λ (l : List _). filter test (take i rows ++ l)) (ap (λ (r : _). r ∷ []) is)
          ∙ ap (filter test) (sym (take_more rows i row here));
    }

pub places_same : {X : Type 0} (test : X → Bool) (rows : List X) (i : ℕ) (places : List ℕ) (row : X) → AreThose test rows i places → i < length rows → row ≡ get_or rows i row → test row ≡ false
    → AreThose test rows (i + 1) places
places_same test rows i places row those here is fails =
    let none : filter test (row ∷ []) ≡ [] = rw fails refl in
    record {
      within = those.within;
      those =
          those.those
          ∙ sym (append-nil (filter test (take i rows)))
          ∙ ap (λ (l : List _). filter test (take i rows) ++ l) (sym none)
          ∙ sym (filter-append test (take i rows) (row ∷ []))
          ∙ ap (λ (l : List _). filter test (take i rows ++ l)) (ap (λ (r : _). r ∷ []) is)
          ∙ ap (filter test) (sym (take_more rows i row here));
    }

-- all rows that pass
pub places_all : {X : Type 0} (test : X → Bool) (rows : List X) (count : ℕ) (places : List ℕ) → length rows ≤ count → AreThose test rows count places → AreThose test rows (length rows) places
places_all test rows count places all those = record {
  within = those.within;
  those = those.those ∙ ap (filter test) (take_all count rows all ∙ sym (take_all (length rows) rows (omega arith)));
}

pub those_rows : {X : Type 0} (test : X → Bool) (rows : List X) (places : List ℕ) → AreThose test rows (length rows) places → rows_at rows places ≡ filter test rows
those_rows test rows places those = those.those ∙ ap (filter test) (take_all (length rows) rows (omega arith))

pub all_within : {X : Type 0} (test : X → Bool) (rows : List X) (count : ℕ) (places : List ℕ) → AreThose test rows count places → All (λ place. place < length rows) places
all_within test rows count places those = All-from_recursion (λ place. place < length rows) places those.within

-- one place more
pub rows_more : {X : Type 0} (rows : List X) (places : List ℕ) (i : ℕ) (row : X) → i < length places → slice_get rows (get_or places i 0) ≡ Some row
    → rows_at rows (take (i + 1) places) ≡ rows_at rows (take i places) ++ row ∷ []
rows_more rows places i row here found =
    let last : rows_at rows (get_or places i 0 ∷ []) ≡ row ∷ [] = rw found refl in
    ap (rows_at rows) (take_more places i 0 here)
    ∙ filter_map-append (slice_get rows) (take i places) (get_or places i 0 ∷ [])
    ∙ ap (λ (l : List _). rows_at rows (take i places) ++ l) last

pub rows_same : {X : Type 0} (rows : List X) (places : List ℕ) (i : ℕ) → i < length places → slice_get rows (get_or places i 0) ≡ None → rows_at rows (take (i + 1) places) ≡ rows_at rows (take i places)
rows_same rows places i here none =
    let last : rows_at rows (get_or places i 0 ∷ []) ≡ [] = rw none refl in
    ap (rows_at rows) (take_more places i 0 here)
    ∙ filter_map-append (slice_get rows) (take i places) (get_or places i 0 ∷ [])
    ∙ ap (λ (l : List _). rows_at rows (take i places) ++ l) last
    ∙ append-nil (rows_at rows (take i places))

pub mapped_more : {X Y : Type 0} (f : X → Y) (before after : List X) (row : X) (old new : List Y) (shown : Y) → after ≡ before ++ row ∷ [] → old ≡ map f before → shown ≡ f row → new ≡ old ++ shown ∷ [] → new ≡ map f after
mapped_more f before after row old new shown more was is pushed =
    pushed
    ∙ ap (λ (l : List _). l ++ shown ∷ []) was
    ∙ ap (λ (y : _). map f before ++ y ∷ []) is
    ∙ sym (map-append f before (row ∷ []))
    ∙ ap (map f) (sym more)

rows_of_changed : {X Y : Type 0} (f : X → Y) (rows : List X) (places : List ℕ) → rows_at (map f rows) places ≡ map f (rows_at rows places)
rows_of_changed f rows [] = refl
rows_of_changed f rows (p ∷ places) = step (slice_get rows p) refl (rows_of_changed f rows places)
  where
    step : (row : Option _) → slice_get rows p ≡ row → rows_at (map f rows) places ≡ map f (rows_at rows places) → rows_at (map f rows) (p ∷ places) ≡ map f (rows_at rows (p ∷ places))
    step None is e = rw (slice_get-map f rows p, is) e
    step (Some row) is e = rw (slice_get-map f rows p, is) (ap (λ ys. f row ∷ ys) e)

-- the page of the rows that pass, and how many they are
pub shown_on_page : {X : Type 0} (test : X → Bool) (rows : List X) (places : List ℕ) (page : Page) (query : Query) → AreThose test rows (length rows) places → page ≡ page_from places query
    → rows_at rows page.at ≡ cut query (filter test rows)
shown_on_page test rows places page query those is =
    ap (λ (p : Page). rows_at rows p.at) is
    ∙ rows_of_places rows places query (all_within test rows (length rows) places those)
    ∙ ap (cut query) (those_rows test rows places those)

pub total_shown : {X : Type 0} (test : X → Bool) (rows : List X) (places : List ℕ) (page : Page) (query : Query) → AreThose test rows (length rows) places → page ≡ page_from places query
    → page.total ≡ length (filter test rows)
total_shown test rows places page query those is =
    ap (λ (p : Page). p.total) is
    ∙ total_of_places rows places query (all_within test rows (length rows) places those)
    ∙ ap length (those_rows test rows places those)

-- ---- secrets

-- neither filters nor keys look at payloads
keys_unseen : (key : SortKey) (a b : SecretRow) → key_cmp key (without_number a) (without_number b) ≡ key_cmp key a b
keys_unseen Name a b = refl
keys_unseen Alg a b = refl
keys_unseen Bits a b = refl
keys_unseen Mode a b = refl
keys_unseen SecretType a b = refl
keys_unseen Created a b = refl
keys_unseen Updated a b = refl
keys_unseen Expiration a b = refl

sort_unseen : (sort : SortKey × Bool) (a b : SecretRow) → sort_cmp sort (without_number a) (without_number b) ≡ sort_cmp sort a b
sort_unseen (key, false) a b = keys_unseen key a b
sort_unseen (key, true) a b = keys_unseen key b a

sorts_unseen : (sorts : List (SortKey × Bool)) (a b : SecretRow) → row_cmp sorts (without_number a) (without_number b) ≡ row_cmp sorts a b
sorts_unseen [] a b = refl
sorts_unseen (sort ∷ sorts) a b = rw (sort_unseen sort a b, sorts_unseen sorts a b) refl

filters_unseen : (query : Query) (row : SecretRow) → passes query (without_number row) ≡ passes query row
unfolding passes
filters_unseen query row = refl

numbers_unseen : IsUnseen without_number
numbers_unseen = record { filters = filters_unseen; keys = sorts_unseen }

pub below_changed : {X Y : Type 0} (f : X → Y) (rows : List X) (places : List ℕ) → All (λ place. place < length rows) places → All (λ place. place < length (map f rows)) places
below_changed f rows places below = subst (λ (n : ℕ). All (λ place. place < n) places) (sym (length-map rows f)) below

attributes_changed : (rows : List SecretRow) → map attributes_of (map without_number rows) ≡ map attributes_of rows
attributes_changed [] = refl
attributes_changed (row ∷ rows) = cc (attributes_unsealed row, attributes_changed rows)

pub attributes_on_page : (rows : List SecretRow) (places : List ℕ) (query : Query)
    → map attributes_of (rows_at rows (page_of_rows (map without_number rows) places query).at) ≡ map attributes_of (page_of_list (rows_at rows places) query).0
attributes_on_page rows places query =
    let at = (page_of_rows (map without_number rows) places query).at in
    sym (attributes_changed (rows_at rows at))
    ∙ ap (map attributes_of) (sym (rows_of_changed without_number rows at))
    ∙ ap (map attributes_of) (rows_of_page (map without_number rows) places query)
    ∙ ap (λ (l : List SecretRow). map attributes_of (page_of_list l query).0) (rows_of_changed without_number rows places)
    ∙ ap (map attributes_of) (page_changed without_number numbers_unseen (rows_at rows places) query)
    ∙ attributes_changed (page_of_list (rows_at rows places) query).0

pub total_on_page : (rows : List SecretRow) (places : List ℕ) (query : Query) → (page_of_rows (map without_number rows) places query).total ≡ (page_of_list (rows_at rows places) query).1
total_on_page rows places query =
    total_of_page (map without_number rows) places query
    ∙ ap (λ (l : List SecretRow). (page_of_list l query).1) (rows_of_changed without_number rows places)
    ∙ total_changed without_number numbers_unseen (rows_at rows places) query

-- ---- times

all_found : {X : Type 0} (P : X → Type 0) (rows : List X) (place : ℕ) (row : X) → AllByRecursion P rows → slice_get rows place ≡ Some row → P row
all_found P [] place row all is = absurd cc
all_found P (r ∷ rows) zero row all is = subst P (some_same r row is) all.0
all_found P (r ∷ rows) (suc place) row all is = all_found P rows place row all.1 is

all_at : {X : Type 0} (P : X → Type 0) (rows : List X) (places : List ℕ) → AllByRecursion P rows → AllByRecursion P (rows_at rows places)
all_at P rows [] all = tt
all_at P rows (p ∷ places) all = step (slice_get rows p) refl (all_at P rows places all)
  where
    step : (row : Option _) → slice_get rows p ≡ row → AllByRecursion P (rows_at rows places) → AllByRecursion P (rows_at rows (p ∷ places))
    step None is rest = rw is rest
    step (Some row) is rest = rw is (all_found P rows p row all is, rest)

all_changed : {X Y : Type 0} (P : X → Type 0) (Q : Y → Type 0) (f : X → Y) → ((x : X) → P x → Q (f x)) → (xs : List X) → AllByRecursion P xs → AllByRecursion Q (map f xs)
all_changed P Q f so [] all = tt
all_changed P Q f so (x ∷ xs) all = (so x all.0, all_changed P Q f so xs all.1)

timely_attributes : (tag : ℕ) (row : SecretRow) → IsSecret tag row → IsTimely (attributes_of row)
timely_attributes tag row is =
    let range = is.attributes.0 in
    record { created = range.created; updated = range.updated; expiration = is_time row.expiration range.expiration }

pub timely_secrets : (kept : Kept) (places : List ℕ) → IsSound kept → All IsTimely (map attributes_of (rows_at kept.state.secrets places))
timely_secrets kept places sound =
    All-from_recursion IsTimely _
    (all_changed (IsSecret kept.state.tag) IsTimely attributes_of (timely_attributes kept.state.tag) (rows_at kept.state.secrets places)
    (all_at (IsSecret kept.state.tag) kept.state.secrets places sound.grammar.secrets))

timely_view : (s : State) (tag : ℕ) (row : ContainerRow) → IsContainer tag row → IsTimelyContainer (view_of s row).row
timely_view s tag row is = let range = is.grammar.0 in record { created = range.created; updated = range.updated }

pub timely_views : (kept : Kept) (places : List ℕ) → IsSound kept → All (λ (view : ContainerView). IsTimelyContainer view.row) (map (view_of kept.state) (rows_at kept.state.containers places))
timely_views kept places sound =
    All-from_recursion (λ (view : ContainerView). IsTimelyContainer view.row) _
    (all_changed (IsContainer kept.state.tag) (λ (view : ContainerView). IsTimelyContainer view.row) (view_of kept.state) (timely_view kept.state kept.state.tag) (rows_at kept.state.containers places)
    (all_at (IsContainer kept.state.tag) kept.state.containers places sound.grammar.containers))
