-- Rows that are filtered, counted and cut in one walk.
use Rattle.std.proofs.Common.{◌≡◌, ℕ, ◌+◌, ◌≤◌, ◌<◌, Bool, true, false, cond, nat_le, nat_lt, ◌&&◌, if◌then◌else◌, List, [], ◌∷◌, ◌++◌, length, take, drop, get_or, refl, sym, ap, ◌∙◌, arith, inl, inr}
use Rattle.std.specs.Prelude.{filter}
use Rattle.std.proofs.lemmas.Bool.{cases_lt, le-leb, lt-leb, lt-ltb, le-ltb}
use Rattle.std.proofs.lemmas.List.{append-nil, take_more, take_all, drop_all, drop-append-le, take-append-le, length-take, length-drop, length-append}
use Rattle.std.proofs.lemmas.List.Elements.{filter-append}
use Rattle.kms_world.specs.declared.secret.SecretRow.{SecretRow}
use Rattle.kms_page.specs.declared.query.Query.{Query}
use Rattle.kms_page.specs.Filter.{passes_at, filtered}
use Rattle.kms_page.specs.declared.places.Page.{Page}
use Rattle.kms_page.specs.Page.{page_from}

-- one row more is filtered
pub filtered_more : (rows : List SecretRow) (shown : List ℕ) (query : Query) (i place : ℕ) → i < length shown → place ≡ get_or shown i 0
    → filtered rows (take (i + 1) shown) query ≡ (if passes_at rows query place then filtered rows (take i shown) query ++ place ∷ [] else filtered rows (take i shown) query)
unfolding filtered
filtered_more rows shown query i place h at =
    ap (filter (passes_at rows query)) (take_more shown i 0 h ∙ ap (λ (p : ℕ). take i shown ++ p ∷ []) (sym at))
    ∙ filter-append (passes_at rows query) (take i shown) (place ∷ [])
    ∙ chosen (passes_at rows query place) (filter (passes_at rows query) (take i shown)) place
  where
    chosen : (b : Bool) (xs : List ℕ) (x : ℕ) → xs ++ cond b (x ∷ []) [] ≡ cond b (xs ++ x ∷ []) xs
    chosen true xs x = refl
    chosen false xs x = append-nil xs

pub filtered_none : (rows : List SecretRow) (query : Query) → filtered rows [] query ≡ []
unfolding filtered
filtered_none rows query = refl

-- the places on the page, with one row more
page_more : (offset limit : ℕ) (passed : List ℕ) (place : ℕ) → take limit (drop offset (passed ++ place ∷ []))
    ≡ (if nat_le offset (length passed) && nat_lt (length (take limit (drop offset passed))) limit then take limit (drop offset passed) ++ place ∷ [] else take limit (drop offset passed))
page_more offset limit passed place = elim (cases_lt (length passed) offset) [
  | inl past ↦ rw (lt-leb offset (length passed) past)
      (ap (take limit) (drop_all offset (passed ++ place ∷ []) (omega (arith, length-append passed (place ∷ [])))
      ∙ sym (drop_all offset passed (omega arith))))
  | inr here ↦ let long = length-drop offset passed in
      let cut = length-take limit (drop offset passed) in
      elim (cases_lt (length (drop offset passed)) limit) [
        | inl room ↦
            let whole : take limit (drop offset passed) ≡ drop offset passed = take_all limit (drop offset passed) (omega arith) in
            rw (le-leb offset (length passed) here, whole, lt-ltb (length (drop offset passed)) limit room)
            (ap (take limit) (drop-append-le offset passed (place ∷ []) here)
            ∙ take_all limit (drop offset passed ++ place ∷ []) (omega (arith, length-append (drop offset passed) (place ∷ []))))
        | inr full ↦
            let all : limit ≤ length (take limit (drop offset passed)) = omega (arith, cut) in
            rw (le-leb offset (length passed) here, le-ltb (length (take limit (drop offset passed))) limit all)
            (ap (take limit) (drop-append-le offset passed (place ∷ []) here) ∙ take-append-le limit (drop offset passed) (place ∷ []) full)
      ]
]

-- a row with so many before it, so many of them on the page, is on the page too
abbrev pub is_on_page : Query → ℕ → ℕ → Bool
is_on_page query before there = nat_le query.offset before && nat_lt there query.limit

-- the walk has passed these rows, and keeps their places on the page and their number, which is at most n
pub record IsWalked (query : Query) (passed at : List ℕ) (total n : ℕ) : Type 0 where
  pub page : at ≡ take query.limit (drop query.offset passed)
  pub count : total ≡ length passed
  pub few : total ≤ n

pub IsWalked-more : (query : Query) (passed at new : List ℕ) (total n place : ℕ) → IsWalked query passed at total n
    → new ≡ (if is_on_page query total (length at) then at ++ place ∷ [] else at)
    → IsWalked query (passed ++ place ∷ []) new (total + 1) (n + 1)
IsWalked-more query passed at new total n place walked kept = record {
  page = rw (walked.count, walked.page) at (kept ∙ refl) ∙ sym (page_more query.offset query.limit passed place);
  count = omega (arith, walked.count, length-append passed (place ∷ []));
  few = omega (arith, walked.few);
}

pub IsWalked-skip : (query : Query) (passed at : List ℕ) (total n : ℕ) → IsWalked query passed at total n → IsWalked query passed at total (n + 1)
IsWalked-skip query passed at total n walked = record { page = walked.page; count = walked.count; few = omega (arith, walked.few) }

pub IsWalked-none : (rows : List SecretRow) (query : Query) (at : List ℕ) → at ≡ [] → IsWalked query (filtered rows [] query) at 0 0
IsWalked-none rows query at none = rw (filtered_none rows query) (record {
  page = none ∙ sym (ap (take query.limit) (drop_none query.offset) ∙ take_none query.limit);
  count = refl;
  few = omega arith;
})
  where
    drop_none : (n : ℕ) → ◌≡◌ {A = List ℕ} (drop n []) []
    drop_none n = drop_all n [] (omega arith)

    take_none : (n : ℕ) → ◌≡◌ {A = List ℕ} (take n []) []
    take_none n = take_all n [] (omega arith)

made : (at at' : List ℕ) (total total' : ℕ) → at ≡ at' → total ≡ total' → (let x : Page = record { at = at; total = total } in let y : Page = record { at = at'; total = total' } in x ≡ y)
made at at' total total' p q = cc

pub IsWalked-all : (rows : List SecretRow) (shown : List ℕ) (query : Query) (at : List ℕ) (total n : ℕ) → length shown ≤ n → IsWalked query (filtered rows (take n shown) query) at total n
    → (let x : Page = record { at = at; total = total } in x ≡ page_from (filtered rows shown query) query)
unfolding page_from
IsWalked-all rows shown query at total n end walked =
    let whole : filtered rows (take n shown) query ≡ filtered rows shown query = ap (λ (l : List ℕ). filtered rows l query) (take_all n shown end) in
    made _ _ _ _ (rw whole at walked.page) (rw whole at walked.count)
