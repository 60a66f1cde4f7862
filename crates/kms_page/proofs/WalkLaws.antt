-- Pages one behind the other.
use Rattle.std.proofs.Common.{◌≡◌, ℕ, zero, suc, ◌*◌, ◌≤◌, List, ◌++◌, length, take, drop, sym, ap, ◌∙◌, arith}
use Rattle.std.proofs.Math.Seq.{take-add}
use Rattle.std.proofs.lemmas.List.{take_all}
use Rattle.kms_page.specs.declared.query.Query.{Query}
use Rattle.kms_page.specs.Laws.{at_offset, first_pages}
use Rattle.kms_page.specs.declared.places.Page.{Page}

first_pages_are : (places : List ℕ) (page : Query → Page) (query : Query) → ((offset : ℕ) → (page (at_offset query offset)).at ≡ take query.limit (drop offset places))
    → (n : ℕ) → first_pages page query n ≡ take (n * query.limit) places
first_pages_are places page query cuts zero = let none : 0 * query.limit ≡ 0 = omega arith in sym (ap (λ (k : ℕ). take k places) none)
first_pages_are places page query cuts (suc n) =
    ap (λ (l : List ℕ). l ++ (page (at_offset query (n * query.limit))).at) (first_pages_are places page query cuts n)
    ∙ ap (λ (l : List ℕ). take (n * query.limit) places ++ l) (cuts (n * query.limit))
    ∙ sym (take-add (n * query.limit) query.limit places)
    ∙ ap (λ (k : ℕ). take k places) (omega arith)

pub all_pages : (places : List ℕ) (page : Query → Page) (query : Query) → ((offset : ℕ) → (page (at_offset query offset)).at ≡ take query.limit (drop offset places))
    → (n : ℕ) → length places ≤ n * query.limit → first_pages page query n ≡ places
all_pages places page query cuts n enough = first_pages_are places page query cuts n ∙ take_all (n * query.limit) places enough
