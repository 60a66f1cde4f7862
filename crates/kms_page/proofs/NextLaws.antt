-- The next page and the one before.
use Rattle.std.proofs.Common.{◌≡◌, ℕ, ◌+◌, nat_lt, List, length, take, drop, Some, sym, ap, inl, inr, arith}
use Rattle.std.specs.Option.{is_some}
use Rattle.std.proofs.lemmas.Bool.{cases_lt, lt-ltb, le-ltb}
use Rattle.std.proofs.lemmas.List.{length-drop}
use Rattle.std.proofs.lemmas.Option.{cond_some}
use Rattle.kms_page.specs.declared.query.Query.{Query}
use Rattle.kms_page.specs.Page.{page_from, next_offset}
use Rattle.kms_page.specs.Laws.{at_offset, behind}

pub next_there : (query : Query) (places : List ℕ) → is_some (next_offset query (length places)) ≡ nat_lt 0 (length (behind places query))
next_there query places = elim (cases_lt (query.offset + query.limit) (length places)) [
  | inl left ↦ rw (lt-ltb (query.offset + query.limit) (length places) left)
      (sym (lt-ltb 0 (length (behind places query)) (omega (arith, length-drop (query.offset + query.limit) places))))
  | inr none ↦ rw (le-ltb (query.offset + query.limit) (length places) none)
      (sym (le-ltb 0 (length (behind places query)) (omega (arith, length-drop (query.offset + query.limit) places))))
]

pub next_is : (query : Query) (total next : ℕ) → next_offset query total ≡ Some next → next ≡ query.offset + query.limit
next_is query total next there =
    let parts = cond_some (nat_lt (query.offset + query.limit) total) (query.offset + query.limit) next there in sym parts.1

pub next_begins : (query : Query) (places : List ℕ) (total next : ℕ) → next_offset query total ≡ Some next
    → (page_from places (at_offset query next)).at ≡ take query.limit (behind places query)
unfolding page_from
next_begins query places total next there = ap (λ (n : ℕ). take query.limit (drop n places)) (next_is query total next there)
