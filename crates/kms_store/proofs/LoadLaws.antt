-- A chain is read record by record.
use Rattle.std.proofs.Common.{◌≡◌, inl, inr, ℕ, ◌+◌, ◌<◌, ◌≤◌, Bool, List, ◌∷◌, length, drop, get_or, refl, sym, ap, subst, ◌∙◌}
use Rattle.std.proofs.lemmas.List.{drop_more, drop_all}
use Rattle.kms_kept.specs.Kept.{Kept}
use Rattle.kms_store.specs.Stands.{Applies, LeadTo, IsBroken, BreakAt}

-- what is left leads where all do, and breaks where all do
pub record Continues (all rest : List (ℕ × List ℕ)) (first now : Kept) : Type 0 where
  pub leads : (after : Kept) → LeadTo rest now after → LeadTo all first after
  pub breaks : (stop place : ℕ) (is_whole : Bool) → BreakAt rest stop is_whole now place → BreakAt all stop is_whole first place

pub continues : (all : List (ℕ × List ℕ)) (first : Kept) → Continues all all first first
continues all first = record { leads = λ after p. p; breaks = λ stop place is_whole p. p }

continue : (all rest : List (ℕ × List ℕ)) (item : ℕ × List ℕ) (first now next : Kept) → Continues all (item ∷ rest) first now → Applies item.1 now next → Continues all rest first next
continue all rest item first now next c applies = record {
  leads = λ after p. c.leads after (next, applies, p);
  breaks = λ stop place is_whole p. c.breaks stop place is_whole (inr (next, applies, p));
}

here : (items : List (ℕ × List ℕ)) (i : ℕ) (item : ℕ × List ℕ) → item ≡ get_or items i item → i < length items → drop i items ≡ item ∷ drop (i + 1) items
here items i item is lt = drop_more items i item lt ∙ ap (λ (x : ℕ × List ℕ). x ∷ drop (i + 1) items) (sym is)

pub item_applied : (items : List (ℕ × List ℕ)) (i : ℕ) (item : ℕ × List ℕ) (bytes : List ℕ) (first now next : Kept) → Continues items (drop i items) first now → item ≡ get_or items i item → i < length items
    → bytes ≡ item.1 → Applies bytes now next → Continues items (drop (i + 1) items) first next
item_applied items i item bytes first now next c is lt bytes_is applies =
    continue items (drop (i + 1) items) item first now next
    (subst (λ (l : List (ℕ × List ℕ)). Continues items l first now) (here items i item is lt) c)
    (subst (λ (b : List ℕ). Applies b now next) bytes_is applies)

pub item_broken : (items : List (ℕ × List ℕ)) (i : ℕ) (item : ℕ × List ℕ) (bytes : List ℕ) (first now : Kept) → Continues items (drop i items) first now → item ≡ get_or items i item → i < length items
    → bytes ≡ item.1 → IsBroken bytes now → (stop : ℕ) (is_whole : Bool) → BreakAt items stop is_whole first item.0
item_broken items i item bytes first now c is lt bytes_is broken stop is_whole =
    let c' : Continues items (item ∷ drop (i + 1) items) first now = subst (λ (l : List (ℕ × List ℕ)). Continues items l first now) (here items i item is lt) c in
    c'.breaks stop item.0 is_whole (inl (subst (λ (b : List ℕ). IsBroken b now) bytes_is broken, refl))

pub all_applied : (items : List (ℕ × List ℕ)) (i : ℕ) (first now : Kept) → length items ≤ i → Continues items (drop i items) first now → LeadTo items first now
all_applied items i first now le c = c.leads now (subst (λ (l : List (ℕ × List ℕ)). LeadTo l now now) (sym (drop_all i items le)) refl)
