-- Parameters that are looked up by their names, in front of others and with the paging parameters left out.
use lib.Pointwise.{bytes_decides}
use Rattle.std.proofs.Common.{◌≡◌, ℕ, Bool, true, false, not, ◌||◌, cond, List, [], ◌∷◌, ◌++◌, Option, Some, None, refl, sym, ap, ◌∙◌, inl, inr}
use Rattle.std.specs.Prelude.{is_none}
use Rattle.std.specs.Option.{is_some}
use Rattle.std.specs.Str.{bytes_eq}
use Rattle.std.proofs.lemmas.Bool.{cases_Bool, false_from_ne_true, true≢false}
use Rattle.kms_world.specs.declared.refusal.Field.{Field}
use Rattle.kms_page.specs.declared.listing.Listing.{Listing}
use Rattle.kms_page.specs.Parameters.{value_of}
use Rattle.kms_page.specs.Query.{others_of}
use Rattle.kms_page.specs.Rules.{paging, field_named, is_good, fault_if_taken, or_else, fault_of, first_fault, left_out, taken}

-- the name is none of the limit and the offset
abbrev pub is_other : List ℕ → Bool
is_other name = is_none (field_named paging name)

apart : (name other : List ℕ) → is_other name ≡ true → is_other other ≡ false → bytes_eq other name ≡ false
apart name other h g = false_from_ne_true (bytes_eq other name) (λ e.
    true≢false (sym h ∙ sym (ap is_other ((bytes_decides other name).0 e)) ∙ g))

value_cons : (name : List ℕ) (p : List ℕ × List ℕ) (ps : List (List ℕ × List ℕ)) → value_of name (p ∷ ps) ≡ cond (bytes_eq p.0 name) (Some p.1) (value_of name ps)
value_cons name p ps = elim (cases_Bool (bytes_eq p.0 name)) [ inl here ↦ rw here refl | inr past ↦ rw past refl ]

-- the first of two values
abbrev first : Option (List ℕ) → Option (List ℕ) → Option (List ℕ)
first None value = value
first (Some text) value = Some text

first_cond : (b : Bool) (x y : Option (List ℕ)) (text : List ℕ) → first (cond b (Some text) x) y ≡ cond b (Some text) (first x y)
first_cond true x y text = refl
first_cond false x y text = refl

value_push : (name : List ℕ) (ps : List (List ℕ × List ℕ)) (p : List ℕ × List ℕ) → value_of name (ps ++ p ∷ []) ≡ first (value_of name ps) (value_of name (p ∷ []))
value_push name [] p = refl
value_push name (q ∷ ps) p =
    value_cons name q (ps ++ p ∷ [])
    ∙ ap (cond (bytes_eq q.0 name) (Some q.1)) (value_push name ps p)
    ∙ sym (first_cond (bytes_eq q.0 name) (value_of name ps) (value_of name (p ∷ [])) q.1)
    ∙ ap (λ v. first v (value_of name (p ∷ []))) (sym (value_cons name q ps))

-- each name but the limit's and the offset's has the same value in both
pub record SameOthers (kept earlier : List (List ℕ × List ℕ)) : Type 0 where
  pub at : (name : List ℕ) → is_other name ≡ true → value_of name kept ≡ value_of name earlier

first_none : (v : Option (List ℕ)) → first v None ≡ v
first_none None = refl
first_none (Some text) = refl

SameOthers-push : (kept earlier : List (List ℕ × List ℕ)) (p : List ℕ × List ℕ) → SameOthers kept earlier → SameOthers (kept ++ p ∷ []) (earlier ++ p ∷ [])
SameOthers-push kept earlier p same = record {
  at = λ name other. value_push name kept p ∙ ap (λ v. first v (value_of name (p ∷ []))) (same.at name other) ∙ sym (value_push name earlier p);
}

SameOthers-skip : (kept earlier : List (List ℕ × List ℕ)) (p : List ℕ × List ℕ) → is_other p.0 ≡ false → SameOthers kept earlier → SameOthers kept (earlier ++ p ∷ [])
SameOthers-skip kept earlier p paged same = record {
  at = λ name other.
      let far : value_of name (p ∷ []) ≡ None = value_cons name p [] ∙ rw (apart name p.0 other paged) refl in
      same.at name other ∙ sym (first_none (value_of name earlier)) ∙ ap (first (value_of name earlier)) (sym far) ∙ sym (value_push name earlier p);
}

-- the limit and the offset in front change no other name's value
pub value_behind : (name : List ℕ) (p : List ℕ × List ℕ) (ps : List (List ℕ × List ℕ)) → is_other name ≡ true → is_other p.0 ≡ false → value_of name (p ∷ ps) ≡ value_of name ps
value_behind name p ps other paged = value_cons name p ps ∙ rw (apart name p.0 other paged) refl

pub value_of-others : (name : List ℕ) (ps : List (List ℕ × List ℕ)) → is_other name ≡ true → value_of name (others_of ps) ≡ value_of name ps
value_of-others name [] other = refl
value_of-others name (p ∷ ps) other = elim (cases_Bool (is_other p.0)) [
  | inl kept ↦ rw kept (value_cons name p (others_of ps) ∙ ap (cond (bytes_eq p.0 name) (Some p.1)) (value_of-others name ps other) ∙ sym (value_cons name p ps))
  | inr paged ↦ rw paged (value_of-others name ps other ∙ sym (value_behind name p ps other paged))
]

pub others_of-others : (ps : List (List ℕ × List ℕ)) → others_of (others_of ps) ≡ others_of ps
others_of-others [] = refl
others_of-others (p ∷ ps) = elim (cases_Bool (is_other p.0)) [
  | inl kept ↦ rw (kept, kept) (ap (λ l. p ∷ l) (others_of-others ps))
  | inr paged ↦ rw paged (others_of-others ps)
]

or_else_none : (a b : Option Field) → or_else a b ≡ None → (a ≡ None) × (b ≡ None)
or_else_none None b e = (refl, e)
or_else_none (Some field) b e = absurd (let same : Some field ≡ None = e in cc)

fault_same : (listing : Listing) (kept earlier : List (List ℕ × List ℕ)) (p : List ℕ × List ℕ) → value_of p.0 kept ≡ value_of p.0 earlier → fault_of listing kept p ≡ fault_of listing earlier p
fault_same listing kept earlier p same =
    ap (or_else (field_named left_out p.0)) (taken_same (field_named (taken listing) p.0))
  where
    taken_same : (field : Option Field) → fault_if_taken field kept p ≡ fault_if_taken field earlier p
    taken_same None = refl
    taken_same (Some field) = ap (λ v. cond (is_some v || not (is_good field p.1)) (Some field) None) same

-- without the limit and the offset the others break no rule either
pub others_keep_rules : (listing : Listing) (ps kept earlier : List (List ℕ × List ℕ)) → SameOthers kept earlier → first_fault listing earlier ps ≡ None → first_fault listing kept (others_of ps) ≡ None
others_keep_rules listing [] kept earlier same good = refl
others_keep_rules listing (p ∷ ps) kept earlier same good =
    let parts = or_else_none (fault_of listing earlier p) (first_fault listing (earlier ++ p ∷ []) ps) good in
    elim (cases_Bool (is_other p.0)) [
      | inl other ↦ rw other
          (ap (λ f. or_else f (first_fault listing (kept ++ p ∷ []) (others_of ps))) (fault_same listing kept earlier p (same.at p.0 other) ∙ parts.0)
          ∙ others_keep_rules listing ps (kept ++ p ∷ []) (earlier ++ p ∷ []) (SameOthers-push kept earlier p same) parts.1)
      | inr paged ↦ rw paged (others_keep_rules listing ps kept (earlier ++ p ∷ []) (SameOthers-skip kept earlier p paged same) parts.1)
    ]
