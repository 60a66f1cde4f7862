-- What was sent on each line, after a piece more.
use Rattle.std.proofs.Common.{◌≡◌, ℕ, zero, suc, ◌+◌, ◌<◌, List, [], ◌∷◌, ◌++◌, length, set, get_or, Some, None, Bool, true, false, nat_eq, cond, refl, sym, ◌∙◌, ap, arith, eqb-true, eq-eqb}
use Rattle.std.specs.Prelude.{Option, position, ◌==◌}
use Rattle.std.specs.List.{position_from}
use Rattle.std.proofs.lemmas.List.Quantifiers.{position-Some}
use Rattle.std.proofs.lemmas.Iterator.Adapters.{position_from-zero}
use Rattle.kms_host.specs.Memory.{sent_on}

-- the list has this line at this place, and not before
record Stands (line place : ℕ) (outputs : List (ℕ × List ℕ)) (d : ℕ × List ℕ) : Type 0 where
  within : place < length outputs
  here : nat_eq (get_or outputs place d).0 line ≡ true
  before : (k : ℕ) → k < place → nat_eq (get_or outputs k d).0 line ≡ false

stands : (line place : ℕ) (outputs : List (ℕ × List ℕ)) (d : ℕ × List ℕ) → Some place ≡ position (λ o. o.0 == line) outputs → Stands line place outputs d
stands line place outputs d is =
    let p = position-Some (λ (o : ℕ × List ℕ). o.0 == line) outputs place d (sym is) in
    record { within = p.0; here = p.1; before = p.2 }

later : (line place : ℕ) (o : ℕ × List ℕ) (outputs : List (ℕ × List ℕ)) (d : ℕ × List ℕ) → Stands line (suc place) (o ∷ outputs) d → Stands line place outputs d
later line place o outputs d s = record {
  within = omega (arith, s.within);
  here = s.here;
  before = λ k h. s.before (suc k) (omega (arith, h));
}

sent_at : (line place : ℕ) (outputs : List (ℕ × List ℕ)) (d : ℕ × List ℕ) → Stands line place outputs d → sent_on line outputs ≡ (get_or outputs place d).1
sent_at line place [] d s = absurd (omega (arith, s.within))
sent_at line zero (o ∷ outputs) d s = ap (λ (b : Bool). cond b o.1 (sent_on line outputs)) s.here
sent_at line (suc place) (o ∷ outputs) d s =
    ap (λ (b : Bool). cond b o.1 (sent_on line outputs)) (s.before 0 (omega arith)) ∙ sent_at line place outputs d (later line place o outputs d s)

-- two tests of which not both hold
apart : (a b : Bool) (x y z : List ℕ) → (a ≡ true → b ≡ true → ⊥) → cond a x (cond b y z) ≡ cond b y (cond a x z)
apart true true x y z not_both = absurd (not_both refl refl)
apart true false x y z not_both = refl
apart false b x y z not_both = refl

other_line : (l line other : ℕ) → nat_eq l line ≡ false → nat_eq l other ≡ true → nat_eq line other ≡ true → ⊥
other_line l line other differ one two =
    let same : l ≡ line = eqb-true l other one ∙ sym (eqb-true line other two) in
    let wrong : false ≡ true = sym differ ∙ eq-eqb l line same in
    grind (arith, wrong)

-- other bytes in the place of a line's
sent_set : (line place other : ℕ) (bytes : List ℕ) (outputs : List (ℕ × List ℕ)) (d : ℕ × List ℕ) → Stands line place outputs d
    → sent_on other (set outputs place ((get_or outputs place d).0, bytes)) ≡ cond (nat_eq line other) bytes (sent_on other outputs)
sent_set line place other bytes [] d s = absurd (omega (arith, s.within))
sent_set line zero other bytes (o ∷ outputs) d s =
    let is : o.0 ≡ line = eqb-true o.0 line s.here in
    ap (λ (l : ℕ). cond (nat_eq l other) bytes (sent_on other outputs)) is ∙ again (nat_eq line other) (sym (ap (λ (l : ℕ). nat_eq l other) is))
  where
    again : (b : Bool) → b ≡ nat_eq o.0 other → cond b bytes (sent_on other outputs) ≡ cond b bytes (cond (nat_eq o.0 other) o.1 (sent_on other outputs))
    again true e = refl
    again false e = ap (λ (b : Bool). cond b o.1 (sent_on other outputs)) e
sent_set line (suc place) other bytes (o ∷ outputs) d s =
    ap (λ (x : List ℕ). cond (nat_eq o.0 other) o.1 x) (sent_set line place other bytes outputs d (later line place o outputs d s))
    ∙ apart (nat_eq o.0 other) (nat_eq line other) o.1 bytes (sent_on other outputs) (other_line o.0 line other (s.before 0 (omega arith)))

-- a line that nothing was sent on
abbrev IsAbsent : ℕ → List (ℕ × List ℕ) → Type 0
IsAbsent line [] = Unit {0}
IsAbsent line (o ∷ outputs) = (nat_eq o.0 line ≡ false) × IsAbsent line outputs

cond_none : (b : Bool) (x : ℕ) (y : Option ℕ) → cond b (Some x) y ≡ None → (b ≡ false) × (y ≡ None)
cond_none true x y is = absurd (grind (arith, is))
cond_none false x y is = (refl, is)

absent_from : (line i : ℕ) (outputs : List (ℕ × List ℕ)) → position_from (λ o. o.0 == line) i outputs ≡ None → IsAbsent line outputs
absent_from line i [] is = tt
absent_from line i (o ∷ outputs) is =
    let p = cond_none (nat_eq o.0 line) i (position_from (λ o. o.0 == line) (i + 1) outputs) is in
    (p.0, absent_from line (i + 1) outputs p.1)

absent : (line : ℕ) (outputs : List (ℕ × List ℕ)) → position (λ o. o.0 == line) outputs ≡ None → IsAbsent line outputs
absent line outputs is = absent_from line 0 outputs (sym (position_from-zero (λ (o : ℕ × List ℕ). o.0 == line) outputs) ∙ is)

-- and its first piece
sent_push : (line other : ℕ) (piece : List ℕ) (outputs : List (ℕ × List ℕ)) → IsAbsent line outputs
    → sent_on other (outputs ++ (line, piece) ∷ []) ≡ cond (nat_eq line other) (sent_on other outputs ++ piece) (sent_on other outputs)
sent_push line other piece [] none = refl
sent_push line other piece (o ∷ outputs) none =
    ap (λ (x : List ℕ). cond (nat_eq o.0 other) o.1 x) (sent_push line other piece outputs none.1)
    ∙ either (nat_eq o.0 other) (nat_eq line other) (other_line o.0 line other none.0)
  where
    either : (a b : Bool) → (a ≡ true → b ≡ true → ⊥)
        → cond a o.1 (cond b (sent_on other outputs ++ piece) (sent_on other outputs)) ≡ cond b (cond a o.1 (sent_on other outputs) ++ piece) (cond a o.1 (sent_on other outputs))
    either true true not_both = absurd (not_both refl refl)
    either true false not_both = refl
    either false b not_both = refl

nothing_sent : (line : ℕ) (outputs : List (ℕ × List ℕ)) → IsAbsent line outputs → sent_on line outputs ≡ []
nothing_sent line [] none = refl
nothing_sent line (o ∷ outputs) none = ap (λ (b : Bool). cond b o.1 (sent_on line outputs)) none.0 ∙ nothing_sent line outputs none.1

-- by the place that a search gave

pub sent_there : (line place : ℕ) (outputs : List (ℕ × List ℕ)) (d o : ℕ × List ℕ) → Some place ≡ position (λ o. o.0 == line) outputs → o ≡ get_or outputs place d → o.1 ≡ sent_on line outputs
sent_there line place outputs d o is at = ap (λ (p : ℕ × List ℕ). p.1) at ∙ sym (sent_at line place outputs d (stands line place outputs d is))

pub sent_nowhere : (line : ℕ) (outputs : List (ℕ × List ℕ)) → None ≡ position (λ o. o.0 == line) outputs → [] ≡ sent_on line outputs
sent_nowhere line outputs is = sym (nothing_sent line outputs (absent line outputs (sym is)))

pub sent_more : (line place : ℕ) (outputs : List (ℕ × List ℕ)) (d o : ℕ × List ℕ) (bytes piece : List ℕ) → Some place ≡ position (λ o. o.0 == line) outputs → o ≡ get_or outputs place d
    → bytes ≡ o.1 ++ piece → (other : ℕ) → sent_on other (set outputs place (o.0, bytes)) ≡ cond (nat_eq line other) (sent_on other outputs ++ piece) (sent_on other outputs)
sent_more line place outputs d o bytes piece is at grown other =
    let s = stands line place outputs d is in
    ap (λ (p : ℕ × List ℕ). sent_on other (set outputs place (p.0, bytes))) at ∙ sent_set line place other bytes outputs d s ∙ which (nat_eq line other) refl
  where
    which : (b : Bool) → nat_eq line other ≡ b → cond b bytes (sent_on other outputs) ≡ cond b (sent_on other outputs ++ piece) (sent_on other outputs)
    which true e =
        grown ∙ ap (λ (x : List ℕ). x ++ piece) (sent_there line place outputs d o is at) ∙ ap (λ (l : ℕ). sent_on l outputs ++ piece) (eqb-true line other e)
    which false e = refl

pub sent_first : (line : ℕ) (outputs : List (ℕ × List ℕ)) (piece : List ℕ) → None ≡ position (λ o. o.0 == line) outputs
    → (other : ℕ) → sent_on other (outputs ++ (line, piece) ∷ []) ≡ cond (nat_eq line other) (sent_on other outputs ++ piece) (sent_on other outputs)
sent_first line outputs piece is other = sent_push line other piece outputs (absent line outputs (sym is))
