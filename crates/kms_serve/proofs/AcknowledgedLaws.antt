-- What was acknowledged is kept.
use Rattle.std.proofs.Common.{Bool, List, [], ap, arith, cond, false, inl, inr, length, length-append, map, nat_eq, nat_lt, refl, suc, take, true, zero, ℕ, ◌++◌, ◌+◌, ◌-◌, ◌<◌, ◌∷◌, ◌≡◌, ◌≤◌, ◌⊎◌}
use Rattle.std.proofs.lemmas.Bool.{cases_lt, lt-ltb, ltb-true}
use Rattle.std.specs.Prelude.{not, ◌&&◌}
use Rattle.kms_host.specs.Line.{sent}
use Rattle.kms_model.specs.Course.{Course, Mark, Outcome, course_at, outcome_at, outcomes_of}
use Rattle.kms_serve.specs.Acknowledged.{IsAcknowledgedKept, acknowledged, acknowledged_from}
use Rattle.kms_serve.specs.Events.{LineEvent}
use Rattle.kms_serve.specs.Replies.{answered, event_of, replies, replies_with, reply_to, steps_by}

-- none was acknowledged, or one was, after replies that are shorter than what was sent
abbrev Found : (line size before : ℕ) → (endpoint : List ℕ) → List LineEvent → List Outcome → Type 0
Found line size before endpoint es outcomes =
    (acknowledged_from line size before endpoint es outcomes ≡ 0)
    ⊎ ((k : ℕ) × (acknowledged_from line size before endpoint es outcomes ≡ before + k + 1) × (length (replies_with line endpoint (take k es) outcomes) < size))

not_true : (t : Bool) → (t ≡ true → ⊥) → t ≡ false
not_true true wrong = absurd (wrong refl)
not_true false wrong = refl

not_lt : (a b : ℕ) → b ≤ a → nat_lt a b ≡ false
not_lt a b le = not_true (nat_lt a b) (λ is. omega (arith, ltb-true a b is, le))

first_one : (here : Bool) (size before : ℕ) → cond (here && nat_lt 0 size) (before + 1) 0 ≡ 0 ⊎ ((cond (here && nat_lt 0 size) (before + 1) 0 ≡ before + 1) × (0 < size))
first_one false size before = inl refl
first_one true size before = elim (cases_lt 0 size) [
  | inl lt ↦ inr (ap (λ (t : Bool). cond t (before + 1) 0) (lt-ltb 0 size lt), lt)
  | inr ge ↦ inl (ap (λ (t : Bool). cond t (before + 1) 0) (not_lt 0 size ge))
]

found : (line size before : ℕ) (endpoint : List ℕ) (es : List LineEvent) (outcomes : List Outcome) → Found line size before endpoint es outcomes
found line size before endpoint [] answers = inl refl
found line size before endpoint (e ∷ es) [] = inl refl
found line size before endpoint (e ∷ es) (outcome ∷ outcomes) =
    let own = cond (nat_eq e.line line) (reply_to endpoint e outcome) [] in
    elim (found line (size - length own) (before + 1) endpoint es outcomes) [
      | inl none ↦ elim (first_one (nat_eq e.line line) size before) [
        | inl not ↦ inl (omega (arith, none, not))
        | inr is ↦ inr (0, omega (arith, none, is.0), is.1)
      ]
      | inr some ↦ elim (first_one (nat_eq e.line line) size before) [
        | inl not ↦ inr (suc some.0, omega (arith, some.1, not), omega (arith, some.2, length-append own (replies_with line endpoint (take some.0 es) outcomes)))
        | inr is ↦ inr (suc some.0, omega (arith, some.1, is.0), omega (arith, some.2, length-append own (replies_with line endpoint (take some.0 es) outcomes)))
      ]
    ]

-- later outcomes don't matter
same_front : (line : ℕ) (endpoint : List ℕ) (c : Course) (es : List LineEvent) (marks : List Mark) (k : ℕ)
    → replies_with line endpoint (take k es) (outcomes_of c (map event_of (take k es)) marks) ≡ replies_with line endpoint (take k es) (outcomes_of c (map event_of es) marks)
same_front line endpoint c [] marks zero = refl
same_front line endpoint c [] marks (suc k) = refl
same_front line endpoint c (e ∷ es) marks zero = refl
same_front line endpoint c (e ∷ es) [] (suc k) = refl
same_front line endpoint c (e ∷ es) (m ∷ marks) (suc k) =
    ap (λ (r : List ℕ). cond (nat_eq e.line line) (reply_to endpoint e (outcome_at c e.event m)) [] ++ r) (same_front line endpoint (course_at c e.event m) es marks k)

pub acknowledged_kept : IsAcknowledgedKept
acknowledged_kept start marks calls image h on line =
    let endpoint = start.plan.endpoint in
    let es = answered start.plan calls in
    let n = acknowledged start marks calls line in
    elim (found line (length (sent line calls)) 0 endpoint es (outcomes_of start.first (map event_of es) marks)) [
      | inl none ↦ let nothing : steps_by start.first (take n es) marks ≡ 0 = ap (λ (k : ℕ). steps_by start.first (take k es) marks) none in omega (arith, nothing)
      | inr some ↦
          let here : n ≡ some.0 + 1 = omega (arith, some.1) in
          let short : length (replies line endpoint start.first (take some.0 es) marks) < length (sent line calls) =
          omega (arith, some.2, ap length (same_front line endpoint start.first es marks some.0)) in
          let same : steps_by start.first (take n es) marks ≡ steps_by start.first (take (some.0 + 1) es) marks = ap (λ (k : ℕ). steps_by start.first (take k es) marks) here in
          omega (arith, same, h.acknowledged on line some.0 short)
    ]
