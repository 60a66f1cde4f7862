-- What a store stands for is one thing, and each record leads on.
use Rattle.std.proofs.Common.{◌≡◌, inl, inr, ℕ, ◌+◌, ◌^◌, ◌<◌, Bool, true, List, [], ◌∷◌, ◌++◌, length, Some, None, refl, sym, ap, subst, ◌∙◌, arith}
use Rattle.std.proofs.lemmas.Bool.{false≢true}
use Rattle.kms_record.specs.declared.change.Change.{Change}
use Rattle.kms_record.specs.Fields.{u64_bytes}
use Rattle.kms_record.specs.Grammar.{IsRecord, IsSnapshot, AreSteps, record_bytes}
use Rattle.kms_kept.specs.Kept.{Kept, Base, after_changes, after_record, kept_first}
use Rattle.kms_record.proofs.GrammarLaws.{record_again, snapshot_again}
use Rattle.kms_journal.specs.Commit.{frame}
use Rattle.kms_journal.specs.Create.{fresh, no_changes}
use Rattle.kms_journal.specs.Standing.{Standing, record_in, with_framed}
use Rattle.kms_journal.proofs.RestLaws.{frame_holds}
use Rattle.kms_store.specs.Stands.{Applies, LeadTo, IsSnapshotOf, IsNoSnapshot, KeptOf, StandFor, HaveSteps, HasSteps, IsBroken, BreakAt, IsDamagedAt}

pub some_is : {A : Type 0} (x y : A) → Some x ≡ Some y → x ≡ y
some_is x y e = cc

pub one_reading : (bytes : List ℕ) (a b : List (List Change)) → IsRecord bytes a → IsRecord bytes b → a ≡ b
one_reading bytes a b p q = some_is a b (sym (record_again bytes a p) ∙ record_again bytes b q)

one_snapshot : (bytes : List ℕ) (a b : List Change) → IsSnapshot bytes a → IsSnapshot bytes b → a ≡ b
one_snapshot bytes a b p q = some_is a b (sym (snapshot_again bytes a p) ∙ snapshot_again bytes b q)

-- a snapshot leads to one thing
pub one_first : (tag ids : ℕ) (snapshot : List ℕ) (a b : Kept) → IsSnapshotOf tag ids snapshot a → IsSnapshotOf tag ids snapshot b → a ≡ b
one_first tag ids snapshot a b p q =
    some_is a b
    (sym p.leads ∙ ap (λ (changes : List Change). after_changes Base changes (kept_first tag ids)) (one_snapshot snapshot p.changes q.changes p.read q.read) ∙ q.leads)

pub applies_once : (bytes : List ℕ) (kept a b : Kept) → Applies bytes kept a → Applies bytes kept b → a ≡ b
applies_once bytes kept a b p q =
    some_is a b (sym p.leads ∙ ap (λ (steps : List (List Change)). after_record steps kept) (one_reading bytes p.steps q.steps p.read q.read) ∙ q.leads)

pub leads_once : (items : List (ℕ × List ℕ)) (kept a b : Kept) → LeadTo items kept a → LeadTo items kept b → a ≡ b
leads_once [] kept a b p q = sym p ∙ q
leads_once (item ∷ items) kept a b p q =
    leads_once items q.0 a b (subst (λ (k : Kept). LeadTo items k a) (applies_once item.1 kept p.0 q.0 p.1 q.1) p.2) q.2

pub one_kept : (s : Standing) (a b : Kept) → KeptOf s a → KeptOf s b → a ≡ b
one_kept s a b p q =
    leads_once s.records q.first a b (subst (λ (k : Kept). LeadTo s.records k a) (one_first s.tag s.ids s.snapshot p.first q.first p.snapshot q.snapshot) p.records) q.records

counts_once : (items : List (ℕ × List ℕ)) (m n : ℕ) → HaveSteps items m → HaveSteps items n → m ≡ n
counts_once [] m n p q = p ∙ sym q
counts_once (item ∷ items) m n p q =
    let rest = counts_once items p.1 q.1 p.3 q.3 in
    let steps : length p.0 ≡ length q.0 = ap length (one_reading item.1 p.0 q.0 p.2 q.2) in
    omega (arith, p.4, q.4, rest, steps)

pub one_count : (s : Standing) (m n : ℕ) → HasSteps s m → HasSteps s n → m ≡ n
one_count s m n p q = omega (arith, p.2, q.2, counts_once s.records p.0 q.0 p.1 q.1)

pub stand_for_one : (two : List ℕ × List ℕ) (a b : Kept) (m n : ℕ) → StandFor two a m → StandFor two b n → (a ≡ b) × (m ≡ n)
stand_for_one two a b m n p q =
    let same : p.standing ≡ q.standing = some_is p.standing q.standing (sym p.current ∙ q.current) in (
      one_kept q.standing a b (subst (λ (s : Standing). KeptOf s a) same p.keeps) q.keeps,
      one_count q.standing m n (subst (λ (s : Standing). HasSteps s m) same p.counted) q.counted,
    )

-- records that lead on have a number of steps
counts_of : (items : List (ℕ × List ℕ)) (kept after : Kept) → LeadTo items kept after → (n : ℕ) × HaveSteps items n
counts_of [] kept after p = (0, refl)
counts_of (item ∷ items) kept after p = let rest = counts_of items p.0 after p.2 in (length p.1.steps + rest.0, (p.1.steps, rest.0, p.1.read, rest.1, refl))

pub kept_counts : (s : Standing) (kept : Kept) → KeptOf s kept → (n : ℕ) × HasSteps s n
kept_counts s kept p = let all = counts_of s.records p.first kept p.records in (s.steps + all.0, (all.0, all.1, refl))

pub fresh_counted : (tag : ℕ) → HasSteps (fresh tag) 0
fresh_counted tag = (0, refl, refl)

pub applies_or_not : (bytes : List ℕ) (kept after : Kept) → Applies bytes kept after → IsBroken bytes kept → ⊥
applies_or_not bytes kept after p broken = let e : Some after ≡ None = sym p.leads ∙ broken p.steps p.read in cc

unbroken : (items : List (ℕ × List ℕ)) (stop place : ℕ) (is_whole : Bool) (kept after : Kept) → is_whole ≡ true → LeadTo items kept after → BreakAt items stop is_whole kept place → ⊥
unbroken [] stop place is_whole kept after whole p broken = false≢true (sym broken.0 ∙ whole)
unbroken (item ∷ items) stop place is_whole kept after whole p (inl broken) = applies_or_not item.1 kept p.0 p.1 broken.0
unbroken (item ∷ items) stop place is_whole kept after whole p (inr later) =
    unbroken items stop place is_whole later.0 after whole (subst (λ (k : Kept). LeadTo items k after) (applies_once item.1 kept p.0 later.0 p.1 later.1) p.2) later.2

pub undamaged : (s : Standing) (kept : Kept) (place : ℕ) → KeptOf s kept → IsDamagedAt s place → ⊥
undamaged s kept place p (inl not) = not.0 p.first p.snapshot
undamaged s kept place p (inr broken) =
    let same = one_first s.tag s.ids s.snapshot p.first broken.0 p.snapshot broken.1 in
    unbroken s.records s.stop place s.is_whole broken.0 kept p.whole (subst (λ (k : Kept). LeadTo s.records k kept) same p.records) broken.2

no_changes_snapshot : IsSnapshot no_changes []
unfolding u64_bytes
no_changes_snapshot = record { spelled = refl; admitted = record { few = omega arith; each = tt } }

pub fresh_kept : (tag : ℕ) → tag < 2 ^ 60 → KeptOf (fresh tag) (kept_first tag 0)
fresh_kept tag lt = record {
  whole = refl;
  first = kept_first tag 0;
  snapshot = record { tag_fits = lt; ids_fit = omega arith; changes = []; read = no_changes_snapshot; leads = refl };
  records = refl;
}

pub lead_on : (items : List (ℕ × List ℕ)) (item : ℕ × List ℕ) (kept mid after : Kept) → LeadTo items kept mid → Applies item.1 mid after → LeadTo (items ++ item ∷ []) kept after
lead_on [] item kept mid after p last = (after, subst (λ (k : Kept). Applies item.1 k after) (sym p) last, refl)
lead_on (x ∷ items) item kept mid after p last = (p.0, p.1, lead_on items item p.0 mid after p.2 last)

pub record_leads : (s : Standing) (before after : Kept) (steps : List (List Change)) → KeptOf s before → AreSteps steps → length (record_bytes steps) < 2 ^ 32
    → after_record steps before ≡ Some after → KeptOf (with_framed s (frame (record_bytes steps))) after
record_leads s before after steps kept admitted short leads =
    let bytes = record_bytes steps in
    let last : Applies (record_in (1 ∷ frame bytes)) before after = record { steps = steps; read = record { spelled = frame_holds bytes short; admitted = admitted }; leads = leads } in
    record { whole = kept.whole; first = kept.first; snapshot = kept.snapshot; records = lead_on s.records (s.stop, record_in (1 ∷ frame bytes)) kept.first before after kept.records last }

more_steps : (items : List (ℕ × List ℕ)) (item : ℕ × List ℕ) (n : ℕ) (steps : List (List Change)) → HaveSteps items n → IsRecord item.1 steps → HaveSteps (items ++ item ∷ []) (n + length steps)
more_steps [] item n steps none is = (steps, 0, is, refl, omega (arith, none))
more_steps (x ∷ items) item n steps p is = (p.0, p.1 + length steps, p.2, more_steps items item p.1 steps p.3 is, omega (arith, p.4))

pub record_counts : (s : Standing) (n : ℕ) (steps : List (List Change)) → HasSteps s n → AreSteps steps → length (record_bytes steps) < 2 ^ 32
    → HasSteps (with_framed s (frame (record_bytes steps))) (n + length steps)
record_counts s n steps p admitted short =
    let bytes = record_bytes steps in
    (p.0 + length steps, more_steps s.records (s.stop, record_in (1 ∷ frame bytes)) p.0 steps p.1 (record { spelled = frame_holds bytes short; admitted = admitted }), omega (arith, p.2))

pub broken_by : (bytes : List ℕ) (steps : List (List Change)) (kept : Kept) → IsRecord bytes steps → after_record steps kept ≡ None → IsBroken bytes kept
broken_by bytes steps kept is none other read = ap (λ (s : List (List Change)). after_record s kept) (one_reading bytes other steps read is) ∙ none

pub no_snapshot_by : (tag ids : ℕ) (bytes : List ℕ) (changes : List Change) → IsSnapshot bytes changes → after_changes Base changes (kept_first tag ids) ≡ None → IsNoSnapshot tag ids bytes
no_snapshot_by tag ids bytes changes is none kept of =
    let same = one_snapshot bytes of.changes changes of.read is in
    let e : Some kept ≡ None = sym of.leads ∙ ap (λ (c : List Change). after_changes Base c (kept_first tag ids)) same ∙ none in cc
