-- How the events of a run fall into batches, and how often the store is settled.
use Rattle.std.proofs.Common.{Bool, List, Ok, [], ap, append_assoc, arith, cond, inl, inr, length, length-append, nat_eq, refl, subst, suc, sym, zero, ℕ, ◌++◌, ◌+◌, ◌∙◌, ◌∷◌, ◌≡◌, ◌≤◌, ◌⊎◌}
use Rattle.std.proofs.lemmas.Bool.{ne_eqb}
use Rattle.std.proofs.lemmas.List.{append-nil}
use Rattle.kms_host.specs.Moment.{AtEach}
use Rattle.kms_host.specs.Store.{apart_from_files}
use Rattle.kms_host.specs.declared.call.Call.{Call}
use Rattle.kms_host.specs.declared.call.Call.TheVariants.{Attached, Came, Drew, Gave, Listened, OnFile, Shut, Text, Told, Took}
use Rattle.kms_model.specs.Course.{Course, Mark, course_at}
use Rattle.kms_serve.specs.Allowed.{IsOpening, IsSettling}
use Rattle.kms_serve.specs.Answered.{Answered}
use Rattle.kms_serve.specs.Batches.{before_batch, before_open, in_batch, settles}
use Rattle.kms_serve.specs.Events.{LineEvent, events, events_at}
use Rattle.kms_serve.specs.Plan.{Plan}
use Rattle.kms_serve.specs.Replies.{steps_by}
use Rattle.kms_serve.specs.RunStart.{RunStart}

-- the events before the batch that is being answered are the first ones
pub open_first : (p : Plan) (calls : List Call) → (more : List LineEvent) × (events p calls ≡ events p (before_open calls) ++ more)
open_first p [] = ([], refl)
open_first p (Text name room bytes ∷ calls) = ([], sym (append-nil _))
open_first p (Attached name done ∷ calls) = ([], sym (append-nil _))
open_first p (Listened address done ∷ calls) = ([], sym (append-nil _))
open_first p (Came next ∷ calls) = ([], sym (append-nil _))
open_first p (Took line room bytes ∷ calls) = ([], sym (append-nil _))
open_first p (Gave line piece went ∷ calls) = ([], sym (append-nil _))
open_first p (Shut line ∷ calls) = ([], sym (append-nil _))
open_first p (OnFile file c ∷ calls) = ([], sym (append-nil _))
open_first p (Drew purpose bytes ∷ calls) = open_first p calls
open_first p (Told t ∷ calls) =
    let before = open_first p calls in
    let here = events_at p p.command (events p calls) calls t in
    (before.0 ++ here, ap (λ (x : List LineEvent). x ++ here) before.1 ∙ append_assoc (events p (before_open calls)) before.0 here)

-- more events make no fewer steps
pub steps-more : (c : Course) (es more : List LineEvent) (ms : List Mark) → steps_by c es ms ≤ steps_by c (es ++ more) ms
steps-more c [] more ms = omega arith
steps-more c (e ∷ es) more [] = omega arith
steps-more c (e ∷ es) more (m ∷ ms) = omega (arith, steps-more (course_at c e.event m) es more ms)

pub steps_open : (b : RunStart) (ms : List Mark) (calls : List Call) → steps_by b.first (events b.plan (before_open calls)) ms ≤ steps_by b.first (events b.plan calls) ms
steps_open b ms calls =
    let first = open_first b.plan calls in
    subst (λ (x : List LineEvent). steps_by b.first (events b.plan (before_open calls)) ms ≤ steps_by b.first x ms) (sym first.1)
    (steps-more b.first (events b.plan (before_open calls)) first.0 ms)

-- while a batch is answered it is the newest
pub batch_open : (calls : List Call) (n : ℕ) → in_batch calls ≡ suc n → before_batch calls ≡ before_open calls
batch_open [] n h = absurd (omega (arith, h))
batch_open (Text name room bytes ∷ calls) n h = absurd (omega (arith, h))
batch_open (Attached name done ∷ calls) n h = absurd (omega (arith, h))
batch_open (Listened address done ∷ calls) n h = absurd (omega (arith, h))
batch_open (Came next ∷ calls) n h = absurd (omega (arith, h))
batch_open (Took line room bytes ∷ calls) n h = absurd (omega (arith, h))
batch_open (Gave line piece went ∷ calls) n h = absurd (omega (arith, h))
batch_open (Shut line ∷ calls) n h = absurd (omega (arith, h))
batch_open (OnFile file c ∷ calls) n h = absurd (omega (arith, h))
batch_open (Told t ∷ calls) n h = refl
batch_open (Drew purpose bytes ∷ calls) n h = batch_open calls n h

-- and the store was opened before
not_opening : (b : RunStart) (calls : List Call) (n : ℕ) → in_batch calls ≡ suc n → IsOpening b calls → ⊥
not_opening b [] n h o = absurd (omega (arith, h))
not_opening b (Text name room bytes ∷ calls) n h o = absurd (omega (arith, h))
not_opening b (Attached name done ∷ calls) n h o = absurd (omega (arith, h))
not_opening b (Listened address done ∷ calls) n h o = absurd (omega (arith, h))
not_opening b (Came next ∷ calls) n h o = absurd (omega (arith, h))
not_opening b (Took line room bytes ∷ calls) n h o = absurd (omega (arith, h))
not_opening b (Gave line piece went ∷ calls) n h o = absurd (omega (arith, h))
not_opening b (Shut line ∷ calls) n h o = absurd (omega (arith, h))
not_opening b (OnFile file c ∷ calls) n h o = absurd (omega (arith, h))
not_opening b (Told t ∷ calls) n h o = let e : Told t ∷ apart_from_files calls ≡ Attached b.plan.store (Ok tt) ∷ o.read = o.apart in cc
not_opening b (Drew purpose bytes ∷ calls) n h o = let e : Drew purpose bytes ∷ apart_from_files calls ≡ Attached b.plan.store (Ok tt) ∷ o.read = o.apart in cc

module _ (b : RunStart) (ms : List Mark) where
  abbrev pub Few : List Call → Type 0
  Few calls = settles calls ≤ steps_by b.first (events b.plan (before_open calls)) ms

  few_all : (calls : List Call) → Few calls → settles calls ≤ steps_by b.first (events b.plan calls) ms
  few_all calls few = omega (arith, few, steps_open b ms calls)

  few_settled : (calls : List Call) (n : ℕ) → in_batch calls ≡ n → Few calls → IsOpening b calls ⊎ IsSettling b ms calls
      → cond (nat_eq n 0) (settles calls) (settles calls + 1) ≤ steps_by b.first (events b.plan calls) ms
  few_settled calls zero is few needed = few_all calls few
  few_settled calls (suc n) is few needed = elim needed [
    | inl opening ↦ absurd (not_opening b calls n is opening)
    | inr step ↦
        let open_steps : steps_by b.first (events b.plan (before_batch calls)) ms ≡ steps_by b.first (events b.plan (before_open calls)) ms =
        ap (λ (x : List Call). steps_by b.first (events b.plan x) ms) (batch_open calls n is) in
        let one_more : cond (nat_eq (suc n) 0) (settles calls) (settles calls + 1) ≡ settles calls + 1 = ap (λ (z : Bool). cond z (settles calls) (settles calls + 1)) (ne_eqb (suc n) 0 (λ e. omega (arith, e))) in
        omega (arith, few, step.needed, open_steps, one_more)
  ]

  few_opened : (calls : List Call) → AtEach (Answered b ms) calls → Few calls
  few_opened [] h = omega arith
  few_opened (Text name room bytes ∷ calls) h = few_all calls (few_opened calls h.1)
  few_opened (Attached name done ∷ calls) h = few_all calls (few_opened calls h.1)
  few_opened (Listened address done ∷ calls) h = few_all calls (few_opened calls h.1)
  few_opened (Came next ∷ calls) h = few_all calls (few_opened calls h.1)
  few_opened (Took line room bytes ∷ calls) h = few_all calls (few_opened calls h.1)
  few_opened (Gave line piece went ∷ calls) h = few_all calls (few_opened calls h.1)
  few_opened (Shut line ∷ calls) h = few_all calls (few_opened calls h.1)
  few_opened (OnFile file c ∷ calls) h = few_settled calls (in_batch calls) refl (few_opened calls h.1) h.0.in_turn.needed
  few_opened (Told t ∷ calls) h = few_opened calls h.1
  few_opened (Drew purpose bytes ∷ calls) h = few_opened calls h.1

-- the store was settled at most once for each step
pub few_settles : (b : RunStart) (ms : List Mark) (calls : List Call) → AtEach (Answered b ms) calls → settles calls ≤ steps_by b.first (events b.plan calls) ms
few_settles b ms calls h = few_all b ms calls (few_opened b ms calls h)

-- the events before the newest batch are the first ones
pub batch_first : (p : Plan) (calls : List Call) → (more : List LineEvent) × (events p calls ≡ events p (before_batch calls) ++ more)
batch_first p [] = ([], refl)
batch_first p (Text name room bytes ∷ calls) = batch_first p calls
batch_first p (Attached name done ∷ calls) = batch_first p calls
batch_first p (Listened address done ∷ calls) = batch_first p calls
batch_first p (Came next ∷ calls) = batch_first p calls
batch_first p (Took line room bytes ∷ calls) = batch_first p calls
batch_first p (Gave line piece went ∷ calls) = batch_first p calls
batch_first p (Shut line ∷ calls) = batch_first p calls
batch_first p (OnFile file c ∷ calls) = batch_first p calls
batch_first p (Drew purpose bytes ∷ calls) = batch_first p calls
batch_first p (Told t ∷ calls) =
    let before = open_first p calls in
    let here = events_at p p.command (events p calls) calls t in
    (before.0 ++ here, ap (λ (x : List LineEvent). x ++ here) before.1 ∙ append_assoc (events p (before_open calls)) before.0 here)

pub few_batch : (p : Plan) (calls : List Call) → length (events p (before_batch calls)) ≤ length (events p calls)
few_batch p calls =
    let f = batch_first p calls in omega (arith, ap (λ (x : List LineEvent). length x) f.1, length-append (events p (before_batch calls)) f.0)

pub few_open : (p : Plan) (calls : List Call) → length (events p (before_open calls)) ≤ length (events p calls)
few_open p calls =
    let f = open_first p calls in omega (arith, ap (λ (x : List LineEvent). length x) f.1, length-append (events p (before_open calls)) f.0)

-- calls on files aside, the batch that is being answered or settled
pub apart_in_batch : (calls : List Call) → in_batch calls ≤ in_batch (apart_from_files calls)
apart_in_batch [] = omega arith
apart_in_batch (Text name room bytes ∷ calls) = omega arith
apart_in_batch (Attached name done ∷ calls) = omega arith
apart_in_batch (Listened address done ∷ calls) = omega arith
apart_in_batch (Came next ∷ calls) = omega arith
apart_in_batch (Took line room bytes ∷ calls) = omega arith
apart_in_batch (Gave line piece went ∷ calls) = omega arith
apart_in_batch (Shut line ∷ calls) = omega arith
apart_in_batch (OnFile file c ∷ calls) = omega arith
apart_in_batch (Told t ∷ calls) = omega (arith, apart_in_batch calls)
apart_in_batch (Drew purpose bytes ∷ calls) = apart_in_batch calls

pub no_batch : (p : Plan) (calls : List Call) → in_batch calls ≡ 0 → events p (before_open calls) ≡ events p calls
no_batch p [] h = refl
no_batch p (Text name room bytes ∷ calls) h = refl
no_batch p (Attached name done ∷ calls) h = refl
no_batch p (Listened address done ∷ calls) h = refl
no_batch p (Came next ∷ calls) h = refl
no_batch p (Took line room bytes ∷ calls) h = refl
no_batch p (Gave line piece went ∷ calls) h = refl
no_batch p (Shut line ∷ calls) h = refl
no_batch p (OnFile file c ∷ calls) h = refl
no_batch p (Told t ∷ calls) h = absurd (omega (arith, h))
no_batch p (Drew purpose bytes ∷ calls) h = no_batch p calls h
