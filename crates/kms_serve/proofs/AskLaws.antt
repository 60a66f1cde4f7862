-- What the engine drew to answer a request.
use Rattle.std.proofs.Common.{Bool, Err, List, None, Ok, Option, Result, Some, [], ap, arith, false, inl, inr, refl, subst, sym, true, ℕ, ◌<◌, ◌∷◌, ◌≡◌}
use Rattle.std.proofs.lemmas.Bool.{false≢true}
use Rattle.kms_core.specs.Asking.{AsksWith, DrawsToAsk, FailsToDraw}
use Rattle.kms_sealing.specs.Drawing.{AreSealingDraws}
use Rattle.kms_core.specs.Steps.{HasState, Held, Prepares}
use Rattle.kms_core.specs.declared.asked.AskFault.{AskFault}
use Rattle.kms_core.specs.declared.asked.AskFault.TheVariants as faults
use Rattle.kms_core.specs.declared.asked.Asked.{Asked}
use Rattle.kms_core.specs.declared.asked.PreparedStep.{PreparedStep}
use Rattle.kms_host.specs.Random.{drawn, failed_draws}
use Rattle.kms_host.specs.declared.call.Call.{Call}
use Rattle.kms_host.specs.declared.call.Call.TheVariants.{Attached, Came, Drew, Gave, Listened, OnFile, Shut, Text, Told, Took}
use Rattle.kms_host.specs.declared.call.Purpose.TheVariants.{Iv, OrderKey, ProjectKey, Tag}
use Rattle.kms_json.specs.Answer.{HasForm}
use Rattle.kms_model.specs.Ask.{puts_payload}
use Rattle.kms_model.specs.Requests.{asked_puts}
use Rattle.std.specs.Prelude.{IfOk, IsErrAnd}
use Rattle.kms_world.specs.State.{State}
use Rattle.kms_world.specs.declared.answer.Answer.{Answer}
use Rattle.kms_world.specs.declared.caller.Caller.{Caller}
use Rattle.kms_world.specs.declared.operation.Op.{Op}
use Rattle.kms_world.specs.declared.operation.Request.{Request}
use Rattle.kms_serve.specs.Owed.{DrawsFor, MayTakeOver, OnlyDraws, is_undrawn}

only_draws : (calls : List Call) → AreSealingDraws calls → OnlyDraws calls
only_draws [] only = tt
only_draws (Text name room bytes ∷ calls) only = absurd only
only_draws (Listened address done ∷ calls) only = absurd only
only_draws (Came next ∷ calls) only = absurd only
only_draws (Attached name done ∷ calls) only = absurd only
only_draws (Took line room bytes ∷ calls) only = absurd only
only_draws (Gave line piece went ∷ calls) only = absurd only
only_draws (Shut line ∷ calls) only = absurd only
only_draws (OnFile file c ∷ calls) only = absurd only
only_draws (Told t ∷ calls) only = absurd only
only_draws (Drew Tag bytes ∷ calls) only = absurd only
only_draws (Drew Iv None ∷ calls) only = (tt, only_draws calls only)
only_draws (Drew Iv (Some bytes) ∷ calls) only = (only.0, only_draws calls only.1)
only_draws (Drew ProjectKey None ∷ calls) only = (tt, only_draws calls only)
only_draws (Drew ProjectKey (Some bytes) ∷ calls) only = (only.0, only_draws calls only.1)
only_draws (Drew OrderKey bytes ∷ calls) only = absurd only

no_order_key : (calls : List Call) → AreSealingDraws calls → drawn OrderKey calls ≡ []
no_order_key [] only = refl
no_order_key (Text name room bytes ∷ calls) only = absurd only
no_order_key (Listened address done ∷ calls) only = absurd only
no_order_key (Came next ∷ calls) only = absurd only
no_order_key (Attached name done ∷ calls) only = absurd only
no_order_key (Took line room bytes ∷ calls) only = absurd only
no_order_key (Gave line piece went ∷ calls) only = absurd only
no_order_key (Shut line ∷ calls) only = absurd only
no_order_key (OnFile file c ∷ calls) only = absurd only
no_order_key (Told t ∷ calls) only = absurd only
no_order_key (Drew Tag bytes ∷ calls) only = absurd only
no_order_key (Drew Iv None ∷ calls) only = no_order_key calls only
no_order_key (Drew Iv (Some bytes) ∷ calls) only = no_order_key calls only.1
no_order_key (Drew ProjectKey None ∷ calls) only = no_order_key calls only
no_order_key (Drew ProjectKey (Some bytes) ∷ calls) only = no_order_key calls only.1
no_order_key (Drew OrderKey bytes ∷ calls) only = absurd only

-- the newest draw failed
one_failed : (calls : List Call) → FailsToDraw calls → 0 < failed_draws calls
one_failed calls (needed, failed, inl (is, inl alone)) = rw alone (omega arith)
one_failed calls (needed, failed, inl (is, inr (key, two))) = rw two (omega arith)
one_failed calls (needed, failed, inr (key, is, two)) = rw two (omega arith)

failing : (engine : Held) (moment : ℕ) (result : Result Asked AskFault) (calls : List Call) → AsksWith engine moment result calls → is_undrawn result ≡ true → 0 < failed_draws calls
failing engine moment (Ok asked) calls h undrawn = absurd (false≢true undrawn)
failing engine moment (Err faults.NoDraw) calls h undrawn = one_failed calls h
failing engine moment (Err faults.NoMemory) calls h undrawn = absurd (false≢true undrawn)

pub draws_for : (engine : Held) (caller : Caller) (op : Op) (moment : ℕ) (result : Result Asked AskFault) (calls : List Call) → DrawsToAsk engine caller op moment result calls
    → (s : State) → HasState engine s → DrawsFor (puts_payload s caller op moment) (is_undrawn result) calls
draws_for engine caller op moment result calls k s has = record {
  only = only_draws calls k.sizes;
  needed = elim k.needed [
    | inl none ↦ inl none
    | inr puts ↦ inr (puts s has)
  ];
  keyless = no_order_key calls k.sizes;
  failing = failing engine moment result calls k.made;
}

-- nothing was drawn
pub draws_none : (needs : Bool) → DrawsFor needs false []
draws_none needs = record { only = tt; needed = inl refl; keyless = refl; failing = λ undrawn. absurd (false≢true undrawn) }

-- where there is an answer after all, or none for want of memory
pub draws_more : (needs failed : Bool) (calls : List Call) → DrawsFor needs failed calls → DrawsFor needs false calls
draws_more needs failed calls d = record { only = d.only; needed = d.needed; keyless = d.keyless; failing = λ undrawn. absurd (false≢true undrawn) }

-- what was prepared can be taken over
pub may_take : (step : Option PreparedStep) (engine : Held) (after : State) → Prepares step engine after → MayTakeOver step engine
may_take None engine after h = tt
may_take (Some step) engine after h = (after, h)

pub take_over_by : (engine new : Held) (result : Result Asked AskFault) (state : State → State) → (s : State) × HasState engine s
    → IfOk result (λ a. (s : State) → HasState engine s → Prepares a.step new (state s)) → IfOk result (λ a. MayTakeOver a.step new)
take_over_by engine new (Ok a) state (s, has) step = may_take a.step new (state s) (step s has)
take_over_by engine new (Err fault) state opens step = tt

pub form_by : (engine : Held) (result : Result Asked AskFault) (answer : State → Answer) → ((s : State) → HasForm (answer s)) → (s : State) × HasState engine s
    → IfOk result (λ a. (s : State) → HasState engine s → a.answer ≡ answer s) → IfOk result (λ a. HasForm a.answer)
form_by engine (Ok a) answer formed (s, has) is = subst HasForm (sym (is s has)) (formed s)
form_by engine (Err fault) answer formed opens is = tt

-- a fault for want of memory is none for want of random bytes
pub not_undrawn : {T : Type 0} (result : Result T AskFault) → IsErrAnd result (λ (fault : AskFault). fault ≡ faults.NoMemory) → is_undrawn result ≡ false
not_undrawn (Ok x) h = refl
not_undrawn {T} (Err fault) h = ap (λ (f : AskFault). let r : Result T AskFault = Err f in is_undrawn r) h

pub draws_same : (s : State) (a b : Request) (moment : ℕ) (failed : Bool) (calls : List Call) → a ≡ b → failed ≡ false → DrawsFor (asked_puts s a moment) false calls → DrawsFor (asked_puts s b moment) failed calls
draws_same s a b moment failed calls same none d =
    subst (λ (z : Bool). DrawsFor (asked_puts s b moment) z calls) (sym none) (subst (λ (r : Request). DrawsFor (asked_puts s r moment) false calls) same d)

-- the same of a fault
abbrev pub undrawn_by : AskFault → Bool
undrawn_by faults.NoDraw = true
undrawn_by faults.NoMemory = false
