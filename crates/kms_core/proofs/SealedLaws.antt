-- Steps that put sealed payloads, and answers that draw nothing.
use Rattle.std.proofs.Common.{◌≡◌, ℕ, ◌<◌, ◌≤◌, ◌+◌, ◌-◌, ◌^◌, min, true, List, [], Option, refl, sym, ap, subst, inl, inr}
use Rattle.std.specs.Prelude.{is_some, is_err, Bool, Result, Ok, Err, IfOk, IfErr, IsErrOf}
use Rattle.kms_world.specs.Effect.{after_effects}
use Rattle.kms_world.specs.State.{State}
use Rattle.kms_kept.specs.Rising.{IsRising}
use Rattle.kms_opened.specs.Opened.{OpensUnder}
use Rattle.kms_operations.specs.Plan.{CanPut, put_effects}
use Rattle.kms_operations.specs.declared.outcome.NewPayload.{NewPayload}
use Rattle.kms_host.specs.Faults.{Faults, HasCause}
use Rattle.kms_host.specs.declared.call.Call.{Call}
use Rattle.kms_host.specs.declared.call.Count.TheVariants as counts
use Rattle.kms_host.specs.declared.call.Failed.{Failed}
use Rattle.kms_record.specs.declared.key.WrappedKey.{WrappedKey}
use Rattle.kms_ring.specs.Ring.{IsUnwrapped}
use Rattle.kms_sealing.specs.Drawing.{Draws, drawn_calls}
use Rattle.kms_sealing.specs.ProjectKeys.{AreOf, Unwrapped}
use Rattle.std.specs.List.{AllZip}
use Rattle.kms_sealing.specs.Sealed.{Adds, IsSealedFor, rows_with}
use Rattle.kms_sealing.specs.declared.drawing.Drawn.{Drawn}
use Rattle.kms_sealing.specs.declared.sealing.NewKey.{NewKey}
use Rattle.kms_sealing.specs.declared.sealing.Sealed.{Sealed}
use Rattle.kms_core.specs.Asking.{AsksWith, HasDrawCause, IsMadeOf, IsSealedStep}
use Rattle.kms_core.specs.Steps.{Held, HasState, KeepsState, LeadsTo, Prepares}
use Rattle.kms_core.specs.declared.asked.AskFault.{AskFault}
use Rattle.kms_core.specs.declared.asked.AskFault.TheVariants.{NoDraw, NoMemory}
use Rattle.kms_core.specs.declared.asked.Asked.{Asked}
use Rattle.kms_core.specs.declared.asked.PreparedStep.{PreparedStep}
use Rattle.kms_core.proofs.PrepareLaws.{payload_leads, room_if_any}

pub sealed_prepares : (before after : Held) (new : NewPayload) (sealed : Sealed) (step : Option PreparedStep) → IsRising before.store.stored.kept.state → CanPut before.store.stored.kept new → KeepsState before after
    → Adds before.masters before.store.stored.kept new.project sealed.new → OpensUnder before.masters (rows_with sealed.new before.store.stored.kept.keys) new.project sealed.number sealed.token new.payload.bytes
    → (is_some sealed.new ≡ true → 0 < after.spare) → IsSealedStep after new sealed step
    → (s : State) → HasState before s → Prepares step after (after_effects (put_effects before.store.stored.kept.state.tag new) s)
sealed_prepares before after new sealed step rising can same adds opens room p s has =
    let result = after_effects (put_effects before.store.stored.kept.state.tag new) s in
    let key : (let made : PreparedStep = record { step = p.made.step; key = sealed.new } in made) ≡ p.made = ap (λ (k : Option NewKey). let made : PreparedStep = record { step = p.made.step; key = k } in made) (sym p.key) in
    subst (λ (o : Option PreparedStep). Prepares o after result) (sym p.is)
    (subst (λ (m : PreparedStep). LeadsTo m after result) key
    (payload_leads before after new sealed p.made.step rising can.id can.secret same adds opens p.changes p.range p.reserved (room_if_any sealed.new after.spare room) s has))

pub sealed_made : (before after : Held) (new : NewPayload) (moment : ℕ) (sealed : Sealed) (drawn : Drawn) (step : Option PreparedStep) → IsSealedFor before.masters before.store.stored.kept.keys new.project moment new.payload.bytes drawn sealed
    → IsSealedStep after new sealed step → IsMadeOf before moment step (drawn_calls drawn)
sealed_made before after new moment sealed drawn step is p =
    subst (λ (o : Option PreparedStep). IsMadeOf before moment o (drawn_calls drawn)) (sym p.is) (inr (
      drawn,
      record {
        project = new.project;
        plain = new.payload.bytes;
        sealed = sealed;
        is_sealed = is;
        new = new.secret;
        secret = new.id;
        updated = new.updated;
        media = new.payload.media;
        changes = p.changes;
        key = p.key;
      },
      refl,
    ))

-- an answer without a draw
pub asks_with_none : (engine : Held) (moment : ℕ) (result : Result Asked AskFault) → IfOk result (λ (a : Asked). (m : ℕ) → IsMadeOf engine m a.step []) → IfErr result (λ (fault : AskFault). fault ≡ NoMemory) → AsksWith engine moment result []
asks_with_none engine moment (Ok a) made err = made moment
asks_with_none engine moment (Err fault) made err = subst (λ (f : AskFault). AsksWith engine moment (Err f) []) (sym err) (inl refl)

-- project keys that are as before are those of the same wrapped keys
pub keys_same : (old new : Unwrapped) (rows : List WrappedKey) → new.masters ≡ old.masters → new.keys ≡ old.keys → AreOf old rows → AreOf new rows
keys_same old new rows masters keys are =
    subst (λ (ks : List (List ℕ)). AllZip (λ (row : WrappedKey) (key : List ℕ). IsUnwrapped new.masters row.wrapped key) rows ks) (sym keys)
    (subst (λ (m : List (List ℕ)). AllZip (λ (row : WrappedKey) (key : List ℕ). IsUnwrapped m row.wrapped key) rows old.keys) (sym masters) are)

-- an answer after a draw
pub asks_with_drawn : (engine : Held) (moment : ℕ) (needed : Bool) (drawn : Drawn) (calls : List Call) (result : Result Asked AskFault) → Draws needed (Ok drawn) calls → IfOk result (λ (a : Asked). IsMadeOf engine moment a.step (drawn_calls drawn))
    → IfErr result (λ (fault : AskFault). fault ≡ NoMemory) → AsksWith engine moment result calls
asks_with_drawn engine moment needed drawn calls (Ok a) is made err = subst (λ (c : List Call). IsMadeOf engine moment a.step c) (sym is) made
asks_with_drawn engine moment needed drawn calls (Err fault) is made err = subst (λ (f : AskFault). AsksWith engine moment (Err f) calls) (sym err) (inr (drawn, is))

pub draw_cause : (before now : Faults) (drawn : Result Drawn Failed) (result : Result Asked AskFault) → HasCause counts.Draw before now drawn → (IsErrOf result NoDraw → is_err drawn ≡ true) → HasDrawCause before now result
draw_cause before now drawn result cause fails = record { later = cause.later; failed = λ e. by drawn cause (fails e) }
  where
    by : (d : Result Drawn Failed) → HasCause counts.Draw before now d → is_err d ≡ true → min (before.draw + 1) (2 ^ 64 - 1) ≤ now.draw
    by (Ok x) c is = absurd cc
    by (Err x) c is = c.failed
