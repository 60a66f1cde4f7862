-- Steps, and what preparing one promises.
use Rattle.std.specs.Prelude.{◌≡◌, ℕ, ◌+◌, ◌<◌, ◌^◌, List, [], length, Option, Some, None, IfSome, false}
use Rattle.kms_world.specs.State.{State}
use Rattle.kms_host.specs.History.{History}
use Rattle.kms_record.specs.Grammar.{step_bytes}
use Rattle.kms_record.specs.declared.key.WrappedKey.{WrappedKey}
use Rattle.kms_ring.specs.Ring.{IsUnwrapped}
use Rattle.kms_kept.specs.Kept.{Kept, Records}
use Rattle.kms_opened.specs.Opened.{Opened}
use Rattle.kms_opened.specs.Steps.{LeadTo}
use Rattle.kms_sealing.specs.Sealed.{rows_with}
use Rattle.kms_sealing.specs.declared.sealing.NewKey.{NewKey}
use Rattle.kms_store.specs.Checkpoint.{IsCountOf}
use Rattle.kms_store.specs.Staged.{StagingLeads}
use Rattle.kms_store.specs.Store.{IsReserved}
use Rattle.kms_core.specs.Settling.{Keeping, IsOpened, count_of}
use Rattle.kms_core.specs.declared.asked.PreparedStep.{PreparedStep}

-- what contracts see of an engine: the master keys, for how many project keys more there is memory, and its store
pub record Held : Type 0 where
  pub masters : List (List ℕ)
  pub spare : ℕ
  pub store : Keeping

-- What the engine keeps opens to this state under its master keys.
abbrev pub HasState : Held → State → Type 0
HasState engine state = Opened engine.masters engine.store.stored.kept state

-- The master keys and what is kept are as before, and so is the state.
pub record KeepsState (old new : Held) : Type 0 where
  pub masters : new.masters ≡ old.masters
  pub kept : new.store.stored.kept ≡ old.store.stored.kept

-- The project's new key, if it gets one, is the one by which these wrapped keys are more than those of the engine: it opens to
-- its bytes, and there is memory for it.
pub record BringsKey (engine : Held) (new : Option NewKey) (keys : List WrappedKey) : Type 0 where
  pub keys_are : keys ≡ rows_with new engine.store.stored.kept.keys
  pub opens : IfSome new (λ key. IsUnwrapped engine.masters key.wrapped key.key)
  pub room : IfSome new (λ key. 0 < engine.spare)

-- Taking the step over can't fail, and leads to what opens to this state.
pub record LeadsTo (step : PreparedStep) (engine : Held) (after : State) : Type 0 where
  pub reserved : IsReserved engine.store.stored step.step
  pub short : length (step_bytes step.step.changes) < 2 ^ 16
  pub leads : LeadTo engine.masters Records step.step.changes engine.store.stored.kept after
  pub key : BringsKey engine step.key leads.after.keys

abbrev pub Prepares : Option PreparedStep → Held → State → Type 0
Prepares None engine after = HasState engine after
Prepares (Some step) engine after = LeadsTo step engine after

-- The journal, what is kept, the staged steps and the number of steps are as before.
pub record KeepsTheSame (old new : Keeping) : Type 0 where
  pub journal : new.journal ≡ old.journal
  pub kept : new.stored.kept ≡ old.stored.kept
  pub count : count_of new ≡ count_of old
  pub steps : new.stored.staging.steps ≡ old.stored.staging.steps
  pub total : new.stored.steps ≡ old.stored.steps

-- So many more steps are staged and counted, and they lead from what one engine keeps to what the other does, under the same
-- master keys.
pub record Waits (before after : Held) (steps : ℕ) : Type 0 where
  pub masters : after.masters ≡ before.masters
  pub journal : after.store.journal ≡ before.store.journal
  pub count : count_of after.store ≡ count_of before.store + steps
  pub total : (n : ℕ) → IsCountOf before.store.stored.steps n → IsCountOf after.store.stored.steps (n + steps)
  pub leads : (settled : Kept) → StagingLeads before.store.stored.staging settled before.store.stored.kept
      → StagingLeads after.store.stored.staging settled after.store.stored.kept

-- no step is staged
pub record IsIdle (engine : Held) : Type 0 where
  pub count : count_of engine.store ≡ 0
  pub steps : engine.store.stored.staging.steps ≡ []

-- no call of the store has failed in one of the engine's calls
abbrev pub IsWorking : Held → Type 0
IsWorking engine = engine.store.journal.failed ≡ false

-- Under the master keys the engine's store stands for this state after so many steps, and no step is staged.
pub record IsSettled (masters : List (List ℕ)) (engine : Held) (steps : ℕ) (state : State) (h : History) : Type 0 where
  pub idle : IsIdle engine
  pub opened : IsOpened masters engine.store h state steps state
