-- What a run begins with.
use Rattle.std.specs.Prelude.{◌≡◌, ◌⊎◌, ℕ, ◌+◌, List, [], ◌∷◌, take, Some}
use Rattle.kms_host.specs.Disk.{files}
use Rattle.kms_host.specs.History.{History}
use Rattle.kms_host.specs.KeyFiles.{named}
use Rattle.kms_host.specs.Moment.{then_calls}
use Rattle.kms_host.specs.declared.call.Call.{Call}
use Rattle.kms_world.specs.State.{State}
use Rattle.kms_record.specs.declared.key.WrappedKey.{WrappedKey}
use Rattle.kms_kept.specs.Kept.{Kept}
use Rattle.kms_opened.specs.Opened.{Opened}
use Rattle.kms_ring.specs.KeyFile.{IsKeyFile}
use Rattle.kms_ring.specs.Ring.{IsUnderFirst}
use Rattle.kms_store.specs.Stands.{StandFor}
use Rattle.kms_core.specs.Stands.{Stands}
use Rattle.kms_model.specs.Course.{Course, course_from}
use Rattle.kms_serve.specs.Plan.{Plan}

pub record RunStart : Type 0 where
  pub plan : Plan
  -- what was told when the run began
  pub was : History
  -- the master keys
  pub masters : List (List ℕ)
  -- what the store kept then
  pub kept : Kept
  -- the state to which that opens, with all workers free, and after how many steps the store stood for it
  pub first : Course
  pub steps : ℕ

-- what is told after these calls of the run
abbrev pub history : RunStart → List Call → History
history start calls = then_calls start.was calls

-- the first 1,024 bytes of the key file of this name are the texts of these keys
pub record HasKeys (was : History) (name : List ℕ) (masters : List (List ℕ)) : Type 0 where
  pub file : List ℕ
  pub there : named name was.key_files ≡ Some file
  pub good : IsKeyFile (take 1024 file) masters

-- The master keys of a run are those of the first of its key files.
abbrev pub HaveMasters : History → (names : List (List ℕ)) → (masters : List (List ℕ)) → Type 0
HaveMasters was [] masters = ⊥
HaveMasters was (name ∷ names) masters = HasKeys was name masters

-- so many of the project keys don't open under the first master key
abbrev pub OldKeys : (masters : List (List ℕ)) → List WrappedKey → ℕ → Type 0
OldKeys masters [] n = n ≡ 0
OldKeys masters (row ∷ rows) n =
    (IsUnderFirst masters row.wrapped × OldKeys masters rows n)
    ⊎ ((IsUnderFirst masters row.wrapped → ⊥) × ((m : ℕ) × (n ≡ m + 1) × OldKeys masters rows m))

-- What a key file and a store say: the master keys; what is kept; the state to which it opens under them; after how many steps;
-- and how many project keys don't open under the first master key.
pub record Found : Type 0 where
  pub masters : List (List ℕ)
  pub kept : Kept
  pub state : State
  pub steps : ℕ
  pub old_keys : ℕ

-- the key file and the store say so
pub record IsFound (p : Plan) (was : History) (found : Found) : Type 0 where
  pub keys : HaveMasters was p.keys found.masters
  pub keeps : StandFor (files was) found.kept found.steps
  pub opens : Opened found.masters found.kept found.state
  pub old : OldKeys found.masters found.kept.keys found.old_keys

abbrev pub run_start : Plan → History → Found → RunStart
run_start p was found = record {
  plan = p;
  was = was;
  masters = found.masters;
  kept = found.kept;
  first = course_from found.state p.workers found.old_keys;
  steps = found.steps;
}

-- P holds of what a run begins with, where its key file is good and the store stands for a state under the master keys
abbrev pub FromStore : Plan → History → (RunStart → Type 0) → Type 0
FromStore p was P = (found : Found) → IsFound p was found → P (run_start p was found)

-- The key file is none, or the store stands for no state under its keys.
abbrev pub HasNoStart : Plan → History → Type 0
HasNoStart p was = (masters : List (List ℕ)) (state : State) (steps : ℕ) → HaveMasters was p.keys masters → Stands masters (files was) state steps → ⊥
