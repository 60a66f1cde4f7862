-- What the files of a store stand for: a state of the key manager.
use Rattle.std.specs.Prelude.{ℕ, List}
use Rattle.kms_world.specs.State.{State}
use Rattle.kms_kept.specs.Kept.{Kept}
use Rattle.kms_opened.specs.Opened.{Opened}
use Rattle.kms_store.specs.Stands.{StandFor}

-- The two files of a store keep what opens to this state under the master keys, after so many steps.
pub record Stands (masters : List (List ℕ)) (two : List ℕ × List ℕ) (state : State) (steps : ℕ) : Type 0 where
  pub kept : Kept
  pub keeps : StandFor two kept steps
  pub opens : Opened masters kept state
