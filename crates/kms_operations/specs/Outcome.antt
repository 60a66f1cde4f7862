-- What operations come to over what is kept.
use Rattle.std.specs.Prelude.{◌≡◌, ℕ, Bool, true, false, List, [], Option, Some, None, Result, Ok, Err, IfSome, option_to_list}
use Rattle.kms_kept.specs.Kept.{Kept, Records, applies}
use Rattle.kms_model.specs.Done.{Done}
use Rattle.kms_record.specs.ChangeEffect.{effect_of}
use Rattle.kms_record.specs.Grammar.{IsChangeInRange}
use Rattle.kms_record.specs.declared.change.Change.{Change}
use Rattle.kms_record.specs.declared.change.Change.TheVariants.{KeyAdded, KeyRewrapped, TokenReplaced, KeyDropped, PayloadPut}
use Rattle.kms_world.specs.Effect.{Effect}
use Rattle.kms_world.specs.Times.{HasTimes}
use Rattle.kms_world.specs.declared.refusal.CheckFault.{CheckFault}
use Rattle.kms_world.specs.declared.refusal.CheckFault.TheVariants.{Refused, NoMemory}
use Rattle.kms_world.specs.declared.refusal.Refusal.{Refusal}
use Rattle.kms_operations.specs.declared.outcome.Outcome.{Outcome}

-- what a change does to the state under a store's tag
abbrev pub effects_of : (tag : ℕ) → Option Change → List Effect
effects_of tag None = []
effects_of tag (Some change) = option_to_list (effect_of tag change)

abbrev pub done_of : (tag : ℕ) → Outcome → Done
done_of tag outcome = record { answer = outcome.answer; effects = effects_of tag outcome.change }

-- what the plain key manager does comes to this outcome under a store's tag, or it is refused so, or there is no memory
abbrev pub Comes : (tag : ℕ) → Result Outcome CheckFault → Result Done Refusal → Type 0
Comes tag (Ok outcome) done = done ≡ Ok (done_of tag outcome)
Comes tag (Err (Refused refusal)) done = done ≡ Err refusal
Comes tag (Err NoMemory) done = Unit {0}

-- it changes rows, and puts no key and no token
abbrev pub is_of_rows : Change → Bool
is_of_rows (KeyAdded key) = false
is_of_rows (KeyRewrapped key) = false
is_of_rows (TokenReplaced put) = false
is_of_rows (KeyDropped key) = false
is_of_rows (PayloadPut put) = false
is_of_rows change = true

-- The change of rows applies to what is kept, and can be recorded.
pub record Fits (kept : Kept) (change : Change) : Type 0 where
  pub range : IsChangeInRange change
  pub rows : is_of_rows change ≡ true
  pub applies : applies Records change kept ≡ true

-- The answer's times have texts, and its change can be made.
pub record IsPossible (kept : Kept) (outcome : Outcome) : Type 0 where
  pub times : HasTimes outcome.answer
  pub change : IfSome outcome.change (Fits kept)
