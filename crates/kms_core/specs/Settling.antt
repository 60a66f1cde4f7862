-- What settling does to a store, at each moment.
use Rattle.std.specs.Prelude.{◌≡◌, ◌⊎◌, ℕ, ◌+◌, ◌*◌, ◌≤◌, List, Result, OnOk, true, None}
use Rattle.kms_world.specs.State.{State}
use Rattle.kms_host.specs.Disk.{IsImage}
use Rattle.kms_host.specs.History.{History}
use Rattle.kms_host.specs.Moment.{Throughout}
use Rattle.kms_host.specs.Store.{others, syncs}
use Rattle.kms_journal.specs.Cuts.{cuts}
use Rattle.kms_journal.specs.Device.{IsQuietStore}
use Rattle.kms_journal.specs.Position.{Position}
use Rattle.kms_journal.specs.Raised.{IsRaised}
use Rattle.kms_kept.specs.Kept.{Kept}
use Rattle.kms_opened.specs.Opened.{Opened}
use Rattle.kms_store.specs.Settling.{IsOpened as IsStoreOpened, settle_syncs}
use Rattle.kms_store.specs.Stands.{StandFor}
use Rattle.kms_store.specs.Store.{Stored}
use Rattle.kms_core.specs.Stands.{Stands}

-- what contracts see of an opened store: where its journal stands, what is kept, and the steps that wait to be settled
pub record Keeping : Type 0 where
  pub journal : Position
  pub stored : Stored

-- how many steps wait
abbrev pub count_of : Keeping → ℕ
count_of k = k.stored.staging.count

-- with a journal that has failed, and whose last commit mark stands here
abbrev pub with_failed : (end : ℕ) → Keeping → Keeping
with_failed end k = record { journal = record k.journal { end = end; failed = true; chain = None }; stored = k.stored }

-- How many syncs settling takes at most: two, or five where the records take more than 4,194,304 bytes with the one that is
-- added.
abbrev pub most_syncs : Keeping → ℕ
most_syncs k = settle_syncs 4194304 k.journal k.stored.staging

-- Under the master keys the store stands for the state that was settled, after so many steps, and what is kept with the steps
-- that wait opens to this one.
pub record IsOpened (masters : List (List ℕ)) (k : Keeping) (h : History) (before : State) (steps : ℕ) (state : State) : Type 0 where
  pub settled : Kept
  pub opened : IsStoreOpened k.stored k.journal h settled steps
  pub first : Opened masters settled before
  pub now : Opened masters k.stored.kept state

-- Each crash image stands for the state that was settled, or for the one with all steps that wait, which are so many, and its
-- generation is above this one by the cuts. Nothing was called but on files, and there were two syncs at most, and three for
-- each cut.
pub record IsSettledOrAll (masters : List (List ℕ)) (settled : State) (steps : ℕ) (state : State) (waiting generation : ℕ) (was h : History) : Type 0 where
  pub images : IsQuietStore was → (image : List ℕ × List ℕ) → IsImage h image → Stands masters image settled steps ⊎ Stands masters image state (steps + waiting)
  pub raised : IsQuietStore was → (image : List ℕ × List ℕ) → IsImage h image → IsRaised generation was h image
  pub others : others h ≡ others was
  pub paid : syncs h.calls + 3 * cuts was.calls ≤ syncs was.calls + 2 + 3 * cuts h.calls

-- From an Ok on it is the state with all steps, and each cut began a generation.
pub record Settles {T E : Type 0} (masters : List (List ℕ)) (old new : Keeping) (result : Result T E) (settled : State) (steps : ℕ) (state : State) (was now : History) : Type 0 where
  pub throughout : Throughout (IsSettledOrAll masters settled steps state (count_of old) old.journal.generation was) was now
  pub few : syncs now.calls ≤ syncs was.calls + most_syncs old
  pub done : OnOk result (IsOpened masters new now state (steps + count_of old) state)
  pub raised : OnOk result (new.journal.generation + cuts was.calls ≡ old.journal.generation + cuts now.calls)
  pub quiet : OnOk result (IsQuietStore was → IsQuietStore now)

-- Each crash image keeps what was settled, with its keys and tokens, or what is kept with all steps that wait.
abbrev pub KeepsOrAll : (settled : Kept) → (steps : ℕ) → (all : Kept) → (waiting : ℕ) → History → History → Type 0
KeepsOrAll settled steps all waiting was h =
    IsQuietStore was → (image : List ℕ × List ℕ) → IsImage h image → StandFor image settled steps ⊎ StandFor image all (steps + waiting)
