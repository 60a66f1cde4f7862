-- The store stays named, whatever is done to its files, and may be named again.
use Rattle.std.proofs.Common.{◌≡◌, ℕ, List, [], ◌∷◌, ◌++◌, false, refl, sym, subst, arith}
use Rattle.std.specs.Prelude.{Result, Ok, Err}
use Rattle.kms_host.specs.History.{History, then_call}
use Rattle.kms_host.specs.Store.{IsAttached, OnlyAttached, is_attached}
use Rattle.kms_host.specs.declared.call.Call.{Call}
use Rattle.kms_host.specs.declared.call.Call.TheVariants.{Text, Listened, Came, Attached, Took, Gave, Shut, OnFile, Told, Drew}
use Rattle.kms_host.specs.declared.call.FileCall.{FileCall}
use Rattle.kms_host.specs.declared.call.NameFault.{NameFault}

pub attached_by : (name : List ℕ) (was now : History) → now ≡ then_call was (Attached name (Ok tt)) → IsAttached now
attached_by name was now same = subst IsAttached (sym same) (record { done = refl })

pub attached_on : (file : ℕ) (c : FileCall) (was now : History) → IsAttached was → now ≡ then_call was (OnFile file c) → IsAttached now
attached_on file c was now is same = subst IsAttached (sym same) (record { done = is.done })

-- where nothing is attached, each store may be
pub only_attached-none : (store : List ℕ) (calls : List Call) → is_attached calls ≡ false → OnlyAttached store calls
only_attached-none store [] none = tt
only_attached-none store (Text name room bytes ∷ calls) none = only_attached-none store calls none
only_attached-none store (Listened address done ∷ calls) none = only_attached-none store calls none
only_attached-none store (Came line ∷ calls) none = only_attached-none store calls none
only_attached-none store (Attached name (Ok done) ∷ calls) none = absurd (grind (arith, none))
only_attached-none store (Attached name (Err fault) ∷ calls) none = only_attached-none store calls none
only_attached-none store (Took l room bytes ∷ calls) none = only_attached-none store calls none
only_attached-none store (Gave l piece went ∷ calls) none = only_attached-none store calls none
only_attached-none store (Shut l ∷ calls) none = only_attached-none store calls none
only_attached-none store (OnFile file c ∷ calls) none = only_attached-none store calls none
only_attached-none store (Told t ∷ calls) none = only_attached-none store calls none
only_attached-none store (Drew purpose bytes ∷ calls) none = only_attached-none store calls none

-- the same store, named once more
pub only_attached-again : (store : List ℕ) (done : Result (Unit {0}) NameFault) (calls : List Call) → OnlyAttached store calls → OnlyAttached store (Attached store done ∷ calls)
only_attached-again store (Ok done) calls only = (refl, only)
only_attached-again store (Err fault) calls only = only

pub only_attached-append : (store : List ℕ) (late early : List Call) → OnlyAttached store late → OnlyAttached store early → OnlyAttached store (late ++ early)
only_attached-append store [] early after before = before
only_attached-append store (Text name room bytes ∷ late) early after before = only_attached-append store late early after before
only_attached-append store (Listened address done ∷ late) early after before = only_attached-append store late early after before
only_attached-append store (Came line ∷ late) early after before = only_attached-append store late early after before
only_attached-append store (Attached name (Ok done) ∷ late) early after before = (after.0, only_attached-append store late early after.1 before)
only_attached-append store (Attached name (Err fault) ∷ late) early after before = only_attached-append store late early after before
only_attached-append store (Took l room bytes ∷ late) early after before = only_attached-append store late early after before
only_attached-append store (Gave l piece went ∷ late) early after before = only_attached-append store late early after before
only_attached-append store (Shut l ∷ late) early after before = only_attached-append store late early after before
only_attached-append store (OnFile file c ∷ late) early after before = only_attached-append store late early after before
only_attached-append store (Told t ∷ late) early after before = only_attached-append store late early after before
only_attached-append store (Drew purpose bytes ∷ late) early after before = only_attached-append store late early after before
