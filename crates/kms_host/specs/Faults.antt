-- How often calls of the outside failed, and what a fault that is answered owes.
use Rattle.std.specs.Prelude.{ℕ, ◌+◌, ◌-◌, ◌^◌, ◌≤◌, min, Result, OnErr, IsErrOf}
use Rattle.kms_host.specs.declared.call.Count.{Count}
use Rattle.kms_host.specs.declared.call.NameFault.{NameFault}
use Rattle.kms_host.specs.declared.call.NameFault.TheVariants.{Failed}
use Rattle.kms_host.specs.declared.call.Count.TheVariants.{KeyFile, Store, Link, Draw, Listen}

-- how many calls of each kind failed
pub record Faults : Type 0 where
  pub key_file : ℕ
  pub store : ℕ
  pub link : ℕ
  pub draw : ℕ
  pub listen : ℕ

abbrev pub count_of : Count → Faults → ℕ
count_of KeyFile f = f.key_file
count_of Store f = f.store
count_of Link f = f.link
count_of Draw f = f.draw
count_of Listen f = f.listen

-- A count rose by one at least. One that stands at the last value of 64 bits can't rise, and counts as risen.
abbrev pub Rose : ℕ → ℕ → Type 0
Rose before now = min (before + 1) (2 ^ 64 - 1) ≤ now

-- no count falls
pub record NeverFalls (before now : Faults) : Type 0 where
  pub key_file : before.key_file ≤ now.key_file
  pub store : before.store ≤ now.store
  pub link : before.link ≤ now.link
  pub draw : before.draw ≤ now.draw
  pub listen : before.listen ≤ now.listen

-- No count falls, and an error is answered only where this one rose.
pub record HasCause {T E : Type 0} (count : Count) (before now : Faults) (result : Result T E) : Type 0 where
  pub later : NeverFalls before now
  pub failed : OnErr result (Rose (count_of count before) (count_of count now))

-- The same of a call that names something: being out of memory needs no cause.
pub record HasNameCause {T : Type 0} (count : Count) (before now : Faults) (result : Result T NameFault) : Type 0 where
  pub later : NeverFalls before now
  pub failed : IsErrOf result Failed → Rose (count_of count before) (count_of count now)

abbrev pub no_faults : Faults
no_faults = record { key_file = 0; store = 0; link = 0; draw = 0; listen = 0 }
