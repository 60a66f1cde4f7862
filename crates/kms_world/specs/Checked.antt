-- What a check of a body answers: the checked body, or the refusal of the first rule that the body breaks.
use Rattle.std.specs.Prelude.{◌≡◌, Result, Ok, Err}
use Rattle.kms_world.specs.declared.refusal.CheckFault.{CheckFault}
use Rattle.kms_world.specs.declared.refusal.CheckFault.TheVariants.{Refused, NoMemory}
use Rattle.kms_world.specs.declared.refusal.Refusal.{Refusal}

-- the answer of a check that takes no memory
abbrev pub checked : {A : Type 0} → Result A Refusal → Result A CheckFault
checked (Ok x) = Ok x
checked (Err refusal) = Err (Refused refusal)

-- the answer is this one, or out of memory
abbrev pub IsUnlessNoMemory : {A : Type 0} → Result A CheckFault → Result A Refusal → Type 0
IsUnlessNoMemory (Ok x) answer = answer ≡ Ok x
IsUnlessNoMemory (Err (Refused refusal)) answer = answer ≡ Err refusal
IsUnlessNoMemory (Err NoMemory) answer = Unit {0}
