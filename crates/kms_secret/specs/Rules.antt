-- The rules of a body stand in a row: each gives what it is to give, or refuses. The first that refuses is the refusal.
use Rattle.std.specs.Prelude.{Bool, true, false, Option, Some, None, Result, Ok, Err}
use Rattle.kms_world.specs.declared.refusal.Refusal.{Refusal}

-- the next rule, with what this one gave
infixl 10 ◌>>=◌
abbrev pub ◌>>=◌ : {A B : Type 0} → Result A Refusal → (A → Result B Refusal) → Result B Refusal
Ok x >>= f = f x
Err refusal >>= f = Err refusal

-- it goes on only where this holds
abbrev pub only_if : Bool → Refusal → Result (Unit {0}) Refusal
only_if true refusal = Ok tt
only_if false refusal = Err refusal

-- it goes on only where there is one
abbrev pub there : {A : Type 0} → Option A → Refusal → Result A Refusal
there None refusal = Err refusal
there (Some x) refusal = Ok x
