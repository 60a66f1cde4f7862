-- What comes of an operation: its tests stand in a row, each of which refuses, or gives what the later ones need. The first
-- that refuses is the refusal. Where none does, there is an answer, and effects on the state.
use Rattle.std.specs.Prelude.{List, [], ◌∷◌, Bool, true, false, Option, Some, None, Result, Ok, Err}
use Rattle.kms_world.specs.Effect.{Effect}
use Rattle.kms_world.specs.declared.answer.Answer.{Answer}
use Rattle.kms_world.specs.declared.answer.Answer.TheVariants.{Refused}
use Rattle.kms_world.specs.declared.refusal.Refusal.{Refusal}
use Rattle.kms_world.specs.declared.refusal.Refusal.TheVariants.{NoObject}

pub record Done : Type 0 where
  pub answer : Answer
  pub effects : List Effect

-- the next test, with what this one gave
infixl 10 ◌>>=◌
abbrev pub ◌>>=◌ : {A B : Type 0} → Result A Refusal → (A → Result B Refusal) → Result B Refusal
Ok x >>= f = f x
Err refusal >>= f = Err refusal

-- it goes on only where this holds
abbrev pub only_if : Bool → Refusal → Result (Unit {0}) Refusal
only_if true refusal = Ok tt
only_if false refusal = Err refusal

-- it goes on only where there is one
abbrev pub there : {A : Type 0} → Option A → Result A Refusal
there None = Err NoObject
there (Some x) = Ok x

abbrev pub answer_by : Result Done Refusal → Answer
answer_by (Ok done) = done.answer
answer_by (Err refusal) = Refused refusal

-- a refused operation has no effects
abbrev pub effects_by : Result Done Refusal → List Effect
effects_by (Ok done) = done.effects
effects_by (Err refusal) = []

abbrev pub has_some : List Effect → Bool
has_some [] = false
has_some (effect ∷ effects) = true
