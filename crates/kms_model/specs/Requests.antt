-- What comes of a request at a time: an operation of a caller, or what was refused before one was known.
use Rattle.std.specs.Prelude.{ℕ, Bool, false}
use Rattle.kms_world.specs.State.{State}
use Rattle.kms_world.specs.declared.answer.Answer.{Answer}
use Rattle.kms_world.specs.declared.answer.Answer.TheVariants.{Refused}
use Rattle.kms_world.specs.declared.operation.Request.{Request}
use Rattle.kms_world.specs.declared.operation.Request.TheVariants.{Asking, Refusing}
use Rattle.kms_model.specs.Ask.{answer_to, puts_payload, state_after, stores}

abbrev pub asked_answer : State → Request → ℕ → Answer
asked_answer s (Asking caller op) t = answer_to s caller op t
asked_answer s (Refusing refusal) t = Refused refusal

abbrev pub asked_state : State → Request → ℕ → State
asked_state s (Asking caller op) t = state_after s caller op t
asked_state s (Refusing refusal) t = s

-- it is an operation that is accepted and writes
abbrev pub asked_stores : State → Request → ℕ → Bool
asked_stores s (Asking caller op) t = stores s caller op t
asked_stores s (Refusing refusal) t = false

-- it is an operation that is accepted, and puts a payload
abbrev pub asked_puts : State → Request → ℕ → Bool
asked_puts s (Asking caller op) t = puts_payload s caller op t
asked_puts s (Refusing refusal) t = false
