-- What was read at the front of a stream doesn't depend on the bytes that come later.
use Rattle.std.specs.Prelude.{◌≡◌, List, ℕ, ◌++◌}
use Rattle.kms_http.specs.Messages.{front}
use Rattle.kms_http.specs.declared.message.Message.{Message}
use Rattle.kms_http.specs.Messages.Front.{Whole, Bad}
use Rattle.kms_world.specs.declared.refusal.Refusal.{Refusal}

-- a whole message stays that message, and what comes stands after the rest
abbrev pub KeepsMessages : Type 0
KeepsMessages =
    (bytes more : List ℕ) (message : Message) (rest : List ℕ) → front bytes ≡ Whole message rest → front (bytes ++ more) ≡ Whole message (rest ++ more)

-- what is no message stays none, with the same refusal
abbrev pub KeepsRefusals : Type 0
KeepsRefusals =
    (bytes more : List ℕ) (refusal : Refusal) → front bytes ≡ Bad refusal → front (bytes ++ more) ≡ Bad refusal
