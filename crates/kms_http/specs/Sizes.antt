-- How many bytes messages have.
use Rattle.std.specs.Prelude.{◌≡◌, ℕ, ◌+◌, ◌<◌, ◌≤◌, List, length}
use Rattle.kms_http.specs.Messages.{front}
use Rattle.kms_http.specs.Messages.Front.{Whole, Part}
use Rattle.kms_http.specs.declared.message.Message.{Message}

-- a message has at most so many bytes: 16,384 of a head and 65,536 of a body
abbrev pub longest : ℕ
longest = 81920

-- a message has one byte at least, and at most `longest`
abbrev pub AreShort : Type 0
AreShort =
    (bytes : List ℕ) (message : Message) (rest : List ℕ) → front bytes ≡ Whole message rest
    → (length rest < length bytes) × (length bytes ≤ length rest + longest)

-- a part of a message has fewer bytes
abbrev pub ArePartsShort : Type 0
ArePartsShort = (bytes : List ℕ) → front bytes ≡ Part → length bytes < longest
