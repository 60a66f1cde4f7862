-- What a reader answers.
use Rattle.std.specs.Prelude.{◌≡◌, ◌+◌, length}
use Rattle.kms_http.specs.declared.message_read.MessageRead.{MessageRead}
use Rattle.kms_http.specs.declared.message_read.MessageRead.TheVariants as read
use Rattle.kms_http.specs.Messages.{front}
use Rattle.kms_http.specs.Messages.Front.{Whole, Bad, Part}
use Rattle.kms_http.specs.Reading.{Reading}

-- what was read at the front of the bytes held, and what is held after it
abbrev pub Reads : MessageRead → Reading → Reading → Type 0
Reads (read.Message message) old new =
    (front old.held ≡ Whole message new.held) × (new.passed + length new.held ≡ old.passed + length old.held)
Reads read.More old new = (front old.held ≡ Part) × (new ≡ old)
Reads (read.Bad refusal) old new = (front old.held ≡ Bad refusal) × (new ≡ old)
