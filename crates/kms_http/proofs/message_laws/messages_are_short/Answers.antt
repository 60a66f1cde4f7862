use Rattle.kms_http.proofs.MessageSizeLaws.{message-short, part-short}
use Rattle.kms_http.proofs.message_laws.messages_are_short.Goals as goal

pub returns : goal.returns
returns c = record { messages = message-short; parts = part-short }
