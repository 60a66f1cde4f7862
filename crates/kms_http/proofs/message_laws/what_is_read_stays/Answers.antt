use Rattle.kms_http.proofs.CutLaws.{front-keeps, front-refuses}
use Rattle.kms_http.proofs.message_laws.what_is_read_stays.Goals as goal

pub returns : goal.returns
returns c = record { messages = front-keeps; refusals = front-refuses }
