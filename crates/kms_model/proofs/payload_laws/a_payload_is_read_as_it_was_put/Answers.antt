use Rattle.kms_model.proofs.PayloadReading.{read_is, no_payload}
use Rattle.kms_model.proofs.payload_laws.a_payload_is_read_as_it_was_put.Goals as goal

pub returns-clause-payload : goal.returns-clause-payload
returns-clause-payload c = read_is

pub returns-clause-none : goal.returns-clause-none
returns-clause-none c = no_payload
