use Rattle.kms_model.proofs.PayloadTests.{audit_reads_none}
use Rattle.kms_model.proofs.payload_laws.audit_alone_reads_no_payload.Goals as goal

pub returns : goal.returns
returns c = audit_reads_none
