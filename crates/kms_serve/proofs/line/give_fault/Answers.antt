use Rattle.kms_serve.proofs.SinceLaws.{since_faulted}
use Rattle.kms_serve.proofs.line.give_fault.Goals as goal

pub returns-clause-ended : goal.returns-clause-ended
returns-clause-ended g c = λ endpoint key_file store start faulting. since_faulted endpoint key_file store c.give_all.result faulting (rw c.fault_reply.ensures at c.give_all.ensures.given)
