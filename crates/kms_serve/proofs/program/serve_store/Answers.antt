use Rattle.kms_core.specs.Steps.{Held}
use Rattle.kms_serve.proofs.ServeLaws.{carried, refused, pipe_served, pipe_refused, no_link_fault, no_key_fault}
use Rattle.kms_serve.proofs.program.serve_store.Goals as goal

pub returns-in-Ok-clause-carries : goal.returns-in-Ok-clause-carries
returns-in-Ok-clause-carries g c =
    carried c.args.endpoint.now c.args.key_file.now c.args.store.now c.in-Ok.engine c.serve_line.result c.in-Ok.ensures.opens c.in-Ok.ensures.ready c.serve_line.ensures.ended

pub returns-in-Ok-clause-ends : goal.returns-in-Ok-clause-ends
returns-in-Ok-clause-ends g c = pipe_served c.serve_line.result c.serve_line.ensures.served

pub returns-in-Ok-clause-key_file_fault : goal.returns-in-Ok-clause-key_file_fault
returns-in-Ok-clause-key_file_fault g c = λ e. absurd (no_key_fault c.serve_line.result c.serve_line.ensures.served e)

pub returns-in-Err-clause-carries : goal.returns-in-Err-clause-carries
returns-in-Err-clause-carries g c = refused c.args.endpoint.now c.args.key_file.now c.args.store.now c.in-Err.status c.in-Err.ensures.opens

pub returns-in-Err-clause-ends : goal.returns-in-Err-clause-ends
returns-in-Err-clause-ends g c = pipe_refused Held c.in-Err.status c.in-Err.ensures.refusal

pub returns-in-Err-clause-link_fault : goal.returns-in-Err-clause-link_fault
returns-in-Err-clause-link_fault g c = λ e. absurd (no_link_fault Held c.in-Err.status c.in-Err.ensures.refusal e)
