use Rattle.std.proofs.Common.{ap, subst}
use Rattle.std.specs.Prelude.{Err}
use Rattle.kms_core.specs.declared.asked.AskFault.{AskFault}
use Rattle.kms_host.proofs.Moments.{since_weaker}
use Rattle.kms_model.specs.Requests.{asked_puts}
use Rattle.kms_serve.proofs.AskLaws.{undrawn_by}
use Rattle.kms_serve.proofs.PrepareLaws.{RespondsAt, hungry_some, responds_hungry, responds_undrawn, responds_well, undrawn_some}
use Rattle.kms_serve.specs.Owed.{DrawsFor}
use Rattle.kms_serve.specs.Requests.{request_of}
use Rattle.kms_serve.specs.declared.owed.Owed.TheVariants.{NoDraw, OutOfMemory, Reply}
use Rattle.kms_serve.proofs.prepare.reply.Goals as goal

pub returns-in-Err-NoDraw-clause-some : goal.returns-in-Err-NoDraw-clause-some
returns-in-Err-NoDraw-clause-some g c = undrawn_some

pub returns-in-Err-NoMemory-clause-some : goal.returns-in-Err-NoMemory-clause-some
returns-in-Err-NoMemory-clause-some g c = hungry_some

pub returns-in-Ok-clause-responds : goal.returns-in-Ok-clause-responds
returns-in-Ok-clause-responds g c =
    since_weaker (λ was calls. RespondsAt c.args.endpoint.now c.args.engine.now c.respond.new.engine (request_of c.args.served.now) c.args.moment c.args.last (Reply c.in-Ok.reply) calls) c.in-Ok.ensures.told
    (λ was calls h d line has.
    responds_well c.args.endpoint.now d c.args.engine.now c.respond.new.engine (request_of c.args.served.now) line c.args.moment c.args.last c.in-Ok.reply calls
    (c.in-Ok.ensures.reply d.state has) (c.in-Ok.ensures.state d.state has) (c.in-Ok.ensures.steps d.state has) (h d.state has))

pub returns-in-Err-NoDraw-clause-responds : goal.returns-in-Err-NoDraw-clause-responds
returns-in-Err-NoDraw-clause-responds g c =
    since_weaker (λ was calls. RespondsAt c.args.endpoint.now c.args.engine.now c.respond.new.engine (request_of c.args.served.now) c.args.moment c.args.last NoDraw calls) c.in-Err-NoDraw.ensures.told
    (λ was calls h d line has.
    responds_undrawn c.args.endpoint.now d c.args.engine.now c.respond.new.engine (request_of c.args.served.now) line c.args.moment c.args.last calls has c.in-Err-NoDraw.ensures.err
    (c.in-Err-NoDraw.ensures.puts (ap (λ (f : AskFault). Err f) c.in-Err-NoDraw.field-0-is) d.state has) (subst (λ (f : AskFault). DrawsFor (asked_puts d.state (request_of c.args.served.now) c.args.moment) (undrawn_by f) calls) c.in-Err-NoDraw.field-0-is (h d.state has)))

pub returns-in-Err-NoMemory-clause-responds : goal.returns-in-Err-NoMemory-clause-responds
returns-in-Err-NoMemory-clause-responds g c =
    since_weaker (λ was calls. RespondsAt c.args.endpoint.now c.args.engine.now c.respond.new.engine (request_of c.args.served.now) c.args.moment c.args.last OutOfMemory calls) c.in-Err-NoMemory.ensures.told
    (λ was calls h d line has.
    responds_hungry c.args.endpoint.now d c.args.engine.now c.respond.new.engine (request_of c.args.served.now) line c.args.moment c.args.last calls has c.in-Err-NoMemory.ensures.err
    (subst (λ (f : AskFault). DrawsFor (asked_puts d.state (request_of c.args.served.now) c.args.moment) (undrawn_by f) calls) c.in-Err-NoMemory.field-0-is (h d.state has)))
