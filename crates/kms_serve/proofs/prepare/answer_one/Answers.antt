use Rattle.kms_host.proofs.Moments.{since_weaker}
use Rattle.kms_serve.proofs.PrepareLaws.{RespondsTo, asking, may_settle, one_answer}
use Rattle.kms_model.specs.Course.Deed.{Asks}
use Rattle.kms_serve.specs.Events.{LineEvent}
use Rattle.kms_serve.specs.Requests.{request_of}
use Rattle.kms_serve.proofs.prepare.answer_one.Goals as goal

pub returns-clause-answers : goal.returns-clause-answers
returns-clause-answers g c = λ store key_file n last.
    one_answer store key_file c.args.endpoint.now c.args.engine.now c.reply.new.engine c.args.served.now n c.now-told.result c.reply.result c.now-told.ensures.told
    (since_weaker (λ was calls. RespondsTo c.args.endpoint.now c.args.engine.now c.reply.new.engine (asking n c.now-told.result c.args.served.now) c.reply.result calls) c.reply.ensures.responds
    (λ was calls h d has. rw (← last, ← c.capped-moment.ensures) (h d 0 has)))

pub returns-clause-ready : goal.returns-clause-ready
returns-clause-ready g c =
    let e : LineEvent = record { line = 0; event = record { deed = Asks (request_of c.args.served.now); time = c.capped-moment.result }; last = c.args.last } in
    may_settle c.args.endpoint.now c.args.engine.now c.reply.new.engine c.now-told.result e c.reply.result c.requires.ready c.now-told.ensures.told
    (since_weaker (λ was calls. RespondsTo c.args.endpoint.now c.args.engine.now c.reply.new.engine e c.reply.result calls) c.reply.ensures.responds (λ was calls h d has. h d 0 has))
