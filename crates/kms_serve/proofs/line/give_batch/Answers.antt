use Rattle.kms_host.proofs.Moments.{known_with, known_weaker}
use Rattle.kms_host.specs.Line.{IsOpen}
use Rattle.kms_serve.specs.Owed.{owed_bytes}
use Rattle.kms_serve.specs.Turns.{CanServe}
use Rattle.kms_serve.proofs.GiveLaws.{only_gives}
use Rattle.kms_serve.proofs.PrepareLaws.{ready_gave}
use Rattle.kms_serve.proofs.SinceLaws.{since_given, since_cut_off}
use Rattle.kms_serve.proofs.line.give_batch.Goals as goal

pub returns-in-Ok-clause-given : goal.returns-in-Ok-clause-given
returns-in-Ok-clause-given g c = λ endpoint key_file store start stand replying.
    since_given endpoint key_file store c.args.s.now stand (owed_bytes c.args.owed.now) c.requires.some replying (rw c.owed_slice.ensures at c.in-Ok.ensures.given)

pub returns-in-Err-clause-given : goal.returns-in-Err-clause-given
returns-in-Err-clause-given g c = λ endpoint key_file store start stand replying.
    since_cut_off endpoint key_file store c.args.s.now stand (owed_bytes c.args.owed.now) _ replying (rw c.owed_slice.ensures at c.in-Err.ensures.given)

pub give_all-requires : goal.give_all-requires
give_all-requires g c = known_weaker (IsOpen 0) c.requires.ready (λ now k. k.unshut)

pub returns-in-Ok-clause-ready : goal.returns-in-Ok-clause-ready
returns-in-Ok-clause-ready g c = λ went.
    known_with (CanServe c.args.s.now.engine) c.requires.ready c.in-Ok.ensures.given
    (λ was calls k h. ready_gave c.args.s.now.engine was calls k (only_gives 0 _ calls h.only))
