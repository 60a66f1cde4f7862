use Rattle.kms_serve.proofs.line.settle_and_give.Goals as goal

pub returns-in-Ok-clause-given : goal.returns-in-Ok-clause-given
returns-in-Ok-clause-given g c = λ endpoint key_file store start stand owing.
    c.give_batch.ensures.given endpoint key_file store start stand (c.in-Ok.ensures.settled endpoint key_file store start stand _ owing)

pub returns-in-Err-clause-given : goal.returns-in-Err-clause-given
returns-in-Err-clause-given g c = λ endpoint key_file store start stand owing.
    c.give_fault.ensures.ended endpoint key_file store start (c.in-Err.ensures.settled endpoint key_file store start stand _ owing)
