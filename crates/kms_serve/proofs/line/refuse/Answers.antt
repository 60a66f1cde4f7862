use Rattle.std.proofs.Common.{refl}
use Rattle.kms_serve.proofs.SinceLaws.{refused_out, after_refusal}
use Rattle.kms_serve.proofs.line.refuse.Goals as goal

pub returns-in-Ended-clause-good : goal.returns-in-Ended-clause-good
returns-in-Ended-clause-good g c key_file store start good =
    c.in-Ended.ensures.given c.args.endpoint.now key_file store start _
    (c.answer_batch-owed.ensures.owing key_file store start c.args.s.now _ (refused_out c.args.s.now c.args.refusal c.requires.bad) refl good)

pub returns-clause-good : goal.returns-clause-good
returns-clause-good g c key_file store start good =
    rw c.passed.ensures.value
    (after_refusal c.args.endpoint.now key_file store _
    (c.in-Went.ensures.given c.args.endpoint.now key_file store start _
    (c.answer_batch-owed.ensures.owing key_file store start c.args.s.now _ (refused_out c.args.s.now c.args.refusal c.requires.bad) refl good))
    c.shut.ensures.told)
