use Rattle.std.proofs.Common.{arith}
use Rattle.std.proofs.lemmas.Result.{err_from_is_err_and}
use Rattle.kms_policy.proofs.UserLaws.{IsTaken-more, RefusesUsers-all}
use Rattle.kms_policy.proofs.acl.users_of.Goals as goal

pub returns-in_err-add-clause-err : goal.returns-in_err-add-clause-err
returns-in_err-add-clause-err c =
    let p = err_from_is_err_and c.from_residual.result c.from_residual.ensures.1 in
    rw (p.1, p.2)
    (RefusesUsers-all c.args.texts.now c.loop-text.names c.loop-text.text-index c.text-item.result c.in_err-add.field-0.0
    (omega arith) c.text-item.is c.loop-text.invariant.taken c.in_err-add.ensures.err)

pub loop-text-preserved : goal.loop-text-preserved
loop-text-preserved c = record {
  taken = IsTaken-more c.args.texts.now c.loop-text.names c.add.new.names c.loop-text.text-index c.text-item.result
      (omega arith) c.text-item.is c.loop-text.invariant.taken c.in_ok-add.ensures.ok;
  seen = c.in_ok-add.ensures.seen;
}
