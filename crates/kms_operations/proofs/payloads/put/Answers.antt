use Rattle.std.proofs.Common.{sym, ◌∙◌}
use Rattle.kms_secret.proofs.RangeLaws.{payload_in_range}
use Rattle.kms_operations.proofs.PayloadLaws.{secret_for_put}
use Rattle.kms_operations.proofs.payloads.put.Goals as goal

pub returns-clause-planned : goal.returns-clause-planned
returns-clause-planned c =
    let row = c.in_ok-secret.secret.now in
    let secret =
    secret_for_put c.args.rows.now.kept c.count_of.result row c.row-row.result.now c.row-row.ensures (sym c.is_some.ensures ∙ c.if-is_some.false) c.in_ok-secret.ensures.kept c.count_of.ensures.count
    in
    record {
      times = tt;
      id = c.count_of.ensures.range;
      updated = c.requires.time;
      payload = payload_in_range c.args.shape.now c.args.body.now c.in_ok-payload.payload c.in_ok-payload.ensures;
      secret = (row, secret.0, secret.1, secret.2);
    }
