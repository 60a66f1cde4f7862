use Rattle.std.proofs.Common.{◌≡◌, ◌^◌, true, arith}
use Rattle.std.proofs.lemmas.Bool.{ltb-true}
use Rattle.kms_model.specs.Secrets.{has_id}
use Rattle.kms_operations.proofs.secrets.posted.Goals as goal

pub returns-clause-planned : goal.returns-clause-planned
returns-clause-planned c =
    let new = c.in_ok-new.ensures.range in
    let left : has_id c.args.rows.now.kept.state ≡ true = cc in
    let lt = ltb-true c.args.rows.now.kept.state.ids (2 ^ 62) left in
    c.posting.ensures.planned c.args.rows.now.kept tt (record {
      id = omega (arith, c.ids.ensures.ids, lt);
      project = c.names_fit.ensures.project;
      creator = c.names_fit.ensures.user;
      created = c.requires.time;
      updated = c.requires.time;
      name = new.name;
      algorithm = new.algorithm;
      bit_length = new.bit_length;
      mode = new.mode;
      expiration = new.expiration;
    }) c.ids.ensures.ids new.payload
