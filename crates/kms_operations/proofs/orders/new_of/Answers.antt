use Rattle.std.proofs.Common.{◌<◌, ◌^◌, refl, arith}
use Rattle.std.proofs.lemmas.Bool.{ltb-true}
use Rattle.kms_operations.proofs.OrderLaws.{new_order_fits}
use Rattle.kms_operations.proofs.orders.new_of.Goals as goal

pub returns-clause-fits : goal.returns-clause-fits
returns-clause-fits c =
    let kept = c.args.rows.now.kept in
    let lt : kept.state.ids < 2 ^ 62 = ltb-true kept.state.ids (2 ^ 62) c.requires.left in
    new_order_fits kept _ (record {
      id = omega (arith, c.ids.ensures.ids, lt);
      project = c.names_fit.ensures.project;
      creator = c.names_fit.ensures.user;
      created = c.requires.time;
      updated = c.requires.time;
      algorithm = c.requires.range.algorithm;
      bit_length = c.requires.range.bit_length;
      mode = c.requires.range.mode;
      name = c.requires.range.name;
      expiration = c.requires.range.expiration;
      state = tt;
    }) c.ids.ensures.ids refl
