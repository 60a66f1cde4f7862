use Rattle.std.proofs.Common.{◌≡◌, sym, ◌∙◌}
use Rattle.kms_world.specs.Pairs.{is_below}
use Rattle.kms_secret.proofs.AscendingLaws.{next_by_last}
use Rattle.kms_secret.proofs.metadata.is_next.Goals as goal

pub returns-in-Some : goal.returns-in-Some
returns-in-Some c =
    let lt : c.lt.result ≡ is_below c.in-Some.last.now.0 c.args.pair.now.0 = cc in
    lt ∙ sym (next_by_last c.args.pairs.now c.in-Some.last.now c.args.pair.now (sym c.in-Some.ensures.value))
