use Rattle.std.proofs.Common.{◌≡◌, ◌∙◌, Some, sym, ap}
use Rattle.std.specs.Prelude.{option_copied}
use Rattle.kms_world.specs.LookUp.{container_of}
use Rattle.kms_store.proofs.ConsumerLaws.{on_one}
use Rattle.kms_store.proofs.counts.take_consumers.Goals as goal

pub take-requires-clause-least : goal.take-requires-clause-least
take-requires-clause-least c =
    let rows = c.args.rows.now in
    let found : container_of c.args.container rows.containers.items ≡ Some c.in-Some.row.now = sym c.container.ensures ∙ ap option_copied c.in-Some.is in
    on_one c.args.container rows.containers.items rows.consumers.items c.args.entries.now.items c.requires.tally.each c.in-Some.row.now c.args.gone found c.requires.gone
