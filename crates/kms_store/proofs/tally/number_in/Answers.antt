use Rattle.std.proofs.Common.{sym}
use Rattle.kms_store.proofs.TallyLaws.{rows_there, rows_nowhere}
use Rattle.kms_store.proofs.tally.number_in.Goals as goal

pub returns-in-Ok : goal.returns-in-Ok
returns-in-Ok g c =
    let k = g.K.IndexKey in
    sym (rows_there k.is k.below g.met.K.IndexKey.order c.args.key.now c.args.entries.now c.in-Ok.at c.index-entries-at.result c.requires c.in-Ok.ensures.there.within (c.in-Ok.ensures.there.here c.index-entries-at.result))

pub returns-in-Err : goal.returns-in-Err
returns-in-Err g c =
    let k = g.K.IndexKey in
    sym (rows_nowhere k.is k.below g.met.K.IndexKey.order c.args.key.now c.args.entries.now c.in-Err.field-0 c.in-Err.ensures.missing)
