use Rattle.std.proofs.Common.{rules}
use Rattle.std.proofs.lemmas.List.Sorted.{IsPartitionPoint-from_clause}
use Rattle.kms_store.specs.declared.tally.Entry.{Entry}
use Rattle.kms_store.proofs.TallyLaws.{parted}
use Rattle.kms_store.proofs.tally.point.Goals as goal

pub returns-clause-parted : goal.returns-clause-parted
returns-clause-parted g c =
    let k = g.K.IndexKey in
    IsPartitionPoint-from_clause (λ (e : Entry g.row.K.Denot). k.below e.key c.args.key.now) _ _ c.partition_point.ensures.partitioned (parted k.is k.below g.met.K.IndexKey.order c.args.key.now c.args.entries.now c.requires) (λ a r q w. search rules)
