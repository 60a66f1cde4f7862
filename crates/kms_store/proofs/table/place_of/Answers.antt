use Rattle.std.proofs.Common.{ltb, map, arith, rules, ap, sym, subst, ◌∙◌}
use Rattle.kms_world.specs.declared.id.Id.{Id}
use Rattle.std.proofs.lemmas.List.{get_or_default, map-id}
use Rattle.std.proofs.lemmas.List.Sorted.{IsPartitionPoint-from_clause, IsPartitionedBy-ltb}
use Rattle.kms_store.specs.Table.{Rises}
use Rattle.kms_store.proofs.TableLaws.{not_falling, found_there, found_nowhere}
use Rattle.kms_store.proofs.table.place_of.Goals as goal
use Rattle.kms_store.proofs.table.place_of.Goals.{else-at-ids-via-then-at-ids+else-ids-at, else-at-ids-via-else-at-ids}

pub returns-then-ids-at : goal.returns-then-ids-at
returns-then-ids-at c =
    let ids = c.args.ids.now in
    let rises : Rises (map (λ (i : Id). i) ids) = subst Rises (sym (map-id ids)) c.requires in
    let parted = IsPartitionedBy-ltb (λ (i : Id). i.0) ids c.args.id.0 (not_falling (λ (i : Id). i) ids rises) in
    let parts = IsPartitionPoint-from_clause (λ (i : Id). ltb i.0 c.args.id.0) _ _ c.partition_point-at.ensures.partitioned parted (λ a r q k. search rules) in
    sym (found_there (λ (i : Id). i) c.args.id ids c.partition_point-at.result (record { 0 = 0 }) parts c.if-at-ids.true c.if-ids-at.true)

pub returns-else-at-ids : goal.returns-else-at-ids
returns-else-at-ids c =
    let ids = c.args.ids.now in
    let rises : Rises (map (λ (i : Id). i) ids) = subst Rises (sym (map-id ids)) c.requires in
    let parted = IsPartitionedBy-ltb (λ (i : Id). i.0) ids c.args.id.0 (not_falling (λ (i : Id). i) ids rises) in
    let parts = IsPartitionPoint-from_clause (λ (i : Id). ltb i.0 c.args.id.0) _ _ c.partition_point-at.ensures.partitioned parted (λ a r q k. search rules) in
    sym (found_nowhere (λ (i : Id). i) c.args.id ids c.partition_point-at.result rises parts c.partition_point-at.ensures.bound
    (λ lt d same. elim c.else-at-ids.branch [
      | else-at-ids-via-then-at-ids+else-ids-at w ↦ w.if-ids-at.false (ap (λ (i : Id). i.0) (get_or_default ids c.partition_point-at.result (record { 0 = 0 }) d lt) ∙ same)
      | else-at-ids-via-else-at-ids w ↦ absurd (omega (arith, lt, w.if-at-ids.false))
    ]))
