use Rattle.std.proofs.Common.{◌≡◌, [], ◌∷◌, map, refl, ap}
use Rattle.kms_record.specs.declared.change.Change.TheVariants.{KeyAdded, ContainerPut, ConsumerAdded, AclPut, OrderPut, QuotaPut}
use Rattle.kms_record.specs.Base.{container_put_of, consumer_added_of, acl_put_of, order_put_of, quota_put_of}
use Rattle.kms_store.proofs.RowsLeftLaws as law
use Rattle.kms_store.proofs.RowsLeftLaws.{none_there}
use Rattle.kms_store.proofs.rows_left.RowsLeft.next.Goals as goal

pub returns-in-Some : goal.returns-in-Some
returns-in-Some c = (KeyAdded c.in-Some.key.now, refl, law.first _ _ [] _ _ _ _ _ _ _ (ap (map (λ key. KeyAdded key)) c.in-Some.ensures.cases.0))

pub returns-in-Some-split_first : goal.returns-in-Some-split_first
returns-in-Some-split_first c = (
  ContainerPut (container_put_of c.in-Some-split_first.row.now),
  refl,
  law.third _ _ _ _ _ _ _ _ _ _
      (ap (map (λ key. KeyAdded key)) (none_there _ c.in_default.ensures.cases))
      c.in_default-next.ensures.0
      c.in_default-next.ensures.1
      (ap (map (λ row. ContainerPut (container_put_of row))) c.in-Some-split_first.ensures.cases.0),
)

pub returns-in-Some-split_first-2 : goal.returns-in-Some-split_first-2
returns-in-Some-split_first-2 c = (
  ConsumerAdded (consumer_added_of c.in-Some-split_first-2.row.now),
  refl,
  law.fourth _ _ _ _ _ _ _ _ _ _
      (ap (map (λ key. KeyAdded key)) (none_there _ c.in_default.ensures.cases))
      c.in_default-next.ensures.0
      c.in_default-next.ensures.1
      (ap (map (λ row. ContainerPut (container_put_of row))) (none_there _ c.in_default-split_first.ensures.cases))
      (ap (map (λ row. ConsumerAdded (consumer_added_of row))) c.in-Some-split_first-2.ensures.cases.0),
)

pub returns-in-Some-split_first-3 : goal.returns-in-Some-split_first-3
returns-in-Some-split_first-3 c = (
  AclPut (acl_put_of c.in-Some-split_first-3.row.now),
  refl,
  law.fifth _ _ _ _ _ _ _ _ _ _
      (ap (map (λ key. KeyAdded key)) (none_there _ c.in_default.ensures.cases))
      c.in_default-next.ensures.0
      c.in_default-next.ensures.1
      (ap (map (λ row. ContainerPut (container_put_of row))) (none_there _ c.in_default-split_first.ensures.cases))
      (ap (map (λ row. ConsumerAdded (consumer_added_of row))) (none_there _ c.in_default-split_first-2.ensures.cases))
      (ap (map (λ row. AclPut (acl_put_of row))) c.in-Some-split_first-3.ensures.cases.0),
)

pub returns-in-Some-split_first-4 : goal.returns-in-Some-split_first-4
returns-in-Some-split_first-4 c = (
  OrderPut (order_put_of c.in-Some-split_first-4.row.now),
  refl,
  law.sixth _ _ _ _ _ _ _ _ _ _
      (ap (map (λ key. KeyAdded key)) (none_there _ c.in_default.ensures.cases))
      c.in_default-next.ensures.0
      c.in_default-next.ensures.1
      (ap (map (λ row. ContainerPut (container_put_of row))) (none_there _ c.in_default-split_first.ensures.cases))
      (ap (map (λ row. ConsumerAdded (consumer_added_of row))) (none_there _ c.in_default-split_first-2.ensures.cases))
      (ap (map (λ row. AclPut (acl_put_of row))) (none_there _ c.in_default-split_first-3.ensures.cases))
      (ap (map (λ row. OrderPut (order_put_of row))) c.in-Some-split_first-4.ensures.cases.0),
)

pub returns-in-Some-split_first-5 : goal.returns-in-Some-split_first-5
returns-in-Some-split_first-5 c = (
  QuotaPut (quota_put_of c.in-Some-split_first-5.row.now),
  refl,
  law.seventh _ _ _ _ _ _ _ _ _ _
      (ap (map (λ key. KeyAdded key)) (none_there _ c.in_default.ensures.cases))
      c.in_default-next.ensures.0
      c.in_default-next.ensures.1
      (ap (map (λ row. ContainerPut (container_put_of row))) (none_there _ c.in_default-split_first.ensures.cases))
      (ap (map (λ row. ConsumerAdded (consumer_added_of row))) (none_there _ c.in_default-split_first-2.ensures.cases))
      (ap (map (λ row. AclPut (acl_put_of row))) (none_there _ c.in_default-split_first-3.ensures.cases))
      (ap (map (λ row. OrderPut (order_put_of row))) (none_there _ c.in_default-split_first-4.ensures.cases))
      (ap (map (λ row. QuotaPut (quota_put_of row))) c.in-Some-split_first-5.ensures.cases.0),
)

pub returns : goal.returns
returns c = law.nothing _ _ _ _ _ _ _ _
    (ap (map (λ key. KeyAdded key)) (none_there _ c.in_default.ensures.cases))
    c.in_default-next.ensures.0
    c.in_default-next.ensures.1
    (ap (map (λ row. ContainerPut (container_put_of row))) (none_there _ c.in_default-split_first.ensures.cases))
    (ap (map (λ row. ConsumerAdded (consumer_added_of row))) (none_there _ c.in_default-split_first-2.ensures.cases))
    (ap (map (λ row. AclPut (acl_put_of row))) (none_there _ c.in_default-split_first-3.ensures.cases))
    (ap (map (λ row. OrderPut (order_put_of row))) (none_there _ c.in_default-split_first-4.ensures.cases))
    (ap (map (λ row. QuotaPut (quota_put_of row))) (none_there _ c.in_default-split_first-5.ensures.cases))
