-- Times that have a text: whole seconds since 1970, up to the end of the year 9999.
use Rattle.std.specs.Prelude.{ℕ, ◌<◌, Option, Some, None, All}
use Rattle.kms_world.specs.declared.acl.AclRow.{AclRow}
use Rattle.kms_world.specs.declared.container.ContainerRow.{ContainerRow}
use Rattle.kms_world.specs.declared.order.OrderRow.{OrderRow}
use Rattle.kms_world.specs.declared.secret.SecretRow.{SecretRow}
use Rattle.kms_world.specs.declared.answer.Answer.{Answer}
use Rattle.kms_world.specs.declared.answer.Answer.TheVariants.{Refused, Empty, Link, Secret, Payload, Metadata, Pair, Acl, Order, Container, Quotas, ProjectQuotas, List}
use Rattle.kms_world.specs.declared.answer.ListRows.{ListRows}
use Rattle.kms_world.specs.declared.answer.ListRows.TheVariants as rows

-- the first second of the year 10000
abbrev pub end_of_times : ℕ
end_of_times = 253402300800

abbrev pub IsTime : Option ℕ → Type 0
IsTime None = Unit {0}
IsTime (Some t) = t < end_of_times

-- each time of the secret has a text
pub record IsTimely (row : SecretRow) : Type 0 where
  pub created : row.created < end_of_times
  pub updated : row.updated < end_of_times
  pub expiration : IsTime row.expiration

pub record IsTimelyContainer (row : ContainerRow) : Type 0 where
  pub created : row.created < end_of_times
  pub updated : row.updated < end_of_times

pub record IsTimelyOrder (row : OrderRow) : Type 0 where
  pub created : row.created < end_of_times
  pub updated : row.updated < end_of_times
  pub expiration : IsTime row.expiration

pub record IsTimelyAcl (row : AclRow) : Type 0 where
  pub created : row.created < end_of_times
  pub updated : row.updated < end_of_times

abbrev pub IsTimelyIfAny : Option AclRow → Type 0
IsTimelyIfAny None = Unit {0}
IsTimelyIfAny (Some row) = IsTimelyAcl row

abbrev pub RowsHaveTimes : ListRows → Type 0
RowsHaveTimes (rows.Secrets page) = All IsTimely page
RowsHaveTimes (rows.Containers page) = All (λ view. IsTimelyContainer view.row) page
RowsHaveTimes (rows.Consumers page) = Unit {0}
RowsHaveTimes (rows.Orders page) = All IsTimelyOrder page
RowsHaveTimes (rows.Quotas page) = Unit {0}

-- each time that is shown in the answer has a text
abbrev pub HasTimes : Answer → Type 0
HasTimes (Refused refusal) = Unit {0}
HasTimes (Empty status) = Unit {0}
HasTimes (Link status link id) = Unit {0}
HasTimes (Secret row) = IsTimely row
HasTimes (Payload payload) = Unit {0}
HasTimes (Metadata pairs) = Unit {0}
HasTimes (Pair status key value) = Unit {0}
HasTimes (Acl row) = IsTimelyIfAny row
HasTimes (Order row) = IsTimelyOrder row
HasTimes (Container view) = IsTimelyContainer view.row
HasTimes (Quotas row) = Unit {0}
HasTimes (ProjectQuotas row) = Unit {0}
HasTimes (List path query page total) = RowsHaveTimes page
