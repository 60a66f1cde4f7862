-- Rows that operations find.
use denote.Ref.{Bor}
use Rattle.std.specs.Prelude.{◌≡◌, ◌||◌, true, Some, Result, Ok, Err, is_some}
use Rattle.kms_kept.specs.Kept.{Kept}
use Rattle.kms_kept.specs.OfGrammar.{IsSecret, IsContainer, IsOrder}
use Rattle.kms_record.specs.Base.{count_of}
use Rattle.kms_world.specs.Id.{id_at}
use Rattle.kms_world.specs.LookUp.{secret_of, container_of, order_of}
use Rattle.kms_world.specs.declared.container.ContainerRow.{ContainerRow}
use Rattle.kms_world.specs.declared.id.Id.{Id}
use Rattle.kms_world.specs.declared.order.OrderRow.{OrderRow}
use Rattle.kms_world.specs.declared.refusal.CheckFault.{CheckFault}
use Rattle.kms_world.specs.declared.refusal.CheckFault.TheVariants.{Refused, NoMemory}
use Rattle.kms_world.specs.declared.refusal.Refusal.{Refusal}
use Rattle.kms_world.specs.declared.secret.SecretRow.{SecretRow}

-- the row that is found is this one, or it is refused so
abbrev pub Finds : {A : Type 0} → Result (Bor A) CheckFault → Result A Refusal → Type 0
Finds (Ok row) answer = answer ≡ Ok row.now
Finds (Err (Refused refusal)) answer = answer ≡ Err refusal
Finds (Err NoMemory) answer = Unit {0}

-- the secret is kept, under its id, and is one of the grammar
pub record IsKeptSecret (kept : Kept) (row : SecretRow) : Type 0 where
  pub here : secret_of row.id kept.state.secrets ≡ Some row
  pub is : IsSecret kept.state.tag row

-- the container is kept, under its id, and is one of the grammar
pub record IsKeptContainer (kept : Kept) (row : ContainerRow) : Type 0 where
  pub here : container_of row.id kept.state.containers ≡ Some row
  pub id : id_at kept.state.tag (count_of row.id) ≡ row.id
  pub is : IsContainer kept.state.tag row

-- the order is kept, under its id, and is one of the grammar
pub record IsKeptOrder (kept : Kept) (row : OrderRow) : Type 0 where
  pub here : order_of row.id kept.state.orders ≡ Some row
  pub id : id_at kept.state.tag (count_of row.id) ≡ row.id
  pub is : IsOrder kept.state.tag row

-- a secret or a container is kept under this id
pub record IsTarget (kept : Kept) (id : Id) : Type 0 where
  pub there : (is_some (secret_of id kept.state.secrets) || is_some (container_of id kept.state.containers)) ≡ true
  pub is : id_at kept.state.tag (count_of id) ≡ id
