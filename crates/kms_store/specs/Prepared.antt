-- A change whose row is made already, where it needs memory.
use Rattle.std.specs.Prelude.{◌≡◌, ℕ, false}
use Rattle.kms_record.specs.Base.{container_put_of}
use Rattle.kms_record.specs.ChangeEffect.{container_at}
use Rattle.kms_record.specs.declared.change.Change.{Change}
use Rattle.kms_record.specs.declared.change.Change.TheVariants.{ContainerPut}
use Rattle.kms_store.specs.Ready.{puts_container}
use Rattle.kms_store.specs.declared.ready.Prepared.{Prepared}
use Rattle.kms_store.specs.declared.ready.Prepared.TheVariants.{Container, Other}

abbrev pub change_of : Prepared → Change
change_of (Container row) = ContainerPut (container_put_of row)
change_of (Other change) = change

-- the change that puts this row puts this row
abbrev pub IsRowOf : ℕ → Prepared → Type 0
IsRowOf tag (Container row) = container_at tag (container_put_of row) ≡ row
IsRowOf tag (Other change) = puts_container change ≡ false
