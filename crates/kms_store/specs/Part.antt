-- Where changes stand, as a value of the program.
use Rattle.std.specs.Prelude.{◌≡◌, true}
use Rattle.kms_record.specs.declared.change.Change.{Change}
use Rattle.kms_kept.specs.Kept as kept
use Rattle.kms_store.specs.declared.part.Part.{Part}
use Rattle.kms_store.specs.declared.part.Part.TheVariants.{Records, Snapshot}

abbrev pub part_of : Part → kept.Part
part_of Records = kept.Records
part_of Snapshot = kept.Base

-- the change applies, in records or in a snapshot
abbrev pub IsFit : Change → kept.Kept → Type 0
IsFit change all = (part : kept.Part) × (kept.applies part change all ≡ true)
