-- A store's tables, staged steps and number of steps, as contracts see them.
use Rattle.kms_store.specs.Store.{Stored}
use Rattle.kms_store.specs.declared.store.Store.TheInside.{Inside}

abbrev pub stored_in : Inside → Stored
stored_in s = record { kept = s.tables.kept; staging = s.staged; steps = s.steps; spare = s.tables.spare }
