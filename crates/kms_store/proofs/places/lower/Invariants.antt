use Rattle.std.proofs.Common.{◌≡◌}
use Rattle.kms_store.specs.Keyed.{lowered_entry}
use Rattle.kms_store.proofs.EditLaws.{mapped}
use Rattle.kms_store.proofs.places.lower.Given as goal

-- those before the index are lowered
abbrev pub invariant-loop-entry : goal.invariant-loop-entry
invariant-loop-entry g l = l.entries ≡ mapped (lowered_entry l.gone) l.entry-index l.initial.entries
