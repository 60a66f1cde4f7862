use Rattle.std.proofs.Common.{drop}
use Rattle.kms_store.proofs.LoadLaws.{Continues}
use Rattle.kms_store.proofs.loading.load_records.Given as goal

abbrev pub invariant-loop-at : goal.invariant-loop-at
invariant-loop-at l = Continues l.fn.bodies (drop l.at-index l.fn.bodies) l.fn.tables.kept l.tables.kept
