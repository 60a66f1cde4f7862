use Rattle.std.proofs.Common.{◌≡◌, false}
use Rattle.kms_stores.proofs.store.commit_each.Given as goal

abbrev pub invariant-loop : goal.invariant-loop
invariant-loop l = l.journal.failed ≡ false
