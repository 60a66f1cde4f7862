use Rattle.kms_host.specs.Store.{OnlyAttached}
use Rattle.kms_host.proofs.Moments.{known_weaker}
use Rattle.kms_host.proofs.StoreLaws.{only_attached-none}
use Rattle.kms_runs.proofs.row.ran.Goals as goal

pub run-ended-requires-clause-store : goal.run-ended-requires-clause-store
run-ended-requires-clause-store c = λ store named. known_weaker (λ h. OnlyAttached store h.calls) c.in_ok-host.ensures.store (λ now none. only_attached-none store now.calls none)
