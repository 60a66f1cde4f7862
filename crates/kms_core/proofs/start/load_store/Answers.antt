use Rattle.std.proofs.Common.{sym, subst}
use Rattle.std.specs.Prelude.{Err}
use Rattle.kms_host.proofs.Moments.{tells_then}
use Rattle.kms_core.specs.Starting.{LoadsStore}
use Rattle.kms_core.proofs.StartLaws.{unread, unloaded, loaded_at}
use Rattle.kms_core.proofs.start.load_store.Goals as goal

pub returns-in-Err-clause-told : goal.returns-in-Err-clause-told
returns-in-Err-clause-told g c =
    tells_then _ c.in_ok-journal.ensures.told c.in-Err.ensures.told
    (λ was mid now o k. unread c.in_ok-journal.journal was mid now o c.in-Err.fault c.refusal.result c.refusal.ensures k)

pub returns-in-Ok-load-clause-told : goal.returns-in-Ok-load-clause-told
returns-in-Ok-load-clause-told g c =
    tells_then _ c.in_ok-journal.ensures.told c.in-Ok.ensures.told
    (λ was mid now o k. loaded_at c.in_ok-journal.journal was mid now o c.in-Ok.chain k _ c.in-Ok-load.store c.in-Ok-load.ensures.loads c.in-Ok-load.ensures.nothing c.in-Ok-load.ensures.steps c.in-Ok.ensures.position)

pub returns-in-Err-load-clause-told : goal.returns-in-Err-load-clause-told
returns-in-Err-load-clause-told g c =
    tells_then _ c.in_ok-journal.ensures.told c.in-Ok.ensures.told
    (λ was mid now o k. subst (λ x. LoadsStore (Err x) was now) (sym c.fault_of.ensures) (unloaded c.in_ok-journal.journal was mid now o c.in-Ok.chain k c.in-Err-load.fault c.in-Err-load.ensures.loads))
