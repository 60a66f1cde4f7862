use Rattle.std.proofs.Common.{refl, sym, ap, subst, ◌∙◌}
use Rattle.std.specs.Prelude.{Err, IsErrOf}
use Rattle.kms_journal.specs.Fault.{Fails}
use Rattle.kms_core.specs.Steps.{Held}
use Rattle.kms_core.specs.declared.start_fault.StartFault.TheVariants as faults
use Rattle.kms_host.proofs.Moments.{tells_weaker}
use Rattle.kms_sealing.specs.Opening.{IsOpen, IsRefusal}
use Rattle.kms_core.specs.Starting.{is_failed_start, Starts}
use Rattle.kms_core.proofs.StartLaws.{started_at, closed_at, closed_fails, not_store_error}
use Rattle.kms_core.proofs.engine.Engine.start.Goals as goal

pub returns-in-Ok-clause-told : goal.returns-in-Ok-clause-told
returns-in-Ok-clause-told g c =
    tells_weaker _ c.in_ok-journal.ensures.told
    (λ was now l. started_at c.args.ring c.in_ok-journal.journal c.in_ok-journal.store was now l _ c.in-Ok.keys c.in-Ok.ensures.masters (subst (λ k. IsOpen c.args.ring k) c.rows-2.ensures.kept c.in-Ok.ensures.open) refl)

pub returns-in-Err-clause-told : goal.returns-in-Err-clause-told
returns-in-Err-clause-told g c =
    tells_weaker _ c.in_ok-journal.ensures.told
    (λ was now l. subst (λ x. Starts c.args.ring (Err x) was now) (sym c.closed.ensures)
    (closed_at c.args.ring c.in_ok-journal.journal c.in_ok-journal.store was now l c.in-Err.fault (subst (λ k. IsRefusal c.args.ring k c.in-Err.fault) c.rows-2.ensures.kept c.in-Err.ensures.err)))

pub returns-in-Err-clause-cause : goal.returns-in-Err-clause-cause
returns-in-Err-clause-cause g c = record {
  later = c.in_ok-journal.ensures.cause.later;
  failed = λ e. absurd (not_store_error c.in-Err.fault (subst (λ f. IsErrOf {T = Held} (Err f) faults.StoreFault) c.closed.ensures e));
}

pub returns-in-Err-clause-failed : goal.returns-in-Err-clause-failed
returns-in-Err-clause-failed g c =
    tells_weaker _ c.in_ok-journal.ensures.failed (λ was now f. subst (λ b. Fails b was now) (sym (ap (λ e. is_failed_start {T = Held} (Err e)) c.closed.ensures ∙ closed_fails c.in-Err.fault)) f)
