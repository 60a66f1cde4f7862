use Rattle.std.proofs.Common.{◌≤◌, List, ℕ, length, sym, ap, subst, ◌∙◌}
use Rattle.kms_store.specs.Store.{Stored}
use Rattle.kms_store.proofs.StagedLaws.{step_is_some}
use Rattle.kms_store.proofs.store.Store.stage.Goals as goal

pub stage-requires : goal.stage-requires
stage-requires c =
    let spelled = ap (λ (s : Stored). s.staging.reserved) c.self.view_is ∙ c.requires.reserved.spelled in
    record { some = subst (λ (l : List ℕ). 1 ≤ length l) (sym spelled) (step_is_some c.args.step.changes) }
