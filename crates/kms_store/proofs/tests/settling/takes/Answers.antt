use Rattle.std.proofs.Common.{◌≡◌, ◌≤◌, ◌+◌, ℕ, List, ap, arith, length, length-append, rules, ◌∙◌}
use Rattle.kms_record.specs.Grammar.{IsStepInRange, step_bytes}
use Rattle.kms_record.proofs.SizeLaws.{step_is_short_lem}
use Rattle.kms_record.specs.declared.change.Change.{Change}
use Rattle.kms_store.specs.Staged.{Staging, with_reserved, with_staged}
use Rattle.kms_store.proofs.tests.settling.takes.Goals as goal

pub reserve_step-requires-clause-short : goal.reserve_step-requires-clause-short
reserve_step-requires-clause-short c =
    let range : IsStepInRange c.args.step = search rules in
    omega (arith, step_is_short_lem c.args.step range, c.requires.few, c.requires.short)

longer : (old mid new : Staging) (bytes : List ℕ) → new ≡ with_staged mid → mid ≡ with_reserved mid.reserved old → mid.reserved ≡ bytes → length bytes ≤ 1002 → length new.steps ≤ length old.steps + 1002
longer old mid new bytes staged reserved is short =
    let all = ap (λ (s : Staging). length s.steps) staged in
    let same = ap (λ (s : Staging). length s.steps) reserved in
    omega (arith, all, same, ap length is, short, length-append mid.steps mid.reserved)

pub returns-in-Ok : goal.returns-in-Ok
returns-in-Ok c =
    let range : IsStepInRange c.args.step = search rules in
    let bytes : length (step_bytes c.args.step) ≤ 1002 = omega (arith, step_is_short_lem c.args.step range, c.requires.short) in
    longer c.args.store.now.staging c.reserve_step.new.self.staging c.stage.new.self.staging (step_bytes c.args.step) c.stage.ensures.staging c.in-Ok.ensures.staging
    (c.in-Ok.ensures.reserved.spelled ∙ ap (λ (s : List Change). step_bytes s) c.in-Ok.ensures.changes) bytes
