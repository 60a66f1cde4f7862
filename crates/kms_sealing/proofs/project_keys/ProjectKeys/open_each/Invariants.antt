use Rattle.std.proofs.Common.{take}
use Rattle.std.specs.List.{AllByRecursion}
use Rattle.kms_sealing.specs.Opening.{PayloadOpens}
use Rattle.kms_sealing.proofs.project_keys.ProjectKeys.open_each.Given as goal

-- the payloads so far open
abbrev pub invariant-loop-secret : goal.invariant-loop-secret
invariant-loop-secret l = AllByRecursion (PayloadOpens l.self.masters l.tables.kept.keys) (take l.secret-index l.secret-items)
