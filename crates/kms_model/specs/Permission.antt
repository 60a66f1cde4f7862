-- Who may do what: the decision of the policy, as a test of an operation.
use Rattle.std.specs.Prelude.{Bool, Option, Result, Ok, Err, is_ok}
use Rattle.kms_policy.specs.Policy.{Row, decision}
use Rattle.kms_world.specs.declared.action.Action.{Action}
use Rattle.kms_world.specs.declared.action.Rule.{Rule}
use Rattle.kms_world.specs.declared.caller.Caller.{Caller}
use Rattle.kms_world.specs.declared.refusal.Refusal.{Refusal}
use Rattle.kms_world.specs.declared.refusal.Refusal.TheVariants.{Denied}

abbrev pub granted_by : Result (Unit {0}) Rule → Result (Unit {0}) Refusal
granted_by (Ok may) = Ok tt
granted_by (Err rule) = Err (Denied rule)

-- it goes on only where the policy grants the action on the row, None where it is about no row
abbrev pub granted : Caller → Action → Option Row → Result (Unit {0}) Refusal
granted caller action row = granted_by (decision caller action row)

-- the policy grants the action on the row
abbrev pub may : Caller → Action → Option Row → Bool
may caller action row = is_ok (decision caller action row)
