use Rattle.kms_policy.specs.Users.{HasNames}
use Rattle.kms_policy.proofs.UserLaws.{IsTaken}
use Rattle.kms_policy.proofs.acl.users_of.Given as goal

abbrev pub invariant-loop-text : goal.invariant-loop-text
invariant-loop-text l = record {
  taken : IsTaken l.texts l.names l.text-index;
  seen : HasNames l.seen l.names;
}
