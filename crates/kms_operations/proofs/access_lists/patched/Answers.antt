use Rattle.kms_operations.proofs.AclLaws.{patch_fits}
use Rattle.kms_operations.proofs.FoundLaws.{acl_if_any}
use Rattle.kms_operations.proofs.access_lists.patched.Goals as goal

pub returns-clause-possible : goal.returns-clause-possible
returns-clause-possible c = record {
  times = tt;
  change = patch_fits _ _ _ c.in_ok-body.body c.in_ok-change.change _ _ c.in_ok-target.ensures.kept (acl_if_any _ _ _ c.acl.ensures.sound c.acl.ensures.found) c.in_ok-change.ensures c.requires.time c.in_ok-put.ensures;
}
