use Rattle.std.proofs.Common.{refl}
use Rattle.kms_world.specs.declared.action.Action.TheVariants.{SecretWrite, SecretDelete, ContainerWrite, ContainerDelete, AclGet, AclWrite}
use Rattle.kms_policy.proofs.PolicyLaws.{ignores_list}
use Rattle.kms_policy.proofs.laws.the_access_list_never_admits_to.Goals as goal

pub returns : goal.returns
returns c = record {
  secret_write = ignores_list c.args.caller.now SecretWrite refl;
  secret_delete = ignores_list c.args.caller.now SecretDelete refl;
  container_write = ignores_list c.args.caller.now ContainerWrite refl;
  container_delete = ignores_list c.args.caller.now ContainerDelete refl;
  acl_get = ignores_list c.args.caller.now AclGet refl;
  acl_write = ignores_list c.args.caller.now AclWrite refl;
}
