-- The operations on access lists, of secrets and of containers.
use Rattle.std.specs.Prelude.{ℕ, true, List, [], ◌∷◌, Option, Some, None, Result, Ok}
use Rattle.std.specs.Option.{unwrap_or}
use Rattle.kms_policy.specs.Acl.{change_of}
use Rattle.kms_policy.specs.Policy.{users_listed, has_project_access}
use Rattle.kms_policy.specs.declared.acl.AclChange.{AclChange}
use Rattle.kms_world.specs.Effect.{Effect, AclPut, AclDropped}
use Rattle.kms_world.specs.LookUp.{acl_of}
use Rattle.kms_world.specs.State.{State}
use Rattle.kms_world.specs.declared.acl.AclRow.{AclRow}
use Rattle.kms_world.specs.declared.action.Action.{Action}
use Rattle.kms_world.specs.declared.action.Action.TheVariants.{AclGet, AclWrite}
use Rattle.kms_world.specs.declared.answer.Answer.TheVariants.{Empty, Link, Acl}
use Rattle.kms_world.specs.declared.answer.Link.{Link as LinkKind}
use Rattle.kms_world.specs.declared.answer.Link.TheVariants.{SecretAcl, ContainerAcl}
use Rattle.kms_world.specs.declared.body.AclBody.{AclBody}
use Rattle.kms_world.specs.declared.caller.Caller.{Caller}
use Rattle.kms_world.specs.declared.id.Id.{Id}
use Rattle.kms_world.specs.declared.operation.AclKind.{AclKind}
use Rattle.kms_world.specs.declared.operation.AclKind.TheVariants.{Secret, Container}
use Rattle.kms_world.specs.declared.refusal.Refusal.{Refusal}
use Rattle.kms_model.specs.Containers.{any_container, container_for}
use Rattle.kms_model.specs.Done.{Done, ◌>>=◌}
use Rattle.kms_model.specs.Secrets.{live_secret, secret_for}

-- what the access list is of: a secret or a container that is there, if the policy grants the action on it
abbrev pub target_for : State → Caller → Action → AclKind → Option Id → ℕ → Result Id Refusal
target_for s caller action Secret id t = do
  row ← secret_for s caller action (live_secret s id t)
  Ok row.id
target_for s caller action Container id t = do
  row ← container_for s caller action (any_container s id)
  Ok row.id

abbrev pub link_of : AclKind → LinkKind
link_of Secret = SecretAcl
link_of Container = ContainerAcl

-- it was made when it first was put
abbrev pub created_by : Option AclRow → ℕ → ℕ
created_by None t = t
created_by (Some acl) t = acl.created

-- the whole list anew: what the body doesn't say is nobody, and access for the project
abbrev pub list_put : (target : Id) → (old : Option AclRow) → AclChange → ℕ → AclRow
list_put target old change t = record {
  target = target;
  project_access = unwrap_or change.project_access true;
  users = unwrap_or change.users [];
  created = created_by old t;
  updated = t;
}

-- what the body doesn't say stays as it is
abbrev pub list_patched : (target : Id) → (old : Option AclRow) → AclChange → ℕ → AclRow
list_patched target old change t = record {
  target = target;
  project_access = unwrap_or change.project_access (has_project_access old);
  users = unwrap_or change.users (users_listed old);
  created = created_by old t;
  updated = t;
}

-- GET of an access list, None where there is none
abbrev pub acl_shown : State → Caller → AclKind → Option Id → ℕ → Result Done Refusal
acl_shown s caller kind id t = do
  target ← target_for s caller AclGet kind id t
  Ok (record { answer = Acl (acl_of target s.acls); effects = [] })

-- PUT of an access list
abbrev pub acl_put : State → Caller → AclKind → Option Id → Result AclBody Refusal → ℕ → Result Done Refusal
acl_put s caller kind id body t = do
  target ← target_for s caller AclWrite kind id t
  given ← body
  change ← change_of given
  Ok (record { answer = Link 200 (link_of kind) target; effects = AclPut (list_put target (acl_of target s.acls) change t) ∷ [] })

-- PATCH of an access list
abbrev pub acl_patched : State → Caller → AclKind → Option Id → Result AclBody Refusal → ℕ → Result Done Refusal
acl_patched s caller kind id body t = do
  target ← target_for s caller AclWrite kind id t
  given ← body
  change ← change_of given
  Ok (record { answer = Link 200 (link_of kind) target; effects = AclPut (list_patched target (acl_of target s.acls) change t) ∷ [] })

-- an access list that is there goes
abbrev pub list_dropped : (target : Id) → Option AclRow → List Effect
list_dropped target None = []
list_dropped target (Some acl) = AclDropped target ∷ []

-- DELETE of an access list; of none it does nothing
abbrev pub acl_deleted : State → Caller → AclKind → Option Id → ℕ → Result Done Refusal
acl_deleted s caller kind id t = do
  target ← target_for s caller AclWrite kind id t
  Ok (record { answer = Empty 200; effects = list_dropped target (acl_of target s.acls) })
