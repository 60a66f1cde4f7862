-- The operations on containers.
use Rattle.std.specs.Prelude.{ℕ, Bool, true, false, not, ◌&&◌, List, [], ◌∷◌, ◌++◌, length, filter, nat_lt, Option, Some, None, option_and_then, Result, Ok, is_some}
use Rattle.std.specs.List.{list_all, list_any}
use Rattle.std.specs.Str.{bytes_eq}
use Rattle.kms_box.specs.Container.{checked_container}
use Rattle.kms_box.specs.Member.{checked_member}
use Rattle.kms_box.specs.declared.container.NewContainer.{NewContainer}
use Rattle.kms_policy.specs.Policy.{Row}
use Rattle.kms_world.specs.Effect.{ContainerPut, Deleted}
use Rattle.kms_world.specs.Id.{is_id}
use Rattle.kms_world.specs.LookUp.{container_of, acl_of}
use Rattle.kms_world.specs.State.{State}
use Rattle.kms_world.specs.declared.action.Action.{Action}
use Rattle.kms_world.specs.declared.action.Action.TheVariants.{ContainerCreate, ContainerGet, ContainerWrite, ContainerDelete}
use Rattle.kms_world.specs.declared.answer.Answer.TheVariants.{Empty, Link, Container}
use Rattle.kms_world.specs.declared.answer.ContainerView.{ContainerView}
use Rattle.kms_world.specs.declared.answer.Link.TheVariants.{Container as ContainerLink}
use Rattle.kms_world.specs.declared.body.ContainerBody.{ContainerBody}
use Rattle.kms_world.specs.declared.body.MemberBody.{MemberBody}
use Rattle.kms_world.specs.declared.caller.Caller.{Caller}
use Rattle.kms_world.specs.declared.container.ConsumerRow.{ConsumerRow}
use Rattle.kms_world.specs.declared.container.ContainerKind.{ContainerKind}
use Rattle.kms_world.specs.declared.container.ContainerKind.TheVariants.{Generic, Rsa, Certificate}
use Rattle.kms_world.specs.declared.container.ContainerRow.{ContainerRow}
use Rattle.kms_world.specs.declared.id.Id.{Id}
use Rattle.kms_world.specs.declared.quota.QuotaKind.TheVariants.{Containers}
use Rattle.kms_world.specs.declared.refusal.Field.TheVariants.{SecretRefs}
use Rattle.kms_world.specs.declared.refusal.Refusal.{Refusal}
use Rattle.kms_world.specs.declared.refusal.Refusal.TheVariants.{BadBody, NoObject, Conflict, IdsSpent}
use Rattle.kms_world.specs.declared.secret.SecretRow.{SecretRow}
use Rattle.kms_model.specs.Done.{Done, ◌>>=◌, only_if, there}
use Rattle.kms_model.specs.Permission.{granted}
use Rattle.kms_model.specs.Quotas.{within_quota}
use Rattle.kms_model.specs.Secrets.{has_id, if_passes, live_secret, next_id}

-- the container under the id in a path
abbrev pub any_container : State → Option Id → Option ContainerRow
any_container s id = option_and_then (λ i. container_of i s.containers) id

-- a container as the policy sees it: with its own access list
abbrev pub container_target : State → ContainerRow → Row
container_target s row = record { project = row.project; creator = row.creator; acl = acl_of row.id s.acls }

-- the container, if there is one, and then if the policy grants the action on it
abbrev pub container_for : State → Caller → Action → Option ContainerRow → Result ContainerRow Refusal
container_for s caller action found = do
  row ← there found
  may ← granted caller action (Some (container_target s row))
  Ok row

-- the consumers of a container
abbrev pub consumers_of : Id → State → List ConsumerRow
consumers_of id s = filter (λ r. is_id id r.container) s.consumers

-- a container as it is shown
abbrev pub view_of : State → ContainerRow → ContainerView
view_of s row = record { row = row; consumers = consumers_of row.id s }

-- the secret that a member names is there, and the caller's project's
abbrev pub is_usable : State → Caller → ℕ → Option (List ℕ) × Id → Bool
is_usable s caller t member = is_some (if_passes (λ (r : SecretRow). bytes_eq r.project caller.project) (live_secret s (Some member.1) t))

-- a new container of the caller
abbrev pub new_container : State → Caller → NewContainer → ℕ → ContainerRow
new_container s caller new t = record {
  id = next_id s;
  project = caller.project;
  creator = caller.user;
  created = t;
  updated = t;
  name = new.name;
  kind = new.kind;
  secrets = new.secrets;
}

-- a container with other members
abbrev pub with_members : List (Option (List ℕ) × Id) → ℕ → ContainerRow → ContainerRow
with_members members t row = record row { updated = t; secrets = members }

-- only a generic container gets members, and loses them
abbrev pub is_generic : ContainerKind → Bool
is_generic Generic = true
is_generic Rsa = false
is_generic Certificate = false

-- equal texts, or none and none
abbrev pub same_text : Option (List ℕ) → Option (List ℕ) → Bool
same_text None None = true
same_text None (Some b) = false
same_text (Some a) None = false
same_text (Some a) (Some b) = bytes_eq a b

abbrev pub is_member : Option (List ℕ) × Id → Option (List ℕ) × Id → Bool
is_member member other = same_text member.0 other.0 && is_id member.1 other.1

abbrev pub names_secret : Id → Option (List ℕ) × Id → Bool
names_secret id member = is_id id member.1

-- the container that a body asks for, of a caller who may make one; the secrets that it names are there
abbrev pub container_wanted : State → Caller → Result ContainerBody Refusal → ℕ → Result NewContainer Refusal
container_wanted s caller body t = do
  may ← granted caller ContainerCreate None
  given ← body
  new ← checked_container given
  usable ← only_if (list_all (is_usable s caller t) new.secrets) NoObject
  Ok new

-- POST of a container
abbrev pub container_posted : State → Caller → Result ContainerBody Refusal → ℕ → Result Done Refusal
container_posted s caller body t = do
  new ← container_wanted s caller body t
  room ← within_quota s caller.project Containers
  left ← only_if (has_id s) IdsSpent
  Ok (record { answer = Link 201 ContainerLink (next_id s); effects = ContainerPut (new_container s caller new t) ∷ [] })

-- GET of a container, with its consumers
abbrev pub container_shown : State → Caller → Option Id → Result Done Refusal
container_shown s caller id = do
  row ← container_for s caller ContainerGet (any_container s id)
  Ok (record { answer = Container (view_of s row); effects = [] })

-- DELETE of a container, with all that hangs on it
abbrev pub container_deleted : State → Caller → Option Id → Result Done Refusal
container_deleted s caller id = do
  row ← container_for s caller ContainerDelete (any_container s id)
  Ok (record { answer = Empty 204; effects = Deleted row.id ∷ [] })

-- the container takes one member more: it has fewer than 100, the secret is there and the caller's project's, the container is
-- generic, and it doesn't name this secret yet
abbrev pub takes_member : State → Caller → ContainerRow → Option (List ℕ) × Id → ℕ → Result (Unit {0}) Refusal
takes_member s caller row member t = do
  few ← only_if (nat_lt (length row.secrets) 100) (BadBody SecretRefs)
  usable ← only_if (is_usable s caller t member) NoObject
  generic ← only_if (is_generic row.kind) Conflict
  only_if (not (list_any (names_secret member.1) row.secrets)) Conflict

-- the container gives this member up: it has it, and is generic
abbrev pub gives_up_member : ContainerRow → Option (List ℕ) × Id → Result (Unit {0}) Refusal
gives_up_member row member = do
  among ← only_if (list_any (is_member member) row.secrets) NoObject
  only_if (is_generic row.kind) Conflict

-- the members but for this one
abbrev pub members_without : Option (List ℕ) × Id → List (Option (List ℕ) × Id) → List (Option (List ℕ) × Id)
members_without member members = filter (λ m. not (is_member member m)) members

-- POST of a member
abbrev pub member_posted : State → Caller → Option Id → Result MemberBody Refusal → ℕ → Result Done Refusal
member_posted s caller id body t = do
  row ← container_for s caller ContainerWrite (any_container s id)
  given ← body
  member ← checked_member given
  takes ← takes_member s caller row member t
  Ok (record { answer = Link 201 ContainerLink row.id; effects = ContainerPut (with_members (row.secrets ++ member ∷ []) t row) ∷ [] })

-- DELETE of a member
abbrev pub member_deleted : State → Caller → Option Id → Result MemberBody Refusal → ℕ → Result Done Refusal
member_deleted s caller id body t = do
  row ← container_for s caller ContainerWrite (any_container s id)
  given ← body
  member ← checked_member given
  gives ← gives_up_member row member
  Ok (record { answer = Empty 204; effects = ContainerPut (with_members (members_without member row.secrets) t row) ∷ [] })
