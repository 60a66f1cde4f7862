-- What follows from the rules of the policy.
use Rattle.std.proofs.Common.{◌≡◌, ℕ, Bool, true, false, not, ◌&&◌, ◌||◌, List, Option, Some, None, Result, Ok, Err, if◌then◌else◌, is_ok, IsErr, refl, sym, subst, true≢false}
use Rattle.kms_world.specs.declared.acl.AclRow.{AclRow}
use Rattle.kms_world.specs.declared.action.Action.{Action}
use Rattle.kms_world.specs.declared.action.Action.TheVariants.{SecretDecrypt, QuotaAdmin}
use Rattle.kms_world.specs.declared.action.Rule.{Rule}
use Rattle.kms_world.specs.declared.action.Why.TheVariants.{Project, Role, Private}
use Rattle.kms_world.specs.declared.caller.Caller.{Caller}
use Rattle.kms_world.specs.declared.caller.Roles.{Roles}
use Rattle.kms_policy.specs.Policy.{Row, rule, decision, entry_of, is_listed, is_elsewhere, is_made_by, is_private, has_project_access, share_role}
use Rattle.kms_policy.specs.Laws.{IgnoresList, no_role, audit_alone, with_users}

-- the rules in their order, of what each asks
abbrev pub first : (listed elsewhere admin owner served shut : Bool) → Action → Result (Unit {0}) Rule
first listed elsewhere admin owner served shut action =
    if listed then Ok tt else
    if elsewhere then Err (rule action Project) else
    if admin then Ok tt else
    if owner then Ok tt else
    if not served then Err (rule action Role) else
    if shut then Err (rule action Private) else
    Ok tt

unserved : (l e s : Bool) (a : Action) → l ≡ false → IsErr (first l e false false false s a)
unserved true e s a h = absurd (true≢false h)
unserved false true s a h = refl
unserved false false s a h = refl

unserved_role : (serves l e owner made s : Bool) (a : Action) → l ≡ false → IsErr (first (serves && l) e false (owner && false && made) false s a)
unserved_role true l e true made s a h = unserved l e s a h
unserved_role true l e false made s a h = unserved l e s a h
unserved_role false l e true made s a h = unserved false e s a refl
unserved_role false l e false made s a h = unserved false e s a refl

no_role_grants : (project user : List ℕ) (action : Action) (row : Option Row) → is_listed row user ≡ false → IsErr (decision (record { project = project; user = user; roles = no_role }) action row)
unfolding decision
no_role_grants project user action row h =
    unserved_role (entry_of action).list_serves (is_listed row user) (is_elsewhere row project)
    (entry_of action).owner_serves (is_made_by row user) (is_private row) action h

pub without_a_role : (caller : Caller) (action : Action) (row : Option Row) → caller.roles ≡ no_role → is_listed row caller.user ≡ false → IsErr (decision caller action row)
without_a_role caller action row roles h =
    subst (λ (r : Roles). IsErr (decision (record { project = caller.project; user = caller.user; roles = r }) action row)) (sym roles) (no_role_grants caller.project caller.user action row h)

audit_decrypts : (project user : List ℕ) (row : Option Row) → is_listed row user ≡ false → IsErr (decision (record { project = project; user = user; roles = audit_alone }) SecretDecrypt row)
unfolding decision
audit_decrypts project user row h = unserved (is_listed row user) (is_elsewhere row project) (is_private row) SecretDecrypt h

pub audit_without_payload : (caller : Caller) (row : Option Row) → caller.roles ≡ audit_alone → is_listed row caller.user ≡ false → IsErr (decision caller SecretDecrypt row)
audit_without_payload caller row roles h =
    subst (λ (r : Roles). IsErr (decision (record { project = caller.project; user = caller.user; roles = r }) SecretDecrypt row)) (sym roles) (audit_decrypts caller.project caller.user row h)

payload : (l e a c m s access : Bool) → access ≡ false → is_ok (first l e (a && true) (c && m) s (not access) SecretDecrypt) ≡ (l || (not e && (a || (c && m))))
payload true e a c m s access h = refl
payload false true a c m s access h = refl
payload false false true c m s access h = refl
payload false false false true true s access h = refl
payload false false false true false false access h = refl
payload false false false true false true true h = absurd (true≢false h)
payload false false false true false true false h = refl
payload false false false false m false access h = refl
payload false false false false m true true h = absurd (true≢false h)
payload false false false false m true false h = refl

pub few_get_a_payload : (caller : Caller) (row : Row) → has_project_access row.acl ≡ false → is_ok (decision caller SecretDecrypt (Some row)) ≡ (is_listed (Some row) caller.user || (not (is_elsewhere (Some row) caller.project) && (caller.roles.admin || (caller.roles.creator && is_made_by (Some row) caller.user))))
unfolding decision
few_get_a_payload caller row h =
    payload (is_listed (Some row) caller.user) (is_elsewhere (Some row) caller.project) caller.roles.admin caller.roles.creator
    (is_made_by (Some row) caller.user) (share_role caller.roles (entry_of SecretDecrypt).roles) (has_project_access row.acl) h

away : (l e a o s p : Bool) (action : Action) → e ≡ true → is_ok (first l e a o s p action) ≡ l
away true e a o s p action h = refl
away false true a o s p action h = refl
away false false a o s p action h = absurd (true≢false (sym h))

pub elsewhere_by_list : (caller : Caller) (action : Action) (row : Option Row) → is_elsewhere row caller.project ≡ true → is_ok (decision caller action row) ≡ ((entry_of action).list_serves && is_listed row caller.user)
unfolding decision
elsewhere_by_list caller action row h =
    away ((entry_of action).list_serves && is_listed row caller.user) (is_elsewhere row caller.project)
    (caller.roles.admin && (entry_of action).roles.admin)
    ((entry_of action).owner_serves && caller.roles.creator && is_made_by row caller.user)
    (share_role caller.roles (entry_of action).roles) (is_private row) action h

nobody : (b : Bool) → (b && false) ≡ false
nobody true = refl
nobody false = refl

last : (s : Bool) → is_ok (first false false false false (s && true) false QuotaAdmin) ≡ s
last true = refl
last false = refl

service : (a c o u s : Bool) → is_ok (first false false (a && false) false ((a && false) || (c && false) || (o && false) || (u && false) || (s && true)) false QuotaAdmin) ≡ s
service a c o u s = rw (nobody a, nobody c, nobody o, nobody u) (last s)

pub quotas_by_service_admins : (caller : Caller) → is_ok (decision caller QuotaAdmin None) ≡ caller.roles.service_admin
unfolding decision
quotas_by_service_admins caller = service caller.roles.admin caller.roles.creator caller.roles.observer caller.roles.audit caller.roles.service_admin

-- the decision on a row doesn't depend on who is on its list, for an action that the list doesn't serve
unlisted : (caller : Caller) (action : Action) → (entry_of action).list_serves ≡ false → (project creator : List ℕ) (acl : Option AclRow) (users : List (List ℕ)) → (let row : Row = record { project = project; creator = creator; acl = acl } in decision caller action (Some (with_users row users)) ≡ decision caller action (Some row))
unfolding decision
unlisted caller action h project creator None users = refl
unlisted caller action h project creator (Some acl) users = rw h refl

pub ignores_list : (caller : Caller) (action : Action) → (entry_of action).list_serves ≡ false → IgnoresList caller action
ignores_list caller action h = λ row users. unlisted caller action h row.project row.creator row.acl users
