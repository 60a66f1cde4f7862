-- What follows for a secret that is posted, for one that is found, and for who may.
use Rattle.std.proofs.Common.{◌≡◌, ℕ, ◌^◌, ◌<◌, ◌+◌, ◌==◌, Bool, true, false, List, [], ◌∷◌, ◌++◌, Option, Some, None, Result, Ok, Err, cond, refl, ap, subst, arith}
use Rattle.std.specs.Prelude.{find}
use Rattle.std.specs.List.{AllByRecursion}
use Rattle.std.proofs.lemmas.Bool.{ltb-true, eqb-true}
use Rattle.kms_policy.specs.Policy.{decision}
use Rattle.kms_secret.specs.Secret.{checked_secret}
use Rattle.kms_secret.specs.declared.secret.NewSecret.{NewSecret}
use Rattle.kms_world.specs.Effect.{after_effects, ids_with, with_payload}
use Rattle.kms_world.specs.Id.{is_id}
use Rattle.kms_world.specs.LookUp.{secret_of}
use Rattle.kms_world.specs.State.{State}
use Rattle.kms_world.specs.declared.action.Action.{Action}
use Rattle.kms_world.specs.declared.action.Action.TheVariants.{SecretCreate}
use Rattle.kms_world.specs.declared.action.Rule.{Rule}
use Rattle.kms_world.specs.declared.body.SecretBody.{SecretBody}
use Rattle.kms_world.specs.declared.caller.Caller.{Caller}
use Rattle.kms_world.specs.declared.id.Id.{Id}
use Rattle.kms_world.specs.declared.payload.Payload.{Payload}
use Rattle.kms_world.specs.declared.quota.QuotaKind.TheVariants.{Secrets}
use Rattle.kms_world.specs.declared.refusal.Refusal.{Refusal}
use Rattle.kms_world.specs.declared.refusal.Refusal.TheVariants.{Denied}
use Rattle.kms_world.specs.declared.secret.SecretRow.{SecretRow}
use Rattle.kms_model.specs.Done.{Done, ◌>>=◌, only_if}
use Rattle.kms_model.specs.Payloads.{with_any_payload}
use Rattle.kms_model.specs.Permission.{granted}
use Rattle.kms_model.specs.Quotas.{within_quota}
use Rattle.kms_model.specs.Secrets.{has_id, if_passes, is_live, live_secret, new_secret, next_id, posted, posted_effects, secret_for, secret_target, wanted}
use Rattle.kms_model.proofs.PayloadReading.{last_changed, same_id}

-- ---- tests in a row that gave

pub gave : {A B : Type 0} (r : Result A Refusal) (f : A → Result B Refusal) (y : B) → (r >>= f) ≡ Ok y → (x : A) × (r ≡ Ok x) × (f x ≡ Ok y)
gave (Ok x) f y e = (x, refl, e)
gave (Err refusal) f y e = absurd cc

pub held : (b : Bool) (refusal : Refusal) (x : Unit {0}) → only_if b refusal ≡ Ok x → b ≡ true
held true refusal x e = refl
held false refusal x e = absurd cc

some_same : {X : Type 0} (x y : X) → Some x ≡ Some y → x ≡ y
some_same x y is = cc

-- ---- secrets that are found

passes_here : {X : Type 0} (test : X → Bool) (b : Bool) (x y : X) (other : Option X) → test x ≡ b → cond b (Some x) other ≡ Some y → (other ≡ Some y → test y ≡ true) → test y ≡ true
passes_here test true x y other is e there = subst (λ z. test z ≡ true) (some_same x y e) is
passes_here test false x y other is e there = there e

pub found_passes : {X : Type 0} (test : X → Bool) (xs : List X) (x : X) → find test xs ≡ Some x → test x ≡ true
found_passes test [] x is = absurd cc
found_passes test (y ∷ ys) x is = passes_here test (test y) y x (find test ys) refl is (found_passes test ys x)

-- what is found passed its test
pub record IsThere {X : Type 0} (test : X → Bool) (there : Option X) (x : X) : Type 0 where
  pub found : there ≡ Some x
  pub passed : test x ≡ true

kept_here : {X : Type 0} (test : X → Bool) (b : Bool) (x y : X) → test x ≡ b → cond b (Some x) None ≡ Some y → IsThere test (Some x) y
kept_here test true x y is e = record { found = e; passed = subst (λ z. test z ≡ true) (some_same x y e) is }
kept_here test false x y is e = absurd cc

pub there_passed : {X : Type 0} (test : X → Bool) (found : Option X) (x : X) → if_passes test found ≡ Some x → IsThere test found x
there_passed test None x is = absurd cc
there_passed test (Some y) x is = kept_here test (test y) y x refl is

pub one_id : (a b : Id) → is_id a b ≡ true → b ≡ a
one_id a b is = ap (λ (n : ℕ). let i : Id = record { 0 = n } in i) (eqb-true b.0 a.0 is)

pub record IsFoundLive (id : Id) (t : ℕ) (row : SecretRow) : Type 0 where
  pub named : row.id ≡ id
  pub live : is_live t row.expiration ≡ true

pub found_live : (s : State) (id : Id) (t : ℕ) (row : SecretRow) → live_secret s (Some id) t ≡ Some row → IsFoundLive id t row
found_live s id t row is =
    let there = there_passed (λ (r : SecretRow). is_live t r.expiration) (secret_of id s.secrets) row is in
    record {
      named = one_id id row.id (found_passes (λ (r : SecretRow). is_id id r.id) s.secrets row there.found);
      live = there.passed;
    }

pub not_expired : (t : ℕ) (expiration : Option ℕ) (at : ℕ) → is_live t expiration ≡ true → expiration ≡ Some at → t < at
not_expired t expiration at live is = ltb-true t at (subst (λ (e : Option ℕ). is_live t e ≡ true) is live)

-- ---- who may

pub denied : (s : State) (caller : Caller) (action : Action) (row : SecretRow) (rule : Rule) → decision caller action (Some (secret_target s row)) ≡ Err rule → secret_for s caller action (Some row) ≡ Err (Denied rule)
denied s caller action row rule is = rw is refl

pub is_granted : (s : State) (caller : Caller) (action : Action) (row : SecretRow) → decision caller action (Some (secret_target s row)) ≡ Ok tt → secret_for s caller action (Some row) ≡ Ok row
is_granted s caller action row is = rw is refl

-- ---- a secret that is posted

eqb_same : (n : ℕ) → (n == n) ≡ true
eqb_same n = grind arith

pub next_given : (s : State) → ids_with (next_id s) s ≡ s.ids + 1
next_given s = rw (eqb_same (next_id s).0) refl

-- no secret has the next id yet
abbrev pub IsNextApart : State → Type 0
IsNextApart s = AllByRecursion (λ (other : SecretRow). is_id (next_id s) other.id ≡ false) s.secrets

pub record IsPosted (s : State) (caller : Caller) (body : SecretBody) (t : ℕ) (done : Done) : Type 0 where
  pub new : NewSecret
  pub checked : checked_secret body t ≡ Ok new
  pub left : s.ids < 2 ^ 62
  pub ids : (after_effects done.effects s).ids ≡ s.ids + 1
  pub last : IsNextApart s → (after_effects done.effects s).secrets ≡ s.secrets ++ with_any_payload t new.payload (new_secret s caller new t) ∷ []

pub done_same : (d e : Done) → (let x : Result Done Refusal = Ok d in let y : Result Done Refusal = Ok e in x ≡ y) → d ≡ e
done_same d e is = cc

ids_after : (s : State) (caller : Caller) (new : NewSecret) (t : ℕ) (payload : Option Payload) → (after_effects (posted_effects (new_secret s caller new t) t payload) s).ids ≡ s.ids + 1
ids_after s caller new t None = next_given s
ids_after s caller new t (Some payload) = next_given s

last_after : (s : State) (caller : Caller) (new : NewSecret) (t : ℕ) (payload : Option Payload) → IsNextApart s
    → (after_effects (posted_effects (new_secret s caller new t) t payload) s).secrets ≡ s.secrets ++ with_any_payload t payload (new_secret s caller new t) ∷ []
last_after s caller new t None apart = refl
last_after s caller new t (Some payload) apart =
    let row = new_secret s caller new t in last_changed row.id (with_payload t payload) row s.secrets (same_id row.id) apart

pub is_posted : (s : State) (caller : Caller) (body : SecretBody) (t : ℕ) (done : Done) → posted s caller (Ok body) t ≡ Ok done → IsPosted s caller body t done
is_posted s caller body t done is =
    let w = gave (wanted caller (Ok body) t) _ done is in
    let a = gave (granted caller SecretCreate None) _ w.0 w.1 in
    let r = gave (within_quota s caller.project Secrets) _ done w.2 in
    let d = gave (only_if (has_id s) _) _ done r.2 in
    let same = done_same _ done d.2 in
    record {
      new = w.0;
      checked = a.2;
      left = ltb-true s.ids (2 ^ 62) (held (has_id s) _ d.0 d.1);
      ids = subst (λ (x : Done). (after_effects x.effects s).ids ≡ s.ids + 1) same (ids_after s caller w.0 t w.0.payload);
      last = λ apart.
          subst (λ (x : Done). (after_effects x.effects s).secrets ≡ s.secrets ++ with_any_payload t w.0.payload (new_secret s caller w.0 t) ∷ []) same
          (last_after s caller w.0 t w.0.payload apart);
    }
