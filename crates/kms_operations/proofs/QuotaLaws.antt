-- Quotas as they are kept, counted and put.
use Rattle.std.proofs.Common.{◌≡◌, ℕ, Bool, true, false, List, [], ◌∷◌, length, Option, Some, None, Result, Ok, Err, cond, refl, sym, ap, subst, ◌∙◌, arith, not}
use Rattle.std.specs.Prelude.{IfSome, filter, option_map, is_some, ℤ, pos, negsuc}
use Rattle.std.specs.Str.{bytes_eq}
use Rattle.std.proofs.lemmas.Bool.{and_parts, le-leb, leb-true}
use Rattle.kms_kept.specs.Kept.{Kept, has}
use Rattle.kms_kept.specs.OfGrammar.{IsQuota}
use Rattle.kms_kept.specs.Sound.{IsSound}
use Rattle.kms_model.specs.Counts.{count_of, is_in}
use Rattle.kms_model.specs.Done.{there}
use Rattle.kms_model.specs.Quotas.{row_with}
use Rattle.kms_policy.specs.Limits.{is_limit, limits_by, limits_of}
use Rattle.kms_policy.specs.Quota.{HasLimits}
use Rattle.kms_policy.specs.declared.limits.Limits.{Limits}
use Rattle.kms_record.specs.Base.{limit_of}
use Rattle.kms_record.specs.ChangeEffect.{limit_value}
use Rattle.kms_record.specs.Quota.{IsLimitInRange, IsQuotaPutInRange}
use Rattle.kms_record.specs.declared.change.Change.TheVariants.{QuotaPut}
use Rattle.kms_record.specs.declared.quota.QuotaLimits.{QuotaLimits}
use Rattle.kms_record.specs.declared.quota.QuotaPut as put_type
use Rattle.kms_store.specs.Counts.{count_of as stored_count}
use Rattle.kms_world.specs.Checked.{IsUnlessNoMemory, checked}
use Rattle.kms_world.specs.LookUp.{container_of, quota_of}
use Rattle.kms_world.specs.State.{State}
use Rattle.kms_world.specs.declared.body.QuotaBody.{QuotaBody}
use Rattle.kms_world.specs.declared.body.QuotaValues.{QuotaValues}
use Rattle.kms_world.specs.declared.container.ConsumerRow.{ConsumerRow}
use Rattle.kms_world.specs.declared.container.ContainerRow.{ContainerRow}
use Rattle.kms_world.specs.declared.quota.QuotaKind.{QuotaKind}
use Rattle.kms_world.specs.declared.quota.QuotaKind.TheVariants.{Secrets, Orders, Containers, Consumers}
use Rattle.kms_world.specs.declared.quota.QuotaRow.{QuotaRow}
use Rattle.kms_world.specs.declared.refusal.CheckFault.{CheckFault}
use Rattle.kms_world.specs.declared.refusal.Refusal.{Refusal}
use Rattle.kms_operations.specs.Outcome.{Fits}
use Rattle.kms_operations.proofs.FoundLaws.{found_any, found_is}

-- ---- counts

same_filter : {X : Type 0} (f g : X → Bool) → ((x : X) → f x ≡ g x) → (xs : List X) → filter f xs ≡ filter g xs
same_filter f g same [] = refl
same_filter f g same (x ∷ xs) = ap (λ (b : Bool). cond b (x ∷ filter f xs) (filter f xs)) (same x) ∙ ap (λ ys. cond (g x) (x ∷ ys) ys) (same_filter f g same xs)

in_project : (project : List ℕ) (found : Option ContainerRow) → has found (λ (c : ContainerRow). bytes_eq project c.project) ≡ is_in project found
in_project project None = refl
in_project project (Some row) = refl

pub counted : (kind : QuotaKind) (project : List ℕ) (s : State) → stored_count kind project s ≡ count_of kind project s
counted Secrets project s = refl
counted Orders project s = refl
counted Containers project s = refl
counted Consumers project s =
    ap length (same_filter (λ (r : ConsumerRow). has (container_of r.container s.containers) (λ (c : ContainerRow). bytes_eq project c.project))
    (λ (r : ConsumerRow). is_in project (container_of r.container s.containers)) (λ r. in_project project (container_of r.container s.containers)) s.consumers)

-- ---- limits

kept_limit : (value : Option ℤ) → option_map limit_value (option_map limit_of value) ≡ value → IsLimitInRange (option_map limit_of value) → is_limit value ≡ true
kept_limit None back range = refl
kept_limit (Some (pos n)) back range = le-leb n 1000000000 range
kept_limit (Some (negsuc n)) back range = subst (λ (v : Option ℤ). is_limit v ≡ true) back refl

has_limits : (row : QuotaRow) → IsQuota row → HasLimits row
has_limits row is =
    let range = is.grammar.0.limits in
    record {
      secrets = kept_limit row.secrets (ap (λ (r : QuotaRow). r.secrets) is.put) range.secrets;
      orders = kept_limit row.orders (ap (λ (r : QuotaRow). r.orders) is.put) range.orders;
      containers = kept_limit row.containers (ap (λ (r : QuotaRow). r.containers) is.put) range.containers;
      consumers = kept_limit row.consumers (ap (λ (r : QuotaRow). r.consumers) is.put) range.consumers;
    }

pub limits_if_any : (kept : Kept) (project : List ℕ) (found : Option QuotaRow) → IsSound kept → found ≡ quota_of project kept.state.quotas → IfSome found HasLimits
limits_if_any kept project None sound is = tt
limits_if_any kept project (Some row) sound is =
    has_limits row (subst (λ (x : Option QuotaRow). IfSome x IsQuota) (sym is) (found_is IsQuota (λ (r : QuotaRow). bytes_eq project r.project) kept.state.quotas sound.grammar.quotas))

-- a limit is recorded as itself
pub limit_back : (value : Option ℤ) → is_limit value ≡ true → option_map limit_value (option_map limit_of value) ≡ value
limit_back None is = refl
limit_back (Some (pos n)) is = refl
limit_back (Some (negsuc n)) is =
    let none : n ≡ 0 = omega (arith, leb-true n 0 (and_parts _ _ is).0) in
    subst (λ (m : ℕ). let a : Option ℤ = Some (negsuc 0) in let b : Option ℤ = Some (negsuc m) in a ≡ b) (sym none) refl

pub limit_fits : (value : Option ℤ) → is_limit value ≡ true → IsLimitInRange (option_map limit_of value)
limit_fits None is = tt
limit_fits (Some (pos n)) is = leb-true n 1000000000 is
limit_fits (Some (negsuc n)) is = tt

-- ---- changes

pub set_fits : (kept : Kept) (put : put_type.QuotaPut) → IsQuotaPutInRange put → is_some put.limits ≡ true → Fits kept (QuotaPut put)
set_fits kept put range some = by put.limits refl some
  where
    by : (limits : Option QuotaLimits) → put.limits ≡ limits → is_some limits ≡ true → Fits kept (QuotaPut put)
    by None is e = absurd cc
    by (Some limits) is e = record { range = range; rows = refl; applies = rw is refl }

pub quota_drop_fits : (kept : Kept) (project : List ℕ) (put : put_type.QuotaPut) (row : QuotaRow) → IsQuotaPutInRange put → put ≡ record { project = project; limits = None } → quota_of project kept.state.quotas ≡ Some row → Fits kept (QuotaPut put)
quota_drop_fits kept project put row range is found = record {
  range = range;
  rows = refl;
  applies = rw is (found_any (λ (r : QuotaRow). bytes_eq project r.project) kept.state.quotas row found);
}

-- ---- limits that a body sets

chosen : (b : Bool) (refusal : Refusal) (r : Result Limits Refusal) (limits : Limits) → cond (not b) (Err refusal) r ≡ Ok limits → (b ≡ true) × (r ≡ Ok limits)
chosen true refusal r limits e = (refl, e)
chosen false refusal r limits e = absurd cc

limits_same : (a b : Limits) → (let x : Result Limits Refusal = Ok a in let y : Result Limits Refusal = Ok b in x ≡ y) → a ≡ b
limits_same a b e = cc

pub limits_checked : (project : List ℕ) (body : QuotaBody) (limits : Limits) → limits_of body ≡ Ok limits → HasLimits (row_with project limits)
limits_checked project body limits is = by body.project_quotas is
  where
    by : (values : Option QuotaValues) → limits_by values ≡ Ok limits → HasLimits (row_with project limits)
    by None e = absurd cc
    by (Some values) e =
        let a = chosen (is_limit values.secrets) _ _ limits e in
        let b = chosen (is_limit values.orders) _ _ limits a.1 in
        let c = chosen (is_limit values.containers) _ _ limits b.1 in
        let d = chosen (is_limit values.consumers) _ _ limits c.1 in
        subst (λ (l : Limits). HasLimits (row_with project l)) (limits_same _ limits d.1) (record { secrets = a.0; orders = b.0; containers = c.0; consumers = d.0 })

-- ---- a check that takes no memory

pub checked_is : (result : Result Limits CheckFault) (limits : Result Limits Refusal) → result ≡ checked limits → IsUnlessNoMemory result limits
checked_is result (Ok limits) e = subst (λ (r : Result Limits CheckFault). IsUnlessNoMemory r (Ok limits)) (sym e) refl
checked_is result (Err refusal) e = subst (λ (r : Result Limits CheckFault). IsUnlessNoMemory r (Err refusal)) (sym e) refl

pub there_is : (found : Option QuotaRow) (row : QuotaRow) → there found ≡ Ok row → found ≡ Some row
there_is None row e = absurd cc
there_is (Some x) row e = cc
