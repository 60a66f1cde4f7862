-- Consumers, access lists and quotas stand once, whatever change applies.
use Rattle.std.proofs.Common.{◌≡◌, ℕ, Bool, true, false, not, List, [], ◌∷◌, ◌++◌, Option, Some, None, sym, subst, inl, inr}
use Rattle.std.specs.Prelude.{filter}
use Rattle.std.specs.List.{AllByRecursion, list_any}
use Rattle.std.specs.Str.{bytes_eq}
use Rattle.std.proofs.lemmas.Bool.{cases_Bool, and_parts, or_parts, eqb-true, not-true}
use Rattle.std.proofs.lemmas.Slice.Eq.{bytes_eq-Decides}
use Rattle.kms_world.specs.Effect.{is_consumer, put_row, after_effect}
use Rattle.kms_world.specs.Id.{id_at, is_id}
use Rattle.kms_world.specs.State.{State}
use Rattle.kms_world.specs.declared.acl.AclRow.{AclRow}
use Rattle.kms_world.specs.declared.id.Id.{Id}
use Rattle.kms_world.specs.declared.quota.QuotaRow.{QuotaRow}
use Rattle.kms_record.specs.declared.change.Change.{Change}
use Rattle.kms_record.specs.declared.change.Change.TheVariants.{KeyAdded, KeyRewrapped, TokenReplaced, KeyDropped, SecretPut, PayloadPut, MetadataPut, ContainerPut, ConsumerAdded, ConsumerDropped, AclPut, AclDropped, OrderPut, QuotaPut, Deleted}
use Rattle.kms_record.specs.declared.quota.QuotaLimits.{QuotaLimits}
use Rattle.kms_record.specs.ChangeEffect.{consumer_at, acl_at, quota_at, quota_effect}
use Rattle.kms_record.proofs.PairwiseLaws.{all_push}
use Rattle.kms_kept.specs.Kept.{Kept, Part, applies, changed}
use Rattle.kms_kept.specs.Once.{Pairwise, AreOtherConsumers, HaveOtherTargets, HaveOtherProjects, StandOnce}
use Rattle.kms_kept.proofs.KeptLists.{all_filter, all_to}
use Rattle.kms_kept.proofs.JoinedLaws.{all_put}
use Rattle.kms_kept.proofs.RisingLaws.{one_id}

pub none_passes : {X : Type 0} (test : X → Bool) (xs : List X) → list_any test xs ≡ false → AllByRecursion (λ x. test x ≡ false) xs
none_passes {X} test [] h = tt
none_passes {X} test (x ∷ xs) h = let parts = or_parts (test x) (list_any test xs) h in (parts.0, none_passes test xs parts.1)

pub pairwise_push : {X : Type 0} (R : X → X → Type 0) (xs : List X) (y : X) → Pairwise R xs → AllByRecursion (λ x. R x y) xs → Pairwise R (xs ++ y ∷ [])
pairwise_push {X} R [] y each new = (tt, tt)
pairwise_push {X} R (x ∷ xs) y each new = (all_push (R x) xs y each.0 new.0, pairwise_push R xs y each.1 new.1)

pairwise_filter : {X : Type 0} (R : X → X → Type 0) (keep : X → Bool) (xs : List X) → Pairwise R xs → Pairwise R (filter keep xs)
pairwise_filter {X} R keep [] each = tt
pairwise_filter {X} R keep (x ∷ xs) each = elim (cases_Bool (keep x)) [
  | inl t ↦ rw t (all_filter (R x) keep xs each.0, pairwise_filter R keep xs each.1)
  | inr f ↦ rw f (pairwise_filter R keep xs each.1)
]

-- a row in the place of the one that passes the test, or last where none does
pairwise_put : {X : Type 0} (R : X → X → Type 0) (test : X → Bool) (row : X) → ((x : X) → test x ≡ false → R x row) → ((x y : X) → test x ≡ true → R x y → R row y) → (xs : List X) → Pairwise R xs → Pairwise R (put_row test row xs)
pairwise_put {X} R test row before after [] each = (tt, tt)
pairwise_put {X} R test row before after (x ∷ xs) each = elim (cases_Bool (test x)) [
  | inl t ↦ rw t (all_to (R x) (R row) (λ y h. after x y t h) xs each.0, each.1)
  | inr f ↦ rw f (all_put (R x) test row xs (before x f) each.0, pairwise_put R test row before after xs each.1)
]

same_target : (a x y : Id) → is_id a x ≡ true → is_id y x ≡ false → is_id y a ≡ false
same_target a x y at other = subst (λ (i : Id). is_id y i ≡ false) (one_id x a (eqb-true x.0 a.0 at)) other

same_project : (a x y : List ℕ) → bytes_eq a x ≡ true → bytes_eq y x ≡ false → bytes_eq y a ≡ false
same_project a x y at other = subst (λ (p : List ℕ). bytes_eq y p ≡ false) (sym ((bytes_eq-Decides a x).0 at)) other

quota_once : (project : List ℕ) (limits : Option QuotaLimits) (s : State) → StandOnce s → StandOnce (after_effect (quota_effect project limits) s)
quota_once project None s o = record { consumers = o.consumers; acls = o.acls; quotas = pairwise_filter HaveOtherProjects (λ x. not (bytes_eq project x.project)) s.quotas o.quotas }
quota_once project (Some limits) s o = record {
  consumers = o.consumers;
  acls = o.acls;
  quotas = pairwise_put HaveOtherProjects (λ (r : QuotaRow). bytes_eq project r.project) (quota_at project limits) (λ x h. h) (λ x y at h. same_project project x.project y.project at h) s.quotas o.quotas;
}

pub change_once : (part : Part) (change : Change) (kept : Kept) → StandOnce kept.state → applies part change kept ≡ true → StandOnce (changed change kept).state
change_once part (KeyAdded key) kept o fits = o
change_once part (KeyRewrapped key) kept o fits = o
change_once part (KeyDropped put) kept o fits = o
change_once part (TokenReplaced put) kept o fits = record { consumers = o.consumers; acls = o.acls; quotas = o.quotas }
change_once part (SecretPut put) kept o fits = record { consumers = o.consumers; acls = o.acls; quotas = o.quotas }
change_once part (PayloadPut put) kept o fits = record { consumers = o.consumers; acls = o.acls; quotas = o.quotas }
change_once part (MetadataPut put) kept o fits = record { consumers = o.consumers; acls = o.acls; quotas = o.quotas }
change_once part (ContainerPut put) kept o fits = record { consumers = o.consumers; acls = o.acls; quotas = o.quotas }
change_once part (ConsumerAdded put) kept o fits =
    let s = kept.state in
    let row = consumer_at s.tag put in
    let free = not-true (list_any (is_consumer row.container row.name row.url) s.consumers) (and_parts _ _ fits).1 in
    record { consumers = pairwise_push AreOtherConsumers s.consumers row o.consumers (none_passes (is_consumer row.container row.name row.url) s.consumers free); acls = o.acls; quotas = o.quotas }
change_once part (ConsumerDropped put) kept o fits = record {
  consumers = pairwise_filter AreOtherConsumers (λ x. not (is_consumer (id_at kept.state.tag put.container) put.name put.url x)) kept.state.consumers o.consumers;
  acls = o.acls;
  quotas = o.quotas;
}
change_once part (AclPut put) kept o fits =
    let s = kept.state in
    let row = acl_at s.tag put in
    record {
      consumers = o.consumers;
      acls = pairwise_put HaveOtherTargets (λ (r : AclRow). is_id row.target r.target) row (λ x h. h) (λ x y at h. same_target row.target x.target y.target at h) s.acls o.acls;
      quotas = o.quotas;
    }
change_once part (AclDropped id) kept o fits = record { consumers = o.consumers; acls = pairwise_filter HaveOtherTargets (λ x. not (is_id (id_at kept.state.tag id) x.target)) kept.state.acls o.acls; quotas = o.quotas }
change_once part (OrderPut put) kept o fits = record { consumers = o.consumers; acls = o.acls; quotas = o.quotas }
change_once part (QuotaPut put) kept o fits = quota_once put.project put.limits kept.state o
change_once part (Deleted id) kept o fits =
    let s = kept.state in
    let gone = id_at s.tag id in
    record {
      consumers = pairwise_filter AreOtherConsumers (λ x. not (is_id gone x.container)) s.consumers o.consumers;
      acls = pairwise_filter HaveOtherTargets (λ x. not (is_id gone x.target)) s.acls o.acls;
      quotas = o.quotas;
    }
