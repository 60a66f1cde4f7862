-- Consumers and access lists hang on rows that are there, whatever change applies.
use Rattle.std.proofs.Common.{◌≡◌, ℕ, Bool, true, false, not, cond, eqb, List, [], ◌∷◌, ◌++◌, map, Option, Some, None, refl, sym, ap, ◌∙◌, inl, inr}
use Rattle.std.specs.Prelude.{◌||◌, find, filter, is_some, option_map}
use Rattle.std.specs.List.{AllByRecursion}
use Rattle.std.proofs.lemmas.Bool.{cases_Bool, and_parts, or_cases, or_left, or_right, eqb-true, not-true, not_from_false}
use Rattle.kms_world.specs.State.{State}
use Rattle.kms_world.specs.declared.id.Id.{Id}
use Rattle.kms_world.specs.declared.secret.SecretRow.{SecretRow}
use Rattle.kms_world.specs.declared.container.ContainerRow.{ContainerRow}
use Rattle.kms_world.specs.Id.{is_id}
use Rattle.kms_world.specs.Effect.{is_consumer, put_row, change_rows, with_payload, with_metadata}
use Rattle.kms_record.specs.declared.change.Change.{Change}
use Rattle.kms_record.specs.declared.change.Change.TheVariants.{KeyAdded, KeyRewrapped, TokenReplaced, KeyDropped, SecretPut, PayloadPut, MetadataPut, ContainerPut, ConsumerAdded, ConsumerDropped, AclPut, AclDropped, OrderPut, QuotaPut, Deleted}
use Rattle.kms_world.specs.Id.{id_at}
use Rattle.kms_record.specs.ChangeEffect.{container_at, acl_at}
use Rattle.kms_kept.specs.Kept.{Kept, Part, applies, changed, token_replaced}
use Rattle.kms_world.specs.Effect.{after_effect}
use Rattle.kms_record.specs.ChangeEffect.{quota_effect}
use Rattle.kms_record.specs.declared.quota.QuotaLimits.{QuotaLimits}
use Rattle.kms_kept.specs.Joined.{HasContainer, HasTarget, IsJoined}
use Rattle.kms_record.proofs.PairwiseLaws.{all_push}
use Rattle.kms_kept.proofs.KeptLists.{all_filter, all_to, find_append, find_map, find_filter}

pub some_is : {X : Type 0} (o : Option X) → is_some o ≡ true → (x : X) × (o ≡ Some x)
some_is None e = absurd cc
some_is (Some x) e = (x, refl)

-- ---- look-ups that stay

stays_append : {X : Type 0} (test : X → Bool) (rows more : List X) → is_some (find test rows) ≡ true → is_some (find test (rows ++ more)) ≡ true
stays_append test rows more h = let s = some_is (find test rows) h in ap is_some (find_append test rows more s.0 s.1)

some_map : {X : Type 0} (g : X → X) (o : Option X) → is_some (option_map g o) ≡ is_some o
some_map g None = refl
some_map g (Some x) = refl

stays_map : {X : Type 0} (test : X → Bool) (g : X → X) → ((x : X) → test (g x) ≡ test x) → (rows : List X) → is_some (find test rows) ≡ true → is_some (find test (map g rows)) ≡ true
stays_map test g same rows h = ap is_some (find_map test g same rows) ∙ some_map g (find test rows) ∙ h

stays_put : {X : Type 0} (test here : X → Bool) (row : X) → ((x : X) → here x ≡ true → test row ≡ test x) → (rows : List X) → is_some (find test rows) ≡ true → is_some (find test (put_row here row rows)) ≡ true
stays_put {X} test here row same [] h = absurd cc
stays_put {X} test here row same (x ∷ xs) h = elim (cases_Bool (here x)) [
  | inl t ↦ elim (cases_Bool (test x)) [
    | inl f ↦ rw (t, same x t ∙ f) refl
    | inr n ↦ rw (t, same x t ∙ n) (rw n at h)
  ]
  | inr o ↦ elim (cases_Bool (test x)) [
    | inl f ↦ rw (o, f) refl
    | inr n ↦ rw (o, n) (stays_put test here row same xs (rw n at h))
  ]
]

stays_filter : {X : Type 0} (test keep : X → Bool) → ((x : X) → test x ≡ true → keep x ≡ true) → (rows : List X) → is_some (find test rows) ≡ true → is_some (find test (filter keep rows)) ≡ true
stays_filter test keep kept rows h = let s = some_is (find test rows) h in ap is_some (find_filter test keep kept rows s.0 s.1)

pub all_put : {X : Type 0} (P : X → Type 0) (test : X → Bool) (row : X) (rows : List X) → P row → AllByRecursion P rows → AllByRecursion P (put_row test row rows)
all_put {X} P test row [] new each = (new, tt)
all_put {X} P test row (x ∷ xs) new each = elim (cases_Bool (test x)) [
  | inl t ↦ rw t (new, each.1)
  | inr f ↦ rw f (each.0, all_put P test row xs new each.1)
]

all_left : {X : Type 0} (P Q : X → Type 0) (keep : X → Bool) → ((x : X) → keep x ≡ true → P x → Q x) → (rows : List X) → AllByRecursion P rows → AllByRecursion Q (filter keep rows)
all_left {X} P Q keep step [] each = tt
all_left {X} P Q keep step (x ∷ xs) each = elim (cases_Bool (keep x)) [
  | inl t ↦ rw t (step x t each.0, all_left P Q keep step xs each.1)
  | inr f ↦ rw f (all_left P Q keep step xs each.1)
]

-- ---- states

either : (a b c d : Bool) → (a ≡ true → c ≡ true) → (b ≡ true → d ≡ true) → (a || b) ≡ true → (c || d) ≡ true
either a b c d f g h = elim (or_cases a b h) [ inl x ↦ or_left c d (f x) | inr y ↦ or_right c d (g y) ]

same_test : (row : SecretRow) (test : SecretRow → Bool) (f : SecretRow → SecretRow) (id : Id) → ((x : SecretRow) → (f x).id ≡ x.id) → is_id id (cond (test row) (f row) row).id ≡ is_id id row.id
same_test row test f id same = elim (cases_Bool (test row)) [
  | inl t ↦ rw t (ap (is_id id) (same row))
  | inr n ↦ rw n refl
]

-- secrets that are changed in place
secrets_joined : (s : State) → IsJoined s → (test : SecretRow → Bool) (f : SecretRow → SecretRow) → ((x : SecretRow) → (f x).id ≡ x.id) → (let after : State = record s { secrets = change_rows test f s.secrets } in IsJoined after)
secrets_joined s j test f same =
    let after : State = record s { secrets = change_rows test f s.secrets } in
    record {
      consumers = j.consumers;
      acls = all_to (HasTarget s) (HasTarget after) (λ a h. either _ _ _ _ (stays_map (λ (r : SecretRow). is_id a.target r.id) (λ x. cond (test x) (f x) x) (λ x. same_test x test f a.target same) s.secrets) (λ e. e) h) s.acls j.acls;
    }

still : (id other gone : Id) → is_id gone id ≡ false → is_id id other ≡ true → not (is_id gone other) ≡ true
still id other gone apart at = not_from_false (is_id gone other) (rw (eqb-true other.0 id.0 at) apart)

quota_joins : (project : List ℕ) (limits : Option QuotaLimits) (s : State) → IsJoined s → IsJoined (after_effect (quota_effect project limits) s)
quota_joins project None s j = record { consumers = j.consumers; acls = j.acls }
quota_joins project (Some limits) s j = record { consumers = j.consumers; acls = j.acls }

pub change_joins : (part : Part) (change : Change) (kept : Kept) → IsJoined kept.state → applies part change kept ≡ true → IsJoined (changed change kept).state
change_joins part (KeyAdded key) kept j fits = j
change_joins part (KeyRewrapped key) kept j fits = j
change_joins part (TokenReplaced put) kept j fits = secrets_joined kept.state j (λ x. is_id (id_at kept.state.tag put.secret) x.id) (token_replaced (put.number ∷ put.token)) (λ x. refl)
change_joins part (KeyDropped put) kept j fits = j
change_joins part (SecretPut put) kept j fits =
    let s = kept.state in
    let after = (changed (SecretPut put) kept).state in
    record {
      consumers = j.consumers;
      acls = all_to (HasTarget s) (HasTarget after) (λ a h. either _ _ _ _ (stays_append (λ (r : SecretRow). is_id a.target r.id) s.secrets _) (λ e. e) h) s.acls j.acls;
    }
change_joins part (PayloadPut put) kept j fits = secrets_joined kept.state j (λ x. is_id (id_at kept.state.tag put.secret) x.id) (with_payload put.updated (record { media = put.media; bytes = put.number ∷ put.token })) (λ x. refl)
change_joins part (MetadataPut put) kept j fits = secrets_joined kept.state j (λ x. is_id (id_at kept.state.tag put.secret) x.id) (with_metadata put.updated put.pairs) (λ x. refl)
change_joins part (ContainerPut put) kept j fits =
    let s = kept.state in
    let new = id_at s.tag put.id in
    let after = (changed (ContainerPut put) kept).state in
    let stays = λ (id : Id). stays_put (λ (r : ContainerRow). is_id id r.id) (λ r. is_id new r.id) (container_at s.tag put) (λ x at. ap (λ (n : ℕ). eqb n id.0) (sym (eqb-true x.id.0 new.0 at))) s.containers in
    record {
      consumers = all_to (HasContainer s) (HasContainer after) (λ c h. stays c.container h) s.consumers j.consumers;
      acls = all_to (HasTarget s) (HasTarget after) (λ a h. either _ _ _ _ (λ e. e) (stays a.target) h) s.acls j.acls;
    }
change_joins part (ConsumerAdded put) kept j fits = record { consumers = all_push (HasContainer kept.state) kept.state.consumers _ j.consumers (and_parts _ _ fits).0; acls = j.acls }
change_joins part (ConsumerDropped put) kept j fits = record { consumers = all_filter (HasContainer kept.state) (λ x. not (is_consumer (id_at kept.state.tag put.container) put.name put.url x)) kept.state.consumers j.consumers; acls = j.acls }
change_joins part (AclPut put) kept j fits = record { consumers = j.consumers; acls = all_put (HasTarget kept.state) (λ r. is_id (id_at kept.state.tag put.target) r.target) (acl_at kept.state.tag put) kept.state.acls fits j.acls }
change_joins part (AclDropped id) kept j fits = record { consumers = j.consumers; acls = all_filter (HasTarget kept.state) (λ x. not (is_id (id_at kept.state.tag id) x.target)) kept.state.acls j.acls }
change_joins part (OrderPut put) kept j fits = record { consumers = j.consumers; acls = j.acls }
change_joins part (QuotaPut put) kept j fits = quota_joins put.project put.limits kept.state j
change_joins part (Deleted id) kept j fits =
    let s = kept.state in
    let gone = id_at s.tag id in
    let after = (changed (Deleted id) kept).state in
    record {
      consumers = all_left (HasContainer s) (HasContainer after) (λ c. not (is_id gone c.container))
          (λ c keeps h. stays_filter (λ (r : ContainerRow). is_id c.container r.id) (λ r. not (is_id gone r.id)) (λ x at. still c.container x.id gone (not-true (is_id gone c.container) keeps) at) s.containers h) s.consumers j.consumers;
      acls = all_left (HasTarget s) (HasTarget after) (λ a. not (is_id gone a.target))
          (λ a keeps h. either _ _ _ _
          (stays_filter (λ (r : SecretRow). is_id a.target r.id) (λ r. not (is_id gone r.id)) (λ x at. still a.target x.id gone (not-true (is_id gone a.target) keeps) at) s.secrets)
          (stays_filter (λ (r : ContainerRow). is_id a.target r.id) (λ r. not (is_id gone r.id)) (λ x at. still a.target x.id gone (not-true (is_id gone a.target) keeps) at) s.containers) h) s.acls j.acls;
    }
