-- The other rows of a snapshot lead to those that are kept.
use Rattle.std.proofs.Common.{◌≡◌, ℕ, ◌<◌, true, false, not, List, [], ◌∷◌, ◌++◌, map, Option, Some, refl, sym, ap, subst, ◌∙◌}
use Rattle.std.specs.Prelude.{◌||◌, ◌==◌, find, is_some, nat_lt}
use Rattle.std.specs.List.{AllByRecursion, list_all}
use Rattle.std.specs.Str.{bytes_eq}
use Rattle.std.proofs.lemmas.Bool.{and_from, or_left, lt-ltb, eq-eqb, not_from_false, false_from_ne_true, both_ways}
use Rattle.kms_world.specs.Effect.{put_row, is_consumer}
use Rattle.kms_world.specs.Id.{id_number, id_at, is_id}
use Rattle.kms_world.specs.State.{State}
use Rattle.kms_world.specs.declared.acl.AclRow.{AclRow}
use Rattle.kms_world.specs.declared.container.ContainerRow.{ContainerRow}
use Rattle.kms_world.specs.declared.container.ConsumerRow.{ConsumerRow}
use Rattle.kms_world.specs.declared.id.Id.{Id}
use Rattle.kms_world.specs.declared.order.OrderRow.{OrderRow}
use Rattle.kms_world.specs.declared.quota.QuotaRow.{QuotaRow}
use Rattle.kms_world.specs.declared.secret.SecretRow.{SecretRow}
use Rattle.kms_record.specs.declared.acl.AclPut.{AclPut as Acl}
use Rattle.kms_record.specs.declared.change.Change.TheVariants.{ContainerPut, ConsumerAdded, AclPut, OrderPut, QuotaPut}
use Rattle.kms_record.specs.declared.consumer.ConsumerAdded.{ConsumerAdded as Consumer}
use Rattle.kms_record.specs.declared.container.ContainerPut.{ContainerPut as Container}
use Rattle.kms_record.specs.declared.order.OrderPut.{OrderPut as Order}
use Rattle.kms_record.specs.declared.order.OrderPutState.{OrderPutState}
use Rattle.kms_record.specs.declared.order.OrderPutState.TheVariants.{Pending, Active, Error}
use Rattle.kms_record.specs.Base.{container_put_of, consumer_added_of, acl_put_of, order_put_of, quota_limits_of, quota_put_of}
use Rattle.kms_record.specs.ChangeEffect.{container_at, consumer_at, acl_at, order_state_at, order_at, quota_at}
use Rattle.kms_kept.specs.Apart.{IsOther, AreApart}
use Rattle.kms_kept.specs.Joined.{HasContainer, HasTarget}
use Rattle.kms_kept.specs.Kept.{Kept, Base, after_changes, is_new, names_id, is_named_once, secret_ids, container_ids, order_ids}
use Rattle.kms_kept.specs.Named.{NamesGiven, AreNamesGiven}
use Rattle.kms_kept.specs.OfGrammar.{IsContainer, IsConsumer, IsAcl, IsOrder, IsQuota}
use Rattle.kms_kept.specs.Once.{Pairwise, AreOtherConsumers, HaveOtherTargets, HaveOtherProjects}
use Rattle.kms_kept.specs.Orders.{NameApart, AllNameApart}
use Rattle.kms_kept.specs.Rising.{IsGiven, Rises}
use Rattle.kms_kept.proofs.BaseLaws.{none_given}
use Rattle.kms_kept.proofs.KeptLists.{all_to}
use Rattle.kms_kept.proofs.RisingLaws.{given_below}
use Rattle.kms_kept.proofs.SnapshotParts.{all_mid, above_mid, pairwise_mid, given_mid, below_mid, none_found, put_after, none_of, all_of, others_by_id, of_ids, by_ids, given_count, new_in_base, alone, built_singly}
use Rattle.kms_kept.proofs.SnapshotSecrets.{with_secrets}

abbrev pub with_containers : Kept → List ContainerRow → Kept
with_containers kept rows = (let s : State = record (with_secrets kept kept.state.secrets).state { containers = rows } in record { state = s; keys = kept.keys })

abbrev pub with_consumers : Kept → List ConsumerRow → Kept
with_consumers kept rows = (let s : State = record (with_containers kept kept.state.containers).state { consumers = rows } in record { state = s; keys = kept.keys })

abbrev pub with_acls : Kept → List AclRow → Kept
with_acls kept rows = (let s : State = record (with_consumers kept kept.state.consumers).state { acls = rows } in record { state = s; keys = kept.keys })

abbrev pub with_orders : Kept → List OrderRow → Kept
with_orders kept rows = (let s : State = record (with_acls kept kept.state.acls).state { orders = rows } in record { state = s; keys = kept.keys })

abbrev pub with_quotas : Kept → List QuotaRow → Kept
with_quotas kept rows = (let s : State = record (with_orders kept kept.state.orders).state { quotas = rows } in record { state = s; keys = kept.keys })

-- no row of the table has an id that isn't among its ids
other_found : {X : Type 0} (id_of : X → Id) (id : Id) (rows : List X) → IsOther (map id_of rows) id → is_some (find (λ r. is_id id (id_of r)) rows) ≡ false
other_found {X} id_of id rows other = ap is_some (none_found (λ r. is_id id (id_of r)) rows (by_ids id_of (λ (o : Id). is_id id o ≡ false) rows other))

-- ---- containers

module _ (kept : Kept) where
  abbrev tag : ℕ
  tag = kept.state.tag

  abbrev ids : ℕ
  ids = kept.state.ids

  container_put : (front : List ContainerRow) (put : Container) → IsGiven tag ids (id_at tag put.id) → AllByRecursion (λ (f : ContainerRow). f.id.0 < (id_at tag put.id).0) front → IsOther (secret_ids kept.state) (id_at tag put.id)
      → after_changes Base (ContainerPut put ∷ []) (with_containers kept front) ≡ Some (with_containers kept (front ++ container_at tag put ∷ []))
  container_put front put given below other =
      let s = (with_containers kept front).state in
      let id = id_at tag put.id in
      let others = others_by_id (λ (x : ContainerRow). x.id) id front below in
      let new = new_in_base s (container_ids s) put.id (given_count tag ids put.id given) (of_ids (λ (x : ContainerRow). x.id) (λ (i : Id). i.0 < id_number tag put.id) front below)
      (other_found (λ (x : SecretRow). x.id) id kept.state.secrets other) (ap is_some (none_found (λ (r : ContainerRow). is_id id r.id) front others)) refl in
      alone (ContainerPut put) (with_containers kept front) (with_containers kept (front ++ container_at tag put ∷ [])) (or_left (is_new Base s (container_ids s) put.id) _ new)
      (ap (λ (n : ℕ). let t : State = record s { ids = n; containers = put_row (λ r. is_id id r.id) (container_at tag put) front } in let k : Kept = record { state = t; keys = kept.keys } in k) (none_given s id (given_below tag ids id given))
      ∙ ap (with_containers kept) (put_after (λ (r : ContainerRow). is_id id r.id) (container_at tag put) front others))

  container_step : Rises tag ids (container_ids kept.state) → AreApart (container_ids kept.state) (secret_ids kept.state) → AllByRecursion (IsContainer tag) kept.state.containers
      → (front : List ContainerRow) (row : ContainerRow) (rest : List ContainerRow) → kept.state.containers ≡ front ++ row ∷ rest
      → after_changes Base (ContainerPut (container_put_of row) ∷ []) (with_containers kept front) ≡ Some (with_containers kept (front ++ row ∷ []))
  container_step rises apart rows front row rest is =
      let id_of = λ (x : ContainerRow). x.id in
      let here = subst (λ (all : List ContainerRow). Rises tag ids (map (λ (x : ContainerRow). x.id) all)) is rises in
      let back : container_at tag (container_put_of row) ≡ row = (all_mid (IsContainer tag) front row rest (subst (AllByRecursion (IsContainer tag)) is rows)).put in
      let id : row.id ≡ id_at tag (container_put_of row).id = ap (λ (r : ContainerRow). r.id) (sym back) in
      container_put front (container_put_of row) (subst (IsGiven tag ids) id (given_mid id_of tag ids front row rest here))
      (subst (λ (i : Id). AllByRecursion (λ (f : ContainerRow). f.id.0 < i.0) front) id (below_mid id_of tag ids front row rest here))
      (subst (IsOther (secret_ids kept.state)) id (above_mid id_of (IsOther (secret_ids kept.state)) front row rest (subst (λ (all : List ContainerRow). AreApart (map (λ (x : ContainerRow). x.id) all) (secret_ids kept.state)) is apart)))
      ∙ ap (λ (r : ContainerRow). let o : Option Kept = Some (with_containers kept (front ++ r ∷ [])) in o) back

  pub containers_built : Rises tag ids (container_ids kept.state) → AreApart (container_ids kept.state) (secret_ids kept.state) → AllByRecursion (IsContainer tag) kept.state.containers
      → after_changes Base (map (λ row. ContainerPut (container_put_of row)) kept.state.containers) (with_containers kept []) ≡ Some (with_containers kept kept.state.containers)
  containers_built rises apart rows = built_singly (λ row. ContainerPut (container_put_of row)) (with_containers kept) kept.state.containers (container_step rises apart rows)

  -- ---- consumers

  consumer_put : (front : List ConsumerRow) (put : Consumer) → HasContainer kept.state (consumer_at tag put) → AllByRecursion (λ (f : ConsumerRow). is_consumer (id_at tag put.container) put.name put.url f ≡ false) front
      → after_changes Base (ConsumerAdded put ∷ []) (with_consumers kept front) ≡ Some (with_consumers kept (front ++ consumer_at tag put ∷ []))
  consumer_put front put there others =
      alone (ConsumerAdded put) (with_consumers kept front) (with_consumers kept (front ++ consumer_at tag put ∷ []))
      (and_from _ _ there (not_from_false _ (none_of (is_consumer (id_at tag put.container) put.name put.url) front others))) refl

  consumer_step : AllByRecursion (HasContainer kept.state) kept.state.consumers → Pairwise AreOtherConsumers kept.state.consumers → AllByRecursion (IsConsumer tag) kept.state.consumers
      → (front : List ConsumerRow) (row : ConsumerRow) (rest : List ConsumerRow) → kept.state.consumers ≡ front ++ row ∷ rest
      → after_changes Base (ConsumerAdded (consumer_added_of row) ∷ []) (with_consumers kept front) ≡ Some (with_consumers kept (front ++ row ∷ []))
  consumer_step there once rows front row rest is =
      let back : consumer_at tag (consumer_added_of row) ≡ row = (all_mid (IsConsumer tag) front row rest (subst (AllByRecursion (IsConsumer tag)) is rows)).put in
      consumer_put front (consumer_added_of row) (subst (HasContainer kept.state) (sym back) (all_mid (HasContainer kept.state) front row rest (subst (AllByRecursion (HasContainer kept.state)) is there)))
      (subst (λ (r : ConsumerRow). AllByRecursion (λ (f : ConsumerRow). is_consumer r.container r.name r.url f ≡ false) front) (sym back) (pairwise_mid AreOtherConsumers front row rest (subst (Pairwise AreOtherConsumers) is once)))
      ∙ ap (λ (r : ConsumerRow). let o : Option Kept = Some (with_consumers kept (front ++ r ∷ [])) in o) back

  pub consumers_built : AllByRecursion (HasContainer kept.state) kept.state.consumers → Pairwise AreOtherConsumers kept.state.consumers → AllByRecursion (IsConsumer tag) kept.state.consumers
      → after_changes Base (map (λ row. ConsumerAdded (consumer_added_of row)) kept.state.consumers) (with_consumers kept []) ≡ Some (with_consumers kept kept.state.consumers)
  consumers_built there once rows = built_singly (λ row. ConsumerAdded (consumer_added_of row)) (with_consumers kept) kept.state.consumers (consumer_step there once rows)

  -- ---- access lists

  acl_put : (front : List AclRow) (put : Acl) → HasTarget kept.state (acl_at tag put) → AllByRecursion (λ (f : AclRow). is_id (id_at tag put.target) f.target ≡ false) front
      → after_changes Base (AclPut put ∷ []) (with_acls kept front) ≡ Some (with_acls kept (front ++ acl_at tag put ∷ []))
  acl_put front put there others =
      alone (AclPut put) (with_acls kept front) (with_acls kept (front ++ acl_at tag put ∷ [])) there
      (ap (with_acls kept) (put_after (λ (r : AclRow). is_id (id_at tag put.target) r.target) (acl_at tag put) front others))

  acl_step : AllByRecursion (HasTarget kept.state) kept.state.acls → Pairwise HaveOtherTargets kept.state.acls → AllByRecursion (IsAcl tag) kept.state.acls
      → (front : List AclRow) (row : AclRow) (rest : List AclRow) → kept.state.acls ≡ front ++ row ∷ rest
      → after_changes Base (AclPut (acl_put_of row) ∷ []) (with_acls kept front) ≡ Some (with_acls kept (front ++ row ∷ []))
  acl_step there once rows front row rest is =
      let back : acl_at tag (acl_put_of row) ≡ row = (all_mid (IsAcl tag) front row rest (subst (AllByRecursion (IsAcl tag)) is rows)).put in
      acl_put front (acl_put_of row) (subst (HasTarget kept.state) (sym back) (all_mid (HasTarget kept.state) front row rest (subst (AllByRecursion (HasTarget kept.state)) is there)))
      (subst (λ (r : AclRow). AllByRecursion (λ (f : AclRow). is_id r.target f.target ≡ false) front) (sym back) (pairwise_mid HaveOtherTargets front row rest (subst (Pairwise HaveOtherTargets) is once)))
      ∙ ap (λ (r : AclRow). let o : Option Kept = Some (with_acls kept (front ++ r ∷ [])) in o) back

  pub acls_built : AllByRecursion (HasTarget kept.state) kept.state.acls → Pairwise HaveOtherTargets kept.state.acls → AllByRecursion (IsAcl tag) kept.state.acls
      → after_changes Base (map (λ row. AclPut (acl_put_of row)) kept.state.acls) (with_acls kept []) ≡ Some (with_acls kept kept.state.acls)
  acls_built there once rows = built_singly (λ row. AclPut (acl_put_of row)) (with_acls kept) kept.state.acls (acl_step there once rows)

  -- ---- orders

  -- no order before this one names the id that it names
  free : (order : Id) (row : OrderRow) (front : List OrderRow) (secret : ℕ) → row.state ≡ order_state_at tag (Active secret) → AllByRecursion (λ (f : OrderRow). NameApart f row) front
      → list_all (λ (r : OrderRow). not (names_id (id_at tag secret) r.state) || is_id order r.id) front ≡ true
  free order row front secret is apart =
      all_of (λ (r : OrderRow). not (names_id (id_at tag secret) r.state) || is_id order r.id) front
      (all_to (λ (f : OrderRow). NameApart f row) (λ (f : OrderRow). (not (names_id (id_at tag secret) f.state) || is_id order f.id) ≡ true)
      (λ f h. or_left (not (names_id (id_at tag secret) f.state)) (is_id order f.id) (not_from_false (names_id (id_at tag secret) f.state) (false_from_ne_true (names_id (id_at tag secret) f.state) (λ named.
      both_ways (names_id (id_at tag secret) row.state) (h (id_at tag secret) named) (ap (names_id (id_at tag secret)) is ∙ eq-eqb (id_at tag secret).0 (id_at tag secret).0 refl))))) front apart)

  named_once : (front : List OrderRow) (order : ℕ) (state : OrderPutState) (row : OrderRow) → row.state ≡ order_state_at tag state → NamesGiven tag ids (order_state_at tag state) → AllByRecursion (λ (f : OrderRow). NameApart f row) front
      → is_named_once (with_orders kept front).state order state ≡ true
  named_once front order Pending row is given apart = refl
  named_once front order (Error cause) row is given apart = refl
  named_once front order (Active secret) row is given apart =
      and_from _ _ (or_left (nat_lt secret ids) (secret == order) (lt-ltb secret ids (given_count tag ids secret given))) (free (id_at tag order) row front secret is apart)

  order_put : (front : List OrderRow) (put : Order) → IsGiven tag ids (id_at tag put.id) → AllByRecursion (λ (f : OrderRow). f.id.0 < (id_at tag put.id).0) front
      → IsOther (secret_ids kept.state) (id_at tag put.id) → IsOther (container_ids kept.state) (id_at tag put.id) → NamesGiven tag ids (order_state_at tag put.state) → AllByRecursion (λ (f : OrderRow). NameApart f (order_at tag put)) front
      → after_changes Base (OrderPut put ∷ []) (with_orders kept front) ≡ Some (with_orders kept (front ++ order_at tag put ∷ []))
  order_put front put given below secrets containers named apart =
      let s = (with_orders kept front).state in
      let id = id_at tag put.id in
      let others = others_by_id (λ (x : OrderRow). x.id) id front below in
      let new = new_in_base s (order_ids s) put.id (given_count tag ids put.id given) (of_ids (λ (x : OrderRow). x.id) (λ (i : Id). i.0 < id_number tag put.id) front below)
      (other_found (λ (x : SecretRow). x.id) id kept.state.secrets secrets) (other_found (λ (x : ContainerRow). x.id) id kept.state.containers containers) (ap is_some (none_found (λ (r : OrderRow). is_id id r.id) front others)) in
      alone (OrderPut put) (with_orders kept front) (with_orders kept (front ++ order_at tag put ∷ []))
      (and_from _ _ (or_left (is_new Base s (order_ids s) put.id) _ new) (named_once front put.id put.state (order_at tag put) refl named apart))
      (ap (λ (n : ℕ). let t : State = record s { ids = n; orders = put_row (λ r. is_id id r.id) (order_at tag put) front } in let k : Kept = record { state = t; keys = kept.keys } in k) (none_given s id (given_below tag ids id given))
      ∙ ap (with_orders kept) (put_after (λ (r : OrderRow). is_id id r.id) (order_at tag put) front others))

  apart_mid : (front : List OrderRow) (row : OrderRow) (rest : List OrderRow) → AllNameApart (front ++ row ∷ rest) → AllByRecursion (λ (f : OrderRow). NameApart f row) front
  apart_mid [] row rest apart = tt
  apart_mid (f ∷ fs) row rest apart = (all_mid (NameApart f) fs row rest apart.0, apart_mid fs row rest apart.1)

  order_step : Rises tag ids (order_ids kept.state) → AreApart (order_ids kept.state) (secret_ids kept.state) → AreApart (order_ids kept.state) (container_ids kept.state) → AreNamesGiven kept.state → AllNameApart kept.state.orders → AllByRecursion (IsOrder tag) kept.state.orders
      → (front : List OrderRow) (row : OrderRow) (rest : List OrderRow) → kept.state.orders ≡ front ++ row ∷ rest
      → after_changes Base (OrderPut (order_put_of row) ∷ []) (with_orders kept front) ≡ Some (with_orders kept (front ++ row ∷ []))
  order_step rises secrets containers named apart rows front row rest is =
      let id_of = λ (x : OrderRow). x.id in
      let here = subst (λ (all : List OrderRow). Rises tag ids (map (λ (x : OrderRow). x.id) all)) is rises in
      let back : order_at tag (order_put_of row) ≡ row = (all_mid (IsOrder tag) front row rest (subst (AllByRecursion (IsOrder tag)) is rows)).put in
      let id : row.id ≡ id_at tag (order_put_of row).id = ap (λ (r : OrderRow). r.id) (sym back) in
      order_put front (order_put_of row) (subst (IsGiven tag ids) id (given_mid id_of tag ids front row rest here))
      (subst (λ (i : Id). AllByRecursion (λ (f : OrderRow). f.id.0 < i.0) front) id (below_mid id_of tag ids front row rest here))
      (subst (IsOther (secret_ids kept.state)) id (above_mid id_of (IsOther (secret_ids kept.state)) front row rest (subst (λ (all : List OrderRow). AreApart (map (λ (x : OrderRow). x.id) all) (secret_ids kept.state)) is secrets)))
      (subst (IsOther (container_ids kept.state)) id (above_mid id_of (IsOther (container_ids kept.state)) front row rest (subst (λ (all : List OrderRow). AreApart (map (λ (x : OrderRow). x.id) all) (container_ids kept.state)) is containers)))
      (subst (λ (r : OrderRow). NamesGiven tag ids r.state) (sym back) (all_mid (λ (r : OrderRow). NamesGiven tag ids r.state) front row rest (subst (AllByRecursion (λ (r : OrderRow). NamesGiven tag ids r.state)) is named)))
      (subst (λ (r : OrderRow). AllByRecursion (λ (f : OrderRow). NameApart f r) front) (sym back) (apart_mid front row rest (subst AllNameApart is apart)))
      ∙ ap (λ (r : OrderRow). let o : Option Kept = Some (with_orders kept (front ++ r ∷ [])) in o) back

  pub orders_built : Rises tag ids (order_ids kept.state) → AreApart (order_ids kept.state) (secret_ids kept.state) → AreApart (order_ids kept.state) (container_ids kept.state) → AreNamesGiven kept.state → AllNameApart kept.state.orders → AllByRecursion (IsOrder tag) kept.state.orders
      → after_changes Base (map (λ row. OrderPut (order_put_of row)) kept.state.orders) (with_orders kept []) ≡ Some (with_orders kept kept.state.orders)
  orders_built rises secrets containers named apart rows = built_singly (λ row. OrderPut (order_put_of row)) (with_orders kept) kept.state.orders (order_step rises secrets containers named apart rows)

  -- ---- quotas

  quota_step : Pairwise HaveOtherProjects kept.state.quotas → AllByRecursion IsQuota kept.state.quotas
      → (front : List QuotaRow) (row : QuotaRow) (rest : List QuotaRow) → kept.state.quotas ≡ front ++ row ∷ rest
      → after_changes Base (QuotaPut (quota_put_of row) ∷ []) (with_quotas kept front) ≡ Some (with_quotas kept (front ++ row ∷ []))
  quota_step once rows front row rest is =
      let back : quota_at row.project (quota_limits_of row) ≡ row = (all_mid IsQuota front row rest (subst (AllByRecursion IsQuota) is rows)).put in
      let others = pairwise_mid HaveOtherProjects front row rest (subst (Pairwise HaveOtherProjects) is once) in
      alone (QuotaPut (quota_put_of row)) (with_quotas kept front) (with_quotas kept (front ++ row ∷ [])) refl
      (ap (with_quotas kept) (put_after (λ (r : QuotaRow). bytes_eq row.project r.project) (quota_at row.project (quota_limits_of row)) front others ∙ ap (λ (r : QuotaRow). front ++ r ∷ []) back))

  pub quotas_built : Pairwise HaveOtherProjects kept.state.quotas → AllByRecursion IsQuota kept.state.quotas
      → after_changes Base (map (λ row. QuotaPut (quota_put_of row)) kept.state.quotas) (with_quotas kept []) ≡ Some (with_quotas kept kept.state.quotas)
  quotas_built once rows = built_singly (λ row. QuotaPut (quota_put_of row)) (with_quotas kept) kept.state.quotas (quota_step once rows)
