-- Each row is one that a change of the grammar puts, whatever change of the grammar applies.
use Rattle.std.proofs.Common.{◌≡◌, ℕ, ◌<◌, ◌^◌, not, List, [], ◌∷◌, Option, Some, None, sym, ap, subst, arith, IfSome}
use Rattle.std.specs.Prelude.{option_map}
use Rattle.std.specs.List.{AllByRecursion}
use Rattle.std.specs.Str.{bytes_eq}
use Rattle.kms_world.specs.Effect.{is_consumer, with_payload, with_metadata, after_effect, ids_with}
use Rattle.kms_world.specs.Id.{id_at, is_id}
use Rattle.kms_world.specs.Pairs.{Ascends}
use Rattle.kms_world.specs.State.{State}
use Rattle.kms_world.specs.Times.{end_of_times}
use Rattle.kms_world.specs.declared.payload.Payload.{Payload}
use Rattle.kms_world.specs.declared.secret.SecretRow.{SecretRow}
use Rattle.kms_record.specs.declared.change.Change.{Change}
use Rattle.kms_record.specs.declared.change.Change.TheVariants.{KeyAdded, KeyRewrapped, TokenReplaced, KeyDropped, SecretPut, PayloadPut, MetadataPut, ContainerPut, ConsumerAdded, ConsumerDropped, AclPut, AclDropped, OrderPut, QuotaPut, Deleted}
use Rattle.kms_record.specs.declared.key.WrappedKey.{WrappedKey}
use Rattle.kms_record.specs.declared.metadata.MetadataPut.{MetadataPut as Metadata}
use Rattle.kms_record.specs.declared.payload.PayloadPut.{PayloadPut as PayloadChange}
use Rattle.kms_record.specs.declared.payload.TokenReplaced.{TokenReplaced as Replacement}
use Rattle.kms_record.specs.declared.quota.QuotaLimits.{QuotaLimits}
use Rattle.kms_record.specs.declared.secret_put.SecretPut.{SecretPut as Secret}
use Rattle.kms_record.specs.Base.{count_of}
use Rattle.kms_record.specs.ChangeEffect.{container_at, consumer_at, acl_at, order_at, quota_at, quota_effect}
use Rattle.kms_record.specs.Grammar.{IsChange}
use Rattle.kms_record.specs.SecretPut.{row_of, put_of}
use Rattle.kms_record.proofs.PairwiseLaws.{all_push}
use Rattle.kms_kept.specs.Kept.{Kept, changed, is_key, token_replaced}
use Rattle.kms_kept.specs.OfGrammar.{IsKey, IsSealedToken, IsSecret, IsContainer, IsConsumer, IsAcl, IsOrder, IsQuota, IsOfGrammar}
use Rattle.kms_kept.proofs.CountLaws.{count_back, id_back}
use Rattle.kms_kept.proofs.JoinedLaws.{all_put}
use Rattle.kms_kept.proofs.KeptLists.{all_filter, all_rows}
use Rattle.kms_kept.proofs.KeyNumberLaws.{all_insert}
use Rattle.kms_kept.proofs.RowLaws.{container_of_grammar, consumer_of_grammar, acl_of_grammar, order_of_grammar, quota_of_grammar}

-- ---- keys

rewrapped_key : (key other : WrappedKey) → IsKey key → IsKey other → (let after : WrappedKey = record other { wrapped = key.wrapped } in IsKey after)
rewrapped_key key other new old = (record { project = old.0.project; wrapped = new.0.wrapped }, record { project = old.1.project; number = old.1.number })

-- ---- secrets

no_pairs : Ascends []
no_pairs = record { below = λ i j d lt few. absurd (omega (arith, few)) }

put_back : (tag : ℕ) (put : Secret) → IsChange (SecretPut put) → put_of (count_of (row_of tag put).id) (row_of tag put) ≡ put
put_back tag put fits = ap (λ (n : ℕ). let p : Secret = record put { id = n } in p) (count_back tag put.id fits.0.id)

secret_of_grammar : (tag : ℕ) (put : Secret) → IsChange (SecretPut put) → IsSecret tag (row_of tag put)
secret_of_grammar tag put fits =
    let back = count_back tag put.id fits.0.id in
    record {
      id = id_back tag put.id fits.0.id;
      attributes = subst (λ (p : Secret). IsChange (SecretPut p)) (sym (put_back tag put fits)) fits;
      payload = tt;
      metadata = (
        record {
          secret = subst (λ (n : ℕ). n < 2 ^ 62) (sym back) fits.0.id;
          updated = fits.0.updated;
          pairs = record { few = omega arith; each = tt };
        },
        record { pairs = record { each = tt; ascending = no_pairs } },
      );
    }

later_token : (row : SecretRow) (payload : Payload) (updated : ℕ) (sealed : List ℕ) → updated < end_of_times → IsSealedToken row payload sealed → (let after : SecretRow = record row { updated = updated } in IsSealedToken after payload sealed)
later_token row payload updated [] lt h = absurd h
later_token row payload updated (number ∷ token) lt h = (record { secret = h.0.secret; updated = lt; token = h.0.token }, record { number = h.1.number })

later_payload : (row : SecretRow) (payload : Option Payload) (updated : ℕ) → updated < end_of_times → IfSome payload (λ p. IsSealedToken row p p.bytes) → (let after : SecretRow = record row { updated = updated } in IfSome payload (λ p. IsSealedToken after p p.bytes))
later_payload row None updated lt h = tt
later_payload row (Some p) updated lt h = later_token row p updated p.bytes lt h

-- all but the payload and the metadata, later
later_attributes : (tag : ℕ) (row : SecretRow) (updated : ℕ) → updated < end_of_times → IsSecret tag row → (let after : SecretRow = record row { updated = updated } in IsChange (SecretPut (put_of (count_of row.id) after)))
later_attributes tag row updated lt h = (
  record {
    id = h.attributes.0.id;
    project = h.attributes.0.project;
    creator = h.attributes.0.creator;
    created = h.attributes.0.created;
    updated = lt;
    name = h.attributes.0.name;
    algorithm = h.attributes.0.algorithm;
    bit_length = h.attributes.0.bit_length;
    mode = h.attributes.0.mode;
    expiration = h.attributes.0.expiration;
  },
  record {
    project = h.attributes.1.project;
    creator = h.attributes.1.creator;
    name = h.attributes.1.name;
    algorithm = h.attributes.1.algorithm;
    mode = h.attributes.1.mode;
  },
)

sealed_secret : (tag : ℕ) (row : SecretRow) (put : PayloadChange) → IsChange (PayloadPut put) → IsSecret tag row → IsSecret tag (with_payload put.updated (record { media = put.media; bytes = put.number ∷ put.token }) row)
sealed_secret tag row put fits h = record {
  id = h.id;
  attributes = later_attributes tag row put.updated fits.0.updated h;
  payload = (record { secret = h.attributes.0.id; updated = fits.0.updated; token = fits.0.token }, record { number = fits.1.number });
  metadata = (record { secret = h.metadata.0.secret; updated = fits.0.updated; pairs = h.metadata.0.pairs }, record { pairs = h.metadata.1.pairs });
}

marked_secret : (tag : ℕ) (row : SecretRow) (put : Metadata) → IsChange (MetadataPut put) → IsSecret tag row → IsSecret tag (with_metadata put.updated put.pairs row)
marked_secret tag row put fits h = record {
  id = h.id;
  attributes = later_attributes tag row put.updated fits.0.updated h;
  payload = later_payload row row.payload put.updated fits.0.updated h.payload;
  metadata = (record { secret = h.metadata.0.secret; updated = fits.0.updated; pairs = fits.0.pairs }, record { pairs = fits.1.pairs });
}

replaced_payload : (row : SecretRow) (put : Replacement) (payload : Option Payload) → IsChange (TokenReplaced put) → count_of row.id < 2 ^ 62 → row.updated < end_of_times
    → (let after = token_replaced (put.number ∷ put.token) row in IfSome (option_map (λ (p : Payload). let q : Payload = record p { bytes = put.number ∷ put.token } in q) payload) (λ p. IsSealedToken after p p.bytes))
replaced_payload row put None fits count time = tt
replaced_payload row put (Some p) fits count time = (record { secret = count; updated = time; token = fits.0.token }, record { number = fits.1.number })

replaced_secret : (tag : ℕ) (row : SecretRow) (put : Replacement) → IsChange (TokenReplaced put) → IsSecret tag row → IsSecret tag (token_replaced (put.number ∷ put.token) row)
replaced_secret tag row put fits h = record {
  id = h.id;
  attributes = h.attributes;
  payload = replaced_payload row put row.payload fits h.attributes.0.id h.attributes.0.updated;
  metadata = h.metadata;
}

-- ---- every change

with_secrets : (kept : Kept) (ids : ℕ) (rows : List SecretRow) → IsOfGrammar kept → AllByRecursion (IsSecret kept.state.tag) rows → (let s : State = record kept.state { ids = ids; secrets = rows } in let after : Kept = record { state = s; keys = kept.keys } in IsOfGrammar after)
with_secrets kept ids rows g each = record { keys = g.keys; secrets = each; containers = g.containers; consumers = g.consumers; acls = g.acls; orders = g.orders; quotas = g.quotas }

with_keys : (kept : Kept) (keys : List WrappedKey) → IsOfGrammar kept → AllByRecursion IsKey keys → (let after : Kept = record { state = kept.state; keys = keys } in IsOfGrammar after)
with_keys kept keys g each = record { keys = each; secrets = g.secrets; containers = g.containers; consumers = g.consumers; acls = g.acls; orders = g.orders; quotas = g.quotas }

quota_grammar : (project : List ℕ) (limits : Option QuotaLimits) (kept : Kept) → IsChange (QuotaPut (record { project = project; limits = limits })) → IsOfGrammar kept
    → (let after : Kept = record { state = after_effect (quota_effect project limits) kept.state; keys = kept.keys } in IsOfGrammar after)
quota_grammar project None kept fits g = record {
  keys = g.keys;
  secrets = g.secrets;
  containers = g.containers;
  consumers = g.consumers;
  acls = g.acls;
  orders = g.orders;
  quotas = all_filter IsQuota (λ r. not (bytes_eq project r.project)) kept.state.quotas g.quotas;
}
quota_grammar project (Some limits) kept fits g = record {
  keys = g.keys;
  secrets = g.secrets;
  containers = g.containers;
  consumers = g.consumers;
  acls = g.acls;
  orders = g.orders;
  quotas = all_put IsQuota (λ r. bytes_eq project r.project) (quota_at project limits) kept.state.quotas (quota_of_grammar project limits fits) g.quotas;
}

pub change_grammar : (change : Change) (kept : Kept) → IsChange change → IsOfGrammar kept → IsOfGrammar (changed change kept)
change_grammar (KeyAdded key) kept fits g = with_keys kept _ g (all_insert IsKey key kept.keys fits g.keys)
change_grammar (KeyRewrapped key) kept fits g = with_keys kept _ g (all_rows IsKey (is_key key.project key.number) (λ other. record other { wrapped = key.wrapped }) (λ other old. rewrapped_key key other fits old) kept.keys g.keys)
change_grammar (KeyDropped put) kept fits g = with_keys kept _ g (all_filter IsKey (λ k. not (is_key put.project put.number k)) kept.keys g.keys)
change_grammar (TokenReplaced put) kept fits g =
    let s = kept.state in
    with_secrets kept s.ids _ g (all_rows (IsSecret s.tag) (λ r. is_id (id_at s.tag put.secret) r.id) (token_replaced (put.number ∷ put.token)) (λ row h. replaced_secret s.tag row put fits h) s.secrets g.secrets)
change_grammar (SecretPut put) kept fits g =
    let s = kept.state in
    with_secrets kept (ids_with (id_at s.tag put.id) s) _ g (all_push (IsSecret s.tag) s.secrets (row_of s.tag put) g.secrets (secret_of_grammar s.tag put fits))
change_grammar (PayloadPut put) kept fits g =
    let s = kept.state in
    with_secrets kept s.ids _ g (all_rows (IsSecret s.tag) (λ r. is_id (id_at s.tag put.secret) r.id) (with_payload put.updated (record { media = put.media; bytes = put.number ∷ put.token })) (λ row h. sealed_secret s.tag row put fits h) s.secrets g.secrets)
change_grammar (MetadataPut put) kept fits g =
    let s = kept.state in
    with_secrets kept s.ids _ g (all_rows (IsSecret s.tag) (λ r. is_id (id_at s.tag put.secret) r.id) (with_metadata put.updated put.pairs) (λ row h. marked_secret s.tag row put fits h) s.secrets g.secrets)
change_grammar (ContainerPut put) kept fits g =
    let s = kept.state in
    record {
      keys = g.keys;
      secrets = g.secrets;
      containers = all_put (IsContainer s.tag) (λ r. is_id (id_at s.tag put.id) r.id) (container_at s.tag put) s.containers (container_of_grammar s.tag put fits) g.containers;
      consumers = g.consumers;
      acls = g.acls;
      orders = g.orders;
      quotas = g.quotas;
    }
change_grammar (ConsumerAdded put) kept fits g =
    let s = kept.state in
    record {
      keys = g.keys;
      secrets = g.secrets;
      containers = g.containers;
      consumers = all_push (IsConsumer s.tag) s.consumers (consumer_at s.tag put) g.consumers (consumer_of_grammar s.tag put fits);
      acls = g.acls;
      orders = g.orders;
      quotas = g.quotas;
    }
change_grammar (ConsumerDropped put) kept fits g =
    let s = kept.state in
    record {
      keys = g.keys;
      secrets = g.secrets;
      containers = g.containers;
      consumers = all_filter (IsConsumer s.tag) (λ r. not (is_consumer (id_at s.tag put.container) put.name put.url r)) s.consumers g.consumers;
      acls = g.acls;
      orders = g.orders;
      quotas = g.quotas;
    }
change_grammar (AclPut put) kept fits g =
    let s = kept.state in
    record {
      keys = g.keys;
      secrets = g.secrets;
      containers = g.containers;
      consumers = g.consumers;
      acls = all_put (IsAcl s.tag) (λ r. is_id (id_at s.tag put.target) r.target) (acl_at s.tag put) s.acls (acl_of_grammar s.tag put fits) g.acls;
      orders = g.orders;
      quotas = g.quotas;
    }
change_grammar (AclDropped id) kept fits g =
    let s = kept.state in
    record {
      keys = g.keys;
      secrets = g.secrets;
      containers = g.containers;
      consumers = g.consumers;
      acls = all_filter (IsAcl s.tag) (λ r. not (is_id (id_at s.tag id) r.target)) s.acls g.acls;
      orders = g.orders;
      quotas = g.quotas;
    }
change_grammar (OrderPut put) kept fits g =
    let s = kept.state in
    record {
      keys = g.keys;
      secrets = g.secrets;
      containers = g.containers;
      consumers = g.consumers;
      acls = g.acls;
      orders = all_put (IsOrder s.tag) (λ r. is_id (id_at s.tag put.id) r.id) (order_at s.tag put) s.orders (order_of_grammar s.tag put fits) g.orders;
      quotas = g.quotas;
    }
change_grammar (QuotaPut put) kept fits g = quota_grammar put.project put.limits kept fits g
change_grammar (Deleted id) kept fits g =
    let s = kept.state in
    let gone = id_at s.tag id in
    record {
      keys = g.keys;
      secrets = all_filter (IsSecret s.tag) (λ r. not (is_id gone r.id)) s.secrets g.secrets;
      containers = all_filter (IsContainer s.tag) (λ r. not (is_id gone r.id)) s.containers g.containers;
      consumers = all_filter (IsConsumer s.tag) (λ r. not (is_id gone r.container)) s.consumers g.consumers;
      acls = all_filter (IsAcl s.tag) (λ r. not (is_id gone r.target)) s.acls g.acls;
      orders = all_filter (IsOrder s.tag) (λ r. not (is_id gone r.id)) s.orders g.orders;
      quotas = g.quotas;
    }
