-- How a snapshot is spelled, and that it is one of the grammar.
use Rattle.std.proofs.Common.{◌≡◌, ℕ, ◌<◌, ◌^◌, ◌+◌, List, [], ◌∷◌, ◌++◌, map, length, Option, Some, None, refl, sym, ap, subst, ◌∙◌, append-nil, append_assoc, length-append, IfSome}
use Rattle.std.specs.Prelude.{option_map}
use Rattle.std.specs.List.{AllByRecursion, flat_map, sum_by}
use Rattle.std.proofs.lemmas.Grind.{flat_map-append}
use Rattle.std.proofs.lemmas.List.{length-map}
use Rattle.std.proofs.lemmas.List.Concat.{flat_map-cons, length-flat_map}
use Rattle.std.proofs.lemmas.List.Folds.{flat_map-map}
use Rattle.kms_world.specs.declared.payload.Payload.{Payload}
use Rattle.kms_world.specs.declared.secret.SecretRow.{SecretRow}
use Rattle.kms_record.specs.declared.change.Change.{Change}
use Rattle.kms_record.specs.declared.change.Change.TheVariants.{KeyAdded, SecretPut, PayloadPut, MetadataPut, ContainerPut, ConsumerAdded, AclPut, OrderPut, QuotaPut}
use Rattle.kms_record.specs.Base.{count_of, bytes_of, payload_put_of, metadata_put_of, container_put_of, consumer_added_of, acl_put_of, order_put_of, quota_put_of}
use Rattle.kms_record.specs.Fields.{u64_bytes}
use Rattle.kms_record.specs.Grammar.{IsChange, IsSnapshot, change_bytes, snapshot_bytes}
use Rattle.kms_record.specs.SecretPut.{put_of}
use Rattle.kms_kept.specs.Kept.{Kept}
use Rattle.kms_kept.specs.OfGrammar.{IsKey, IsSealedToken, IsSecret, IsContainer, IsConsumer, IsAcl, IsOrder, IsQuota, IsOfGrammar}
use Rattle.kms_kept.specs.Snapshot.{token_changes, payload_changes, metadata_changes, secret_changes, snapshot_of, spelled_rows, sealed, sealed_row}
use Rattle.kms_kept.specs.Sound.{IsSound}

-- ---- row by row

-- a list of changes after another
and_then : (a b : List Change) (x y : List ℕ) → flat_map change_bytes a ≡ x → flat_map change_bytes b ≡ y → flat_map change_bytes (a ++ b) ≡ x ++ y
and_then a b x y first second = flat_map-append change_bytes a b ∙ ap (λ (t : List ℕ). t ++ flat_map change_bytes b) first ∙ ap (λ (t : List ℕ). x ++ t) second

secrets_spelled : (rows : List SecretRow) → flat_map change_bytes (flat_map secret_changes rows) ≡ flat_map (λ row. flat_map change_bytes (secret_changes row)) rows
secrets_spelled [] = refl
secrets_spelled (row ∷ rows) =
    ap (flat_map change_bytes) (flat_map-cons secret_changes row rows)
    ∙ and_then (secret_changes row) (flat_map secret_changes rows) (flat_map change_bytes (secret_changes row)) (flat_map (λ r. flat_map change_bytes (secret_changes r)) rows) refl (secrets_spelled rows)
    ∙ sym (flat_map-cons (λ r. flat_map change_bytes (secret_changes r)) row rows)

pub rows_spelled : (kept : Kept) → snapshot_bytes (snapshot_of kept) ≡ u64_bytes (length (snapshot_of kept)) ++ spelled_rows kept
rows_spelled kept =
    let s = kept.state in
    ap (λ (t : List ℕ). u64_bytes (length (snapshot_of kept)) ++ t)
    (and_then _ _ _ _
    (and_then _ _ _ _
    (and_then _ _ _ _
    (and_then _ _ _ _
    (and_then _ _ _ _
    (and_then (map (λ key. KeyAdded key) kept.keys) (flat_map secret_changes s.secrets) _ _ (flat_map-map change_bytes (λ key. KeyAdded key) kept.keys) (secrets_spelled s.secrets))
    (flat_map-map change_bytes (λ row. ContainerPut (container_put_of row)) s.containers))
    (flat_map-map change_bytes (λ row. ConsumerAdded (consumer_added_of row)) s.consumers))
    (flat_map-map change_bytes (λ row. AclPut (acl_put_of row)) s.acls))
    (flat_map-map change_bytes (λ row. OrderPut (order_put_of row)) s.orders))
    (flat_map-map change_bytes (λ row. QuotaPut (quota_put_of row)) s.quotas))

payload_spelled : (row : SecretRow) (number : ℕ) (payload : Option Payload) → flat_map change_bytes (payload_changes (sealed_row number row) (option_map (sealed number) payload)) ≡ bytes_of (option_map (λ p. PayloadPut (payload_put_of row number p)) payload)
payload_spelled row number None = refl
payload_spelled row number (Some payload) = flat_map-cons change_bytes (PayloadPut (payload_put_of row number payload)) [] ∙ append-nil (change_bytes (PayloadPut (payload_put_of row number payload)))

metadata_same : (row : SecretRow) (number : ℕ) (pairs : List (List ℕ × List ℕ)) → metadata_changes (sealed_row number row) pairs ≡ metadata_changes row pairs
metadata_same row number [] = refl
metadata_same row number (pair ∷ pairs) = refl

pub secret_spelled : (row : SecretRow) (number : ℕ) → flat_map change_bytes (secret_changes (sealed_row number row))
    ≡ change_bytes (SecretPut (put_of (count_of row.id) row)) ++ bytes_of (option_map (λ payload. PayloadPut (payload_put_of row number payload)) row.payload) ++ flat_map change_bytes (metadata_changes row row.metadata)
secret_spelled row number =
    let put = SecretPut (put_of (count_of row.id) row) in
    let payload = payload_changes (sealed_row number row) (sealed_row number row).payload in
    let metadata = metadata_changes (sealed_row number row) row.metadata in
    flat_map-cons change_bytes put (payload ++ metadata)
    ∙ ap (λ (t : List ℕ). change_bytes put ++ t) (and_then payload metadata _ _ (payload_spelled row number row.payload) (ap (flat_map change_bytes) (metadata_same row number row.metadata)))
    ∙ sym (append_assoc (change_bytes put) _ _)

-- ---- how many changes

pub rows_counted : (kept : Kept) → length (snapshot_of kept)
    ≡ length kept.keys + sum_by (λ row. length (secret_changes row)) kept.state.secrets + length kept.state.containers + length kept.state.consumers + length kept.state.acls + length kept.state.orders + length kept.state.quotas
rows_counted kept = simp (length-append, length-map, length-flat_map)

-- ---- of the grammar

all_append : {X : Type 0} (P : X → Type 0) (xs ys : List X) → AllByRecursion P xs → AllByRecursion P ys → AllByRecursion P (xs ++ ys)
all_append {X} P [] ys a b = b
all_append {X} P (x ∷ xs) ys a b = (a.0, all_append P xs ys a.1 b)

all_map : {X Y : Type 0} (P : Y → Type 0) (f : X → Y) (Q : X → Type 0) → ((x : X) → Q x → P (f x)) → (xs : List X) → AllByRecursion Q xs → AllByRecursion P (map f xs)
all_map {X} {Y} P f Q step [] each = tt
all_map {X} {Y} P f Q step (x ∷ xs) each = (step x each.0, all_map P f Q step xs each.1)

all_flat_map : {X Y : Type 0} (P : Y → Type 0) (f : X → List Y) (Q : X → Type 0) → ((x : X) → Q x → AllByRecursion P (f x)) → (xs : List X) → AllByRecursion Q xs → AllByRecursion P (flat_map f xs)
all_flat_map {X} {Y} P f Q step [] each = tt
all_flat_map {X} {Y} P f Q step (x ∷ xs) each = subst (AllByRecursion P) (sym (flat_map-cons f x xs)) (all_append P (f x) (flat_map f xs) (step x each.0) (all_flat_map P f Q step xs each.1))

token_fits : (row : SecretRow) (payload : Payload) (bytes : List ℕ) → IsSealedToken row payload bytes → AllByRecursion IsChange (token_changes row payload bytes)
token_fits row payload [] h = absurd h
token_fits row payload (number ∷ token) h = (h, tt)

payload_fits : (row : SecretRow) (payload : Option Payload) → IfSome payload (λ p. IsSealedToken row p p.bytes) → AllByRecursion IsChange (payload_changes row payload)
payload_fits row None h = tt
payload_fits row (Some payload) h = token_fits row payload payload.bytes h

metadata_fits : (row : SecretRow) (pairs : List (List ℕ × List ℕ)) → IsChange (MetadataPut (metadata_put_of row)) → AllByRecursion IsChange (metadata_changes row pairs)
metadata_fits row [] h = tt
metadata_fits row (pair ∷ pairs) h = (h, tt)

secret_fits : (tag : ℕ) (row : SecretRow) → IsSecret tag row → AllByRecursion IsChange (secret_changes row)
secret_fits tag row h = (h.attributes, all_append IsChange (payload_changes row row.payload) (metadata_changes row row.metadata) (payload_fits row row.payload h.payload) (metadata_fits row row.metadata h.metadata))

pub snapshot_fits : (kept : Kept) → IsOfGrammar kept → AllByRecursion IsChange (snapshot_of kept)
snapshot_fits kept g =
    let s = kept.state in
    all_append IsChange _ _
    (all_append IsChange _ _
    (all_append IsChange _ _
    (all_append IsChange _ _
    (all_append IsChange _ _
    (all_append IsChange (map (λ key. KeyAdded key) kept.keys) (flat_map secret_changes s.secrets)
    (all_map IsChange (λ key. KeyAdded key) IsKey (λ key h. h) kept.keys g.keys)
    (all_flat_map IsChange secret_changes (IsSecret s.tag) (secret_fits s.tag) s.secrets g.secrets))
    (all_map IsChange (λ row. ContainerPut (container_put_of row)) (IsContainer s.tag) (λ row h. h.grammar) s.containers g.containers))
    (all_map IsChange (λ row. ConsumerAdded (consumer_added_of row)) (IsConsumer s.tag) (λ row h. h.grammar) s.consumers g.consumers))
    (all_map IsChange (λ row. AclPut (acl_put_of row)) (IsAcl s.tag) (λ row h. h.grammar) s.acls g.acls))
    (all_map IsChange (λ row. OrderPut (order_put_of row)) (IsOrder s.tag) (λ row h. h.grammar) s.orders g.orders))
    (all_map IsChange (λ row. QuotaPut (quota_put_of row)) IsQuota (λ row h. h.grammar) s.quotas g.quotas)

pub snapshot_is_one : (kept : Kept) → IsSound kept → length (snapshot_of kept) < 2 ^ 64 → IsSnapshot (snapshot_bytes (snapshot_of kept)) (snapshot_of kept)
snapshot_is_one kept s few = record { spelled = refl; admitted = record { few = few; each = snapshot_fits kept s.grammar } }
