-- What is kept stays opened by every change.
use Rattle.std.proofs.Common.{◌≡◌, ℕ, Bool, true, false, not, cond, eqb, List, [], ◌∷◌, ◌++◌, map, Option, Some, None, refl, sym, ap, subst, ◌∙◌}
use Rattle.std.specs.Prelude.{◌&&◌, option_map, option_to_list, option_and_then}
use Rattle.std.specs.List.{AllByRecursion, AllZip}
use Rattle.std.specs.Str.{bytes_eq}
use Rattle.std.proofs.lemmas.Bool.{and_parts, and_from, eqb-true, eq-eqb, not-true, not_from_false, false_from_ne_true}
use Rattle.std.proofs.lemmas.Slice.Eq.{bytes_eq-Decides}
use Rattle.std.proofs.lemmas.List.{map-id}
use Rattle.kms_ring.specs.Ring.{IsUnwrapped}
use Rattle.kms_world.specs.Id.{id_at, is_id}
use Rattle.kms_world.specs.State.{State}
use Rattle.kms_world.specs.Effect.{Effect, with_payload, with_metadata, change_rows, drop_rows, after_effect, after_effects, after_optional}
use Rattle.kms_world.specs.Effect as effects
use Rattle.kms_world.specs.declared.id.Id.{Id}
use Rattle.kms_world.specs.declared.payload.Media.{Media}
use Rattle.kms_world.specs.declared.payload.Payload.{Payload}
use Rattle.kms_world.specs.declared.secret.SecretRow.{SecretRow}
use Rattle.kms_record.specs.declared.change.Change.{Change}
use Rattle.kms_record.specs.declared.change.Change.TheVariants.{KeyAdded, KeyRewrapped, TokenReplaced, KeyDropped, SecretPut, PayloadPut, MetadataPut, ContainerPut, ConsumerAdded, ConsumerDropped, AclPut, AclDropped, OrderPut, QuotaPut, Deleted}
use Rattle.kms_record.specs.declared.key.WrappedKey.{WrappedKey}
use Rattle.kms_record.specs.declared.quota.QuotaLimits.{QuotaLimits}
use Rattle.kms_record.specs.ChangeEffect.{container_at, order_at, acl_at, quota_at, quota_effect, effect_of}
use Rattle.kms_kept.specs.Kept.{Kept, Part, applies, changed, is_key, key_of, insert_key, is_under, token_replaced, with_token, after_change, after_changes}
use Rattle.kms_kept.specs.Rising.{IsRising}
use Rattle.kms_record.specs.SecretPut.{row_of}
use Rattle.kms_kept.proofs.KeptLists.{all_filter, all_passed, find_map, find_filter}
use Rattle.kms_kept.proofs.KeyLookUps.{key_stays}
use Rattle.kms_kept.proofs.KeyNumberLaws.{all_insert}
use Rattle.kms_kept.proofs.RisingLaws.{change_rises}
use Rattle.kms_opened.specs.Opened.{KeyOpens, OpensUnder, OpensSealed, OpensPayload, OpensRow, Opened, besides}
use Rattle.kms_opened.specs.Steps.{OpensTo, HaveEffects, LeadTo}
use Rattle.kms_opened.proofs.LookUps.{only_one}
use Rattle.kms_opened.proofs.Zips.{all_map, all_any, zip_push, zip_to, zip_map, zip_filter, find_passes}

-- ---- all but the secrets

-- what an effect does to the rest, it does whatever the secrets are
besides_after : (e : Effect) (s : State) → besides (after_effect e s) ≡ besides (after_effect e (besides s))
besides_after (effects.SecretPut row) s = refl
besides_after (effects.PayloadPut id updated payload) s = refl
besides_after (effects.MetadataPut id updated pairs) s = refl
besides_after (effects.ContainerPut row) s = refl
besides_after (effects.ConsumerAdded row) s = refl
besides_after (effects.ConsumerDropped id name url) s = refl
besides_after (effects.AclPut row) s = refl
besides_after (effects.AclDropped id) s = refl
besides_after (effects.OrderPut row) s = refl
besides_after (effects.QuotaPut row) s = refl
besides_after (effects.QuotaDropped project) s = refl
besides_after (effects.Deleted id) s = refl

besides_both : (e : Effect) (a b : State) → besides a ≡ besides b → besides (after_effect e a) ≡ besides (after_effect e b)
besides_both e a b same = besides_after e a ∙ ap (λ (s : State). besides (after_effect e s)) same ∙ sym (besides_after e b)

-- ---- one row

at_key : (project other : List ℕ) (n m : ℕ) → (bytes_eq project other && eqb n m) ≡ true → (project ≡ other) × (n ≡ m)
at_key project other n m e = let p = and_parts (bytes_eq project other) (eqb n m) e in ((bytes_eq-Decides project other).0 p.0, eqb-true n m p.1)

module _ (masters : List (List ℕ)) where
  -- a payload that opens under some keys opens under others, if its token does
  payload_moves : (keys changed : List WrappedKey) (project : List ℕ) (a b : Option Payload)
      → ((p : Payload) (bytes : List ℕ) → a ≡ Some p → OpensSealed masters keys project p.bytes bytes → OpensSealed masters changed project p.bytes bytes)
      → OpensPayload masters keys project a b → OpensPayload masters changed project a b
  payload_moves keys changed project None None move h = tt
  payload_moves keys changed project None (Some q) move h = absurd h
  payload_moves keys changed project (Some p) None move h = absurd h
  payload_moves keys changed project (Some p) (Some q) move h = (h.0, move p q.bytes refl h.1)

  row_moves : (keys changed : List WrappedKey) (x y : SecretRow)
      → ((p : Payload) (bytes : List ℕ) → x.payload ≡ Some p → OpensSealed masters keys x.project p.bytes bytes → OpensSealed masters changed x.project p.bytes bytes)
      → OpensRow masters keys x y → OpensRow masters changed x y
  row_moves keys changed x y move r = record { same = r.same; payload = payload_moves keys changed x.project x.payload y.payload move r.payload }

  same_id : (keys : List WrappedKey) (x y : SecretRow) → OpensRow masters keys x y → y.id ≡ x.id
  same_id keys x y r = ap (λ (z : SecretRow). z.id) r.same

  -- under other keys, if each key that is looked up and opens is still there and opens to the same
  token_moves : (keys changed : List WrappedKey) (project sealed bytes : List ℕ)
      → ((number : ℕ) (token : List ℕ) (row : WrappedKey) (key : List ℕ) → sealed ≡ number ∷ token → key_of project number keys ≡ Some row → IsUnwrapped masters row.wrapped key
      → (other : WrappedKey) × (key_of project number changed ≡ Some other) × IsUnwrapped masters other.wrapped key)
      → OpensSealed masters keys project sealed bytes → OpensSealed masters changed project sealed bytes
  token_moves keys changed project sealed bytes move t =
      let m = move t.number t.token t.opens.row t.opens.key t.is t.opens.there t.opens.unwraps in
      record {
        number = t.number;
        token = t.token;
        is = t.is;
        opens = record { row = m.0; there = m.1; key = t.opens.key; unwraps = m.2; opens = t.opens.opens; some = t.opens.some; few = t.opens.few };
      }

  -- ---- a payload comes

  payload_row : (keys : List WrappedKey) (id : Id) (number updated : ℕ) (media : Media) (token bytes : List ℕ) (x y : SecretRow)
      → (is_id id x.id ≡ true → OpensUnder masters keys x.project number token bytes) → OpensRow masters keys x y
      → (b c : Bool) → is_id id x.id ≡ b → b ≡ c
      → (let sealed : Payload = record { media = media; bytes = number ∷ token } in let plain : Payload = record { media = media; bytes = bytes } in
      OpensRow masters keys (cond b (with_payload updated sealed x) x) (cond c (with_payload updated plain y) y))
  payload_row keys id number updated media token bytes x y under r true true at same =
      let plain : Payload = record { media = media; bytes = bytes } in
      record { same = ap (with_payload updated plain) r.same; payload = (refl, record { number = number; token = token; is = refl; opens = under at }) }
  payload_row keys id number updated media token bytes x y under r false false at same = r
  payload_row keys id number updated media token bytes x y under r true false at same = absurd cc
  payload_row keys id number updated media token bytes x y under r false true at same = absurd cc

  metadata_row : (keys : List WrappedKey) (updated : ℕ) (pairs : List (List ℕ × List ℕ)) (x y : SecretRow)
      → OpensRow masters keys x y → (b c : Bool) → b ≡ c
      → OpensRow masters keys (cond b (with_metadata updated pairs x) x) (cond c (with_metadata updated pairs y) y)
  metadata_row keys updated pairs x y r true true same = record { same = ap (with_metadata updated pairs) r.same; payload = r.payload }
  metadata_row keys updated pairs x y r false false same = r
  metadata_row keys updated pairs x y r true false same = absurd cc
  metadata_row keys updated pairs x y r false true same = absurd cc

  -- ---- a token in the place of another

  token_payload : (keys : List WrappedKey) (number : ℕ) (token project : List ℕ) (a b : Option Payload)
      → ((p : Payload) (bytes : List ℕ) → a ≡ Some p → OpensSealed masters keys project p.bytes bytes → OpensUnder masters keys project number token bytes)
      → OpensPayload masters keys project a b → OpensPayload masters keys project (option_map (with_token (number ∷ token)) a) b
  token_payload keys number token project None None opens h = tt
  token_payload keys number token project None (Some q) opens h = absurd h
  token_payload keys number token project (Some p) None opens h = absurd h
  token_payload keys number token project (Some p) (Some q) opens h = (h.0, record { number = number; token = token; is = refl; opens = opens p q.bytes refl h.1 })

  token_row : (keys : List WrappedKey) (secret : Id) (number : ℕ) (token : List ℕ) (x y : SecretRow)
      → (is_id secret x.id ≡ true → (p : Payload) (bytes : List ℕ) → x.payload ≡ Some p → OpensSealed masters keys x.project p.bytes bytes → OpensUnder masters keys x.project number token bytes)
      → OpensRow masters keys x y → (b : Bool) → is_id secret x.id ≡ b → OpensRow masters keys (cond b (token_replaced (number ∷ token) x) x) y
  token_row keys secret number token x y opens r true at = record { same = r.same; payload = token_payload keys number token x.project x.payload y.payload (opens at) r.payload }
  token_row keys secret number token x y opens r false at = r

  -- ---- keys

  renewed : WrappedKey → WrappedKey → WrappedKey
  renewed key other = cond (is_key key.project key.number other) (record other { wrapped = key.wrapped }) other

  renewed_step : (key other : WrappedKey) (project : List ℕ) (number : ℕ) (b : Bool) → is_key project number (cond b (record other { wrapped = key.wrapped }) other) ≡ is_key project number other
  renewed_step key other project number true = refl
  renewed_step key other project number false = refl

  renewed_same : (key other : WrappedKey) (project : List ℕ) (number : ℕ) → is_key project number (renewed key other) ≡ is_key project number other
  unfolding renewed
  renewed_same key other project number = renewed_step key other project number (is_key key.project key.number other)

  unwraps_step : (key other : WrappedKey) (b : Bool) → KeyOpens masters key → KeyOpens masters other → KeyOpens masters (cond b (record other { wrapped = key.wrapped }) other)
  unwraps_step key other true new old = record { key = new.key; opens = new.opens }
  unwraps_step key other false new old = old

  -- where two look-ups pass one row, they are one
  one_key : (keys : List WrappedKey) (project other : List ℕ) (number n : ℕ) (row : WrappedKey)
      → key_of project number keys ≡ Some row → is_key other n row ≡ true → key_of other n keys ≡ Some row
  one_key keys project other number n row there at =
      let mine = at_key project row.project number row.number (find_passes (is_key project number) keys row there) in
      let yours = at_key other row.project n row.number at in
      subst (λ (p : List ℕ). key_of p n keys ≡ Some row) (mine.0 ∙ sym yours.0)
      (subst (λ (m : ℕ). key_of project m keys ≡ Some row) (mine.1 ∙ sym yours.1) there)

  renewed_opens : (keys : List WrappedKey) (key row : WrappedKey) (plain : List ℕ) (b : Bool) → is_key key.project key.number row ≡ b
      → (is_key key.project key.number row ≡ true → IsUnwrapped masters key.wrapped plain) → IsUnwrapped masters row.wrapped plain
      → IsUnwrapped masters (cond b (record row { wrapped = key.wrapped }) row).wrapped plain
  renewed_opens keys key row plain true at new old = new at
  renewed_opens keys key row plain false at new old = old

  renewed_there : (keys : List WrappedKey) (key row : WrappedKey) (project : List ℕ) (number : ℕ) → key_of project number keys ≡ Some row
      → key_of project number (map (renewed key) keys) ≡ Some (renewed key row)
  renewed_there keys key row project number there =
      find_map (is_key project number) (renewed key) (λ x. renewed_same key x project number) keys ∙ ap (option_map (renewed key)) there

  -- no token is under a key that is dropped
  not_dropped : (project : List ℕ) (n : ℕ) (x : SecretRow) (p : Payload) (number : ℕ) (token : List ℕ) (k : WrappedKey)
      → not (is_under project n x) ≡ true → x.payload ≡ Some p → p.bytes ≡ number ∷ token
      → is_key x.project number k ≡ true → not (is_key project n k) ≡ true
  not_dropped project n x p number token k free put is at =
      not_from_false (is_key project n k) (false_from_ne_true (is_key project n k) (λ dropped.
      let mine = at_key x.project k.project number k.number at in
      let gone = at_key project k.project n k.number dropped in
      let under : is_under project n x ≡ true = rw (put, is) (and_from _ _ ((bytes_eq-Decides project x.project).1 (gone.0 ∙ sym mine.0)) (eq-eqb number n (mine.1 ∙ sym gone.1))) in
      let clash : false ≡ true = sym (not-true (is_under project n x) free) ∙ under in absurd cc))

  -- ---- all rows

  module _ (kept : Kept) (state : State) (o : Opened masters kept state) where
    same_test : (id : Id) (x y : SecretRow) → OpensRow masters kept.keys x y → is_id id x.id ≡ is_id id y.id
    same_test id x y r = ap (λ (i : Id). is_id id i) (sym (same_id kept.keys x y r))

    rows_with_keys : (changed : List WrappedKey) (P : SecretRow → Type 0)
        → ((x : SecretRow) (p : Payload) → P x → x.payload ≡ Some p → (number : ℕ) (token : List ℕ) (row : WrappedKey) (key : List ℕ) → p.bytes ≡ number ∷ token → key_of x.project number kept.keys ≡ Some row → IsUnwrapped masters row.wrapped key
        → (other : WrappedKey) × (key_of x.project number changed ≡ Some other) × IsUnwrapped masters other.wrapped key)
        → AllByRecursion P kept.state.secrets
        → AllZip (OpensRow masters changed) kept.state.secrets state.secrets
    rows_with_keys changed P move each =
        zip_to P (OpensRow masters kept.keys) (OpensRow masters changed)
        (λ x y p r. row_moves kept.keys changed x y (λ q bytes is t. token_moves kept.keys changed x.project q.bytes bytes (move x q p is) t) r)
        kept.state.secrets state.secrets each o.secrets

    -- a kind whose plain effect is its effect, and that changes no secret
    others_open : (e : Effect) → besides (after_effect e state) ≡ besides (after_effect e kept.state)
    others_open e = besides_both e state kept.state o.others

  plainly : (kept : Kept) (state : State) (change : Change) (effect : Option Effect) → effect ≡ effect_of kept.state.tag change
      → Opened masters (changed change kept) (after_optional (effect_of kept.state.tag change) state) → Opened masters (changed change kept) (after_optional effect state)
  plainly kept state change effect is opened = subst (λ (e : Option Effect). Opened masters (changed change kept) (after_optional e state)) (sym is) opened

  quota_opens : (kept : Kept) (state : State) → Opened masters kept state → (project : List ℕ) (limits : Option QuotaLimits)
      → (let after : Kept = record kept { state = after_effect (quota_effect project limits) kept.state } in Opened masters after (after_effect (quota_effect project limits) state))
  quota_opens kept state o project None = record { keys = o.keys; secrets = o.secrets; others = others_open kept state o (effects.QuotaDropped project) }
  quota_opens kept state o project (Some limits) = record { keys = o.keys; secrets = o.secrets; others = others_open kept state o (effects.QuotaPut (quota_at project limits)) }

  pub change_opens : (part : Part) (change : Change) (kept : Kept) (effect : Option Effect) (state : State) → Opened masters kept state → IsRising kept.state
      → applies part change kept ≡ true → OpensTo masters kept change effect → Opened masters (changed change kept) (after_optional effect state)
  unfolding renewed
  change_opens part (KeyAdded key) kept effect state o rising fits h =
      plainly kept state (KeyAdded key) effect h.1 (record {
        keys = all_insert (KeyOpens masters) key kept.keys h.0 o.keys;
        secrets = rows_with_keys kept state o (insert_key key kept.keys) (λ _. Unit {0})
            (λ x p u put number token row plain numbered there unwraps. (row, key_stays part key kept fits x.project number row there, unwraps)) (all_any kept.state.secrets);
        others = o.others;
      })
  change_opens part (KeyRewrapped key) kept effect state o rising fits h =
      plainly kept state (KeyRewrapped key) effect h.2 (record {
        keys = all_map (KeyOpens masters) (renewed key) (λ k u. unwraps_step key k (is_key key.project key.number k) h.0 u) kept.keys o.keys;
        secrets = rows_with_keys kept state o (map (renewed key) kept.keys) (λ _. Unit {0})
            (λ x p u put number token row plain numbered there unwraps. (
              renewed key row,
              renewed_there kept.keys key row x.project number there,
              renewed_opens kept.keys key row plain (is_key key.project key.number row) refl (λ at. h.1 row plain (one_key kept.keys x.project key.project number key.number row there at) unwraps) unwraps,
            ))
            (all_any kept.state.secrets);
        others = o.others;
      })
  change_opens part (TokenReplaced put) kept effect state o rising fits h =
      let secret = id_at kept.state.tag put.secret in
      plainly kept state (TokenReplaced put) effect h.3 (record {
        keys = o.keys;
        secrets = subst (λ (ys : List SecretRow). AllZip (OpensRow masters kept.keys) (change_rows (λ r. is_id secret r.id) (token_replaced (put.number ∷ put.token)) kept.state.secrets) ys) (map-id state.secrets)
            (zip_map (λ (x : SecretRow). is_id secret x.id ≡ true → x ≡ h.0) (OpensRow masters kept.keys) (OpensRow masters kept.keys)
            (λ x. cond (is_id secret x.id) (token_replaced (put.number ∷ put.token) x) x) (λ y. y)
            (λ x y one r. token_row kept.keys secret put.number put.token x y
            (λ at. subst (λ (z : SecretRow). (p : Payload) (bytes : List ℕ) → z.payload ≡ Some p → OpensSealed masters kept.keys z.project p.bytes bytes → OpensUnder masters kept.keys z.project put.number put.token bytes) (sym (one at)) h.2)
            r (is_id secret x.id) refl)
            kept.state.secrets state.secrets (only_one kept.state.tag kept.state.ids kept.state.secrets secret h.0 rising.secrets h.1) o.secrets);
        others = o.others;
      })
  change_opens part (KeyDropped put) kept effect state o rising fits h =
      plainly kept state (KeyDropped put) effect h (record {
        keys = all_filter (KeyOpens masters) (λ k. not (is_key put.project put.number k)) kept.keys o.keys;
        secrets = rows_with_keys kept state o (drop_rows (is_key put.project put.number) kept.keys) (λ row. not (is_under put.project put.number row) ≡ true)
            (λ x p free is number token row plain numbered there unwraps.
            (row, find_filter (is_key x.project number) (λ k. not (is_key put.project put.number k)) (λ k at. not_dropped put.project put.number x p number token k free is numbered at) kept.keys row there, unwraps))
            (all_passed (λ row. not (is_under put.project put.number row)) kept.state.secrets (and_parts _ _ fits).1);
        others = o.others;
      })
  change_opens part (SecretPut put) kept effect state o rising fits h =
      let row = row_of kept.state.tag put in
      plainly kept state (SecretPut put) effect h (record {
        keys = o.keys;
        secrets = zip_push (OpensRow masters kept.keys) row row (record { same = refl; payload = tt }) kept.state.secrets state.secrets o.secrets;
        others = others_open kept state o (effects.SecretPut row);
      })
  change_opens part (PayloadPut put) kept effect state o rising fits h =
      let secret = id_at kept.state.tag put.secret in
      let sealed : Payload = record { media = put.media; bytes = put.number ∷ put.token } in
      let plain : Payload = record { media = put.media; bytes = h.2 } in
      subst (λ (e : Option Effect). Opened masters (changed (PayloadPut put) kept) (after_optional e state)) (sym h.4) (record {
        keys = o.keys;
        secrets = zip_map (λ (x : SecretRow). is_id secret x.id ≡ true → x ≡ h.0)
            (OpensRow masters kept.keys) (OpensRow masters kept.keys)
            (λ x. cond (is_id secret x.id) (with_payload put.updated sealed x) x) (λ y. cond (is_id secret y.id) (with_payload put.updated plain y) y)
            (λ x y one r. payload_row kept.keys secret put.number put.updated put.media put.token h.2 x y
            (λ at. subst (λ (z : SecretRow). OpensUnder masters kept.keys z.project put.number put.token h.2) (sym (one at)) h.3)
            r (is_id secret x.id) (is_id secret y.id) refl (same_test kept state o secret x y r))
            kept.state.secrets state.secrets (only_one kept.state.tag kept.state.ids kept.state.secrets secret h.0 rising.secrets h.1) o.secrets;
        others = o.others;
      })
  change_opens part (MetadataPut put) kept effect state o rising fits h =
      let secret = id_at kept.state.tag put.secret in
      plainly kept state (MetadataPut put) effect h (record {
        keys = o.keys;
        secrets = zip_map (λ _. Unit {0}) (OpensRow masters kept.keys) (OpensRow masters kept.keys)
            (λ x. cond (is_id secret x.id) (with_metadata put.updated put.pairs x) x) (λ y. cond (is_id secret y.id) (with_metadata put.updated put.pairs y) y)
            (λ x y u r. metadata_row kept.keys put.updated put.pairs x y r (is_id secret x.id) (is_id secret y.id) (same_test kept state o secret x y r))
            kept.state.secrets state.secrets (all_any kept.state.secrets) o.secrets;
        others = o.others;
      })
  change_opens part (ContainerPut put) kept effect state o rising fits h =
      plainly kept state (ContainerPut put) effect h (record { keys = o.keys; secrets = o.secrets; others = others_open kept state o (effects.ContainerPut (container_at kept.state.tag put)) })
  change_opens part (ConsumerAdded put) kept effect state o rising fits h =
      plainly kept state (ConsumerAdded put) effect h (record { keys = o.keys; secrets = o.secrets; others = others_open kept state o (effects.ConsumerAdded (record { container = id_at kept.state.tag put.container; name = put.name; url = put.url; created = put.created })) })
  change_opens part (ConsumerDropped put) kept effect state o rising fits h =
      plainly kept state (ConsumerDropped put) effect h (record { keys = o.keys; secrets = o.secrets; others = others_open kept state o (effects.ConsumerDropped (id_at kept.state.tag put.container) put.name put.url) })
  change_opens part (AclPut put) kept effect state o rising fits h =
      plainly kept state (AclPut put) effect h (record { keys = o.keys; secrets = o.secrets; others = others_open kept state o (effects.AclPut (acl_at kept.state.tag put)) })
  change_opens part (AclDropped id) kept effect state o rising fits h =
      plainly kept state (AclDropped id) effect h (record { keys = o.keys; secrets = o.secrets; others = others_open kept state o (effects.AclDropped (id_at kept.state.tag id)) })
  change_opens part (OrderPut put) kept effect state o rising fits h =
      plainly kept state (OrderPut put) effect h (record { keys = o.keys; secrets = o.secrets; others = others_open kept state o (effects.OrderPut (order_at kept.state.tag put)) })
  change_opens part (QuotaPut put) kept effect state o rising fits h = plainly kept state (QuotaPut put) effect h (quota_opens kept state o put.project put.limits)
  change_opens part (Deleted id) kept effect state o rising fits h =
      let gone = id_at kept.state.tag id in
      plainly kept state (Deleted id) effect h (record {
        keys = o.keys;
        secrets = zip_filter (OpensRow masters kept.keys) (OpensRow masters kept.keys) (λ x. not (is_id gone x.id)) (λ y. not (is_id gone y.id))
            (λ x y r. ap not (same_test kept state o gone x y r))
            (λ x y stays r. r)
            kept.state.secrets state.secrets o.secrets;
        others = others_open kept state o (effects.Deleted gone);
      })

  -- ---- a step

  effects_first : (first : Option Effect) (rest : List Effect) (s : State) → after_effects (option_to_list first ++ rest) s ≡ after_effects rest (after_optional first s)
  effects_first None rest s = refl
  effects_first (Some e) rest s = refl

  applied : (part : Part) (change : Change) (kept : Kept) → applies part change kept ≡ true → after_change part change kept ≡ Some (changed change kept)
  applied part change kept fits = rw fits refl

  pub changes_open : (part : Part) (changes : List Change) (kept : Kept) (effects : List Effect) (state : State) → Opened masters kept state → IsRising kept.state
      → HaveEffects masters part kept changes effects → LeadTo masters part changes kept (after_effects effects state)
  changes_open part [] kept effects state o rising h = subst (λ (es : List Effect). LeadTo masters part [] kept (after_effects es state)) (sym h) (record { after = kept; applied = refl; opened = o; rising = rising })
  changes_open part (change ∷ changes) kept effects state o rising h =
      let more = changes_open part changes (changed change kept) h.1 (after_optional h.0 state) (change_opens part change kept h.0 state o rising h.2 h.3) (change_rises part change kept rising h.2) h.4 in
      subst (λ (es : List Effect). LeadTo masters part (change ∷ changes) kept (after_effects es state)) (sym h.5) (record {
        after = more.after;
        applied = ap (option_and_then (after_changes part changes)) (applied part change kept h.2) ∙ more.applied;
        opened = subst (λ (s : State). Opened masters more.after s) (sym (effects_first h.0 h.1 state)) more.opened;
        rising = more.rising;
      })
