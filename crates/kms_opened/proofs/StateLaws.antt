-- What holds of a state to which something kept opens.
use Rattle.std.proofs.Common.{◌≡◌, ℕ, ◌≤◌, List, [], ◌∷◌, map, length, Option, Some, None, IfSome, refl, sym, ap, subst, ◌∙◌}
use Rattle.std.specs.List.{AllByRecursion, AllZip}
use Rattle.kms_world.specs.LookUp.{secret_of}
use Rattle.kms_world.specs.State.{State, empty_state}
use Rattle.kms_world.specs.declared.id.Id.{Id}
use Rattle.kms_world.specs.declared.payload.Payload.{Payload}
use Rattle.kms_world.specs.declared.secret.SecretRow.{SecretRow}
use Rattle.kms_record.specs.declared.key.WrappedKey.{WrappedKey}
use Rattle.kms_kept.specs.Kept.{Kept, secret_ids, nothing_kept}
use Rattle.kms_kept.specs.Rising.{Rises, IsRising}
use Rattle.kms_opened.specs.Opened.{OpensPayload, OpensRow, Opened, HasFittingPayload, IsFoundOpened}
use Rattle.kms_opened.proofs.LookUps.{found_opened, found_neither}

-- ---- ids rise in it

zip_ids : (R : SecretRow → SecretRow → Type 0) → ((x y : SecretRow) → R x y → y.id ≡ x.id) → (xs ys : List SecretRow) → AllZip R xs ys → map (λ (r : SecretRow). r.id) ys ≡ map (λ (r : SecretRow). r.id) xs
zip_ids R same [] [] each = refl
zip_ids R same [] (y ∷ ys) each = absurd each
zip_ids R same (x ∷ xs) [] each = absurd each
zip_ids R same (x ∷ xs) (y ∷ ys) each = ap (λ (i : Id). i ∷ map (λ (r : SecretRow). r.id) ys) (same x y each.0) ∙ ap (λ (is : List Id). x.id ∷ is) (zip_ids R same xs ys each.1)

pub rising_opened : (masters : List (List ℕ)) (kept : Kept) (s : State) → Opened masters kept s → IsRising kept.state → IsRising s
rising_opened masters kept s o r =
    let back = sym o.others in
    record {
      secrets = subst (λ (z : State). Rises z.tag z.ids (secret_ids s)) back
          (subst (λ (ids : List Id). Rises kept.state.tag kept.state.ids ids) (sym (zip_ids (OpensRow masters kept.keys) (λ x y q. ap (λ (z : SecretRow). z.id) q.same) kept.state.secrets s.secrets o.secrets)) r.secrets);
      containers = subst (λ (z : State). Rises z.tag z.ids (map (λ c. c.id) z.containers)) back r.containers;
      orders = subst (λ (z : State). Rises z.tag z.ids (map (λ c. c.id) z.orders)) back r.orders;
    }

-- ---- secrets are found in it

same_id : (masters : List (List ℕ)) (keys : List WrappedKey) (x y : SecretRow) → OpensRow masters keys x y → y.id ≡ x.id
same_id masters keys x y r = ap (λ (z : SecretRow). z.id) r.same

pub found_there : (masters : List (List ℕ)) (kept : Kept) (s : State) → Opened masters kept s → (id : Id) (sealed : SecretRow) → secret_of id kept.state.secrets ≡ Some sealed → IsFoundOpened masters kept.keys id sealed s.secrets
found_there masters kept s o id sealed found =
    let f = found_opened (OpensRow masters kept.keys) (same_id masters kept.keys) id kept.state.secrets s.secrets sealed o.secrets found in
    record { row = f.row; found = f.found; opens = f.opens }

pub found_nowhere : (masters : List (List ℕ)) (kept : Kept) (s : State) → Opened masters kept s → (id : Id) → secret_of id kept.state.secrets ≡ None → secret_of id s.secrets ≡ None
found_nowhere masters kept s o id found = found_neither (OpensRow masters kept.keys) (same_id masters kept.keys) id kept.state.secrets s.secrets o.secrets found

-- ---- its payloads have 1 to 20,000 bytes

payload_fits : (masters : List (List ℕ)) (keys : List WrappedKey) (project : List ℕ) (a b : Option Payload) → OpensPayload masters keys project a b → IfSome b (λ p. (1 ≤ length p.bytes) × (length p.bytes ≤ 20000))
payload_fits masters keys project None None h = tt
payload_fits masters keys project None (Some q) h = absurd h
payload_fits masters keys project (Some p) None h = absurd h
payload_fits masters keys project (Some p) (Some q) h = (h.1.opens.some, h.1.opens.few)

rows_fit : (masters : List (List ℕ)) (keys : List WrappedKey) (xs ys : List SecretRow) → AllZip (OpensRow masters keys) xs ys → AllByRecursion HasFittingPayload ys
rows_fit masters keys [] [] each = tt
rows_fit masters keys [] (y ∷ ys) each = absurd each
rows_fit masters keys (x ∷ xs) [] each = absurd each
rows_fit masters keys (x ∷ xs) (y ∷ ys) each = (payload_fits masters keys x.project x.payload y.payload each.0.payload, rows_fit masters keys xs ys each.1)

pub payloads_fit : (masters : List (List ℕ)) (kept : Kept) (s : State) → Opened masters kept s → AllByRecursion HasFittingPayload s.secrets
payloads_fit masters kept s o = rows_fit masters kept.keys kept.state.secrets s.secrets o.secrets

-- ---- a fresh store

pub fresh_opens : (masters : List (List ℕ)) (tag : ℕ) → Opened masters (nothing_kept tag) (empty_state tag)
fresh_opens masters tag = record { keys = tt; secrets = tt; others = refl }

pub fresh_rises : (tag : ℕ) → IsRising (nothing_kept tag).state
fresh_rises tag = record { secrets = tt; containers = tt; orders = tt }
