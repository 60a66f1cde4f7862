-- The step of an operation leads to what opens to the state after its effects.
use Rattle.std.proofs.Common.{◌≡◌, ℕ, ◌≤◌, ◌+◌, ◌*◌, ◌^◌, ◌<◌, Bool, true, false, List, [], ◌∷◌, ◌++◌, length, Option, Some, None, cond, refl, sym, ap, subst, ◌∙◌, arith}
use Rattle.std.specs.Prelude.{sum_by, option_and_then, option_to_list, IfSome, is_some}
use Rattle.kms_world.specs.Effect.{Effect, after_effects}
use Rattle.kms_world.specs.Effect as effects
use Rattle.kms_world.specs.Id.{id_at}
use Rattle.kms_world.specs.State.{State}
use Rattle.kms_world.specs.declared.payload.Media.{Media}
use Rattle.kms_model.specs.Done.{has_some}
use Rattle.kms_operations.specs.Outcome.{Fits, effects_of, is_of_rows}
use Rattle.kms_operations.specs.Plan.{IsSecretFor, with_secret}
use Rattle.kms_operations.specs.declared.outcome.NewPayload.{NewPayload}
use Rattle.kms_record.specs.ChangeEffect.{effect_of}
use Rattle.kms_record.specs.declared.change.Change.{Change}
use Rattle.kms_record.specs.declared.change.Change.TheVariants.{KeyAdded, KeyRewrapped, TokenReplaced, KeyDropped, SecretPut, PayloadPut, MetadataPut, ContainerPut, ConsumerAdded, ConsumerDropped, AclPut, AclDropped, OrderPut, QuotaPut, Deleted}
use Rattle.kms_record.specs.declared.key.WrappedKey.{WrappedKey}
use Rattle.kms_record.specs.declared.payload.PayloadPut as payload_type
use Rattle.kms_record.specs.declared.secret_put.SecretPut as put_type
use Rattle.kms_record.specs.Grammar.{IsChangeInRange, IsStepInRange, step_bytes}
use Rattle.kms_record.specs.SecretPut.{row_of}
use Rattle.kms_record.specs.Size.{most_bytes}
use Rattle.kms_record.proofs.SizeLaws.{step_is_short_lem}
use Rattle.kms_kept.specs.Kept.{Kept, Records, after_changes, applies, changed, keys_changed}
use Rattle.kms_kept.specs.Rising.{IsRising}
use Rattle.kms_opened.specs.Opened.{Opened, OpensUnder}
use Rattle.kms_opened.specs.Steps.{HaveEffects, LeadTo, OpensTo}
use Rattle.kms_opened.proofs.OpenLaws.{changes_open}
use Rattle.kms_ring.specs.Ring.{IsUnwrapped}
use Rattle.kms_sealing.specs.Sealed.{Adds, key_changes, rows_with}
use Rattle.kms_sealing.specs.declared.sealing.NewKey.{NewKey}
use Rattle.kms_sealing.specs.declared.sealing.Sealed.{Sealed}
use Rattle.kms_sealing.proofs.SealLaws.{posted_leads, put_leads}
use Rattle.kms_store.specs.ReadyStep.{TaggedStep}
use Rattle.kms_store.specs.Store.{IsReserved}
use Rattle.kms_store.proofs.StandsLaws.{some_is}
use Rattle.kms_core.specs.Asking.{sealed_changes}
use Rattle.kms_core.specs.Steps.{Held, HasState, KeepsState, LeadsTo}

-- ---- one change of rows

-- it does to the opened state what it does to the kept one
opens_rows : (masters : List (List ℕ)) (kept : Kept) (change : Change) → is_of_rows change ≡ true → OpensTo masters kept change (effect_of kept.state.tag change)
opens_rows masters kept (KeyAdded key) is = absurd cc
opens_rows masters kept (KeyRewrapped key) is = absurd cc
opens_rows masters kept (TokenReplaced put) is = absurd cc
opens_rows masters kept (KeyDropped put) is = absurd cc
opens_rows masters kept (SecretPut put) is = refl
opens_rows masters kept (PayloadPut put) is = absurd cc
opens_rows masters kept (MetadataPut put) is = refl
opens_rows masters kept (ContainerPut put) is = refl
opens_rows masters kept (ConsumerAdded put) is = refl
opens_rows masters kept (ConsumerDropped put) is = refl
opens_rows masters kept (AclPut put) is = refl
opens_rows masters kept (AclDropped id) is = refl
opens_rows masters kept (OrderPut put) is = refl
opens_rows masters kept (QuotaPut put) is = refl
opens_rows masters kept (Deleted id) is = refl

-- it has an effect
pub has_effect : (tag : ℕ) (change : Change) → is_of_rows change ≡ true → has_some (effects_of tag (Some change)) ≡ true
has_effect tag (KeyAdded key) is = absurd cc
has_effect tag (KeyRewrapped key) is = absurd cc
has_effect tag (TokenReplaced put) is = absurd cc
has_effect tag (KeyDropped put) is = absurd cc
has_effect tag (SecretPut put) is = refl
has_effect tag (PayloadPut put) is = absurd cc
has_effect tag (MetadataPut put) is = refl
has_effect tag (ContainerPut put) is = refl
has_effect tag (ConsumerAdded put) is = refl
has_effect tag (ConsumerDropped put) is = refl
has_effect tag (AclPut put) is = refl
has_effect tag (AclDropped id) is = refl
has_effect tag (OrderPut put) is = refl
has_effect tag (QuotaPut put) is = refl
has_effect tag (Deleted id) is = refl

-- and changes no key
keys_stay : (change : Change) (keys : List WrappedKey) → is_of_rows change ≡ true → keys_changed change keys ≡ keys
keys_stay (KeyAdded key) keys is = absurd cc
keys_stay (KeyRewrapped key) keys is = absurd cc
keys_stay (TokenReplaced put) keys is = refl
keys_stay (KeyDropped put) keys is = absurd cc
keys_stay (SecretPut put) keys is = refl
keys_stay (PayloadPut put) keys is = refl
keys_stay (MetadataPut put) keys is = refl
keys_stay (ContainerPut put) keys is = refl
keys_stay (ConsumerAdded put) keys is = refl
keys_stay (ConsumerDropped put) keys is = refl
keys_stay (AclPut put) keys is = refl
keys_stay (AclDropped id) keys is = refl
keys_stay (OrderPut put) keys is = refl
keys_stay (QuotaPut put) keys is = refl
keys_stay (Deleted id) keys is = refl

few_bytes : (change : Change) → most_bytes change < 65534
few_bytes (KeyAdded key) = omega arith
few_bytes (KeyRewrapped key) = omega arith
few_bytes (TokenReplaced put) = omega arith
few_bytes (KeyDropped put) = omega arith
few_bytes (SecretPut put) = omega arith
few_bytes (PayloadPut put) = omega arith
few_bytes (MetadataPut put) = omega arith
few_bytes (ContainerPut put) = omega arith
few_bytes (ConsumerAdded put) = omega arith
few_bytes (ConsumerDropped put) = omega arith
few_bytes (AclPut put) = omega arith
few_bytes (AclDropped id) = omega arith
few_bytes (OrderPut put) = omega arith
few_bytes (QuotaPut put) = omega arith
few_bytes (Deleted id) = omega arith

pub one_in_range : (change : Change) (step : List Change) → step ≡ change ∷ [] → IsChangeInRange change → IsStepInRange step
one_in_range change step is range = subst IsStepInRange (sym is) (record { some = omega arith; few = omega arith; each = (range, tt) })

sum_one : (change : Change) → sum_by most_bytes (change ∷ []) ≡ most_bytes change
sum_one change = grind arith

is_short : (change : Change) → IsChangeInRange change → length (step_bytes (change ∷ [])) < 2 ^ 16
is_short change range = omega (arith, step_is_short_lem (change ∷ []) (one_in_range change (change ∷ []) refl range), sum_one change, few_bytes change)

pub one_short : (change : Change) (step : List Change) → step ≡ change ∷ [] → IsChangeInRange change → length (step_bytes step) < 2 ^ 16
one_short change step is range = subst (λ (s : List Change). length (step_bytes s) < 2 ^ 16) (sym is) (is_short change range)

-- fewer than 1,152 steps wait, and there is room for a short one
pub step_fits : (step : List Change) (waiting : List ℕ) (count : ℕ) → length (step_bytes step) < 2 ^ 16 → length waiting ≤ 2 ^ 16 * count → count < 1152
    → length waiting + length (step_bytes step) < 2 ^ 27
step_fits step waiting count one short few = omega (arith, one, short, few)

-- ---- keys after changes

abbrev keys_after : List Change → List WrappedKey → List WrappedKey
keys_after [] keys = keys
keys_after (change ∷ changes) keys = keys_after changes (keys_changed change keys)

keys_here : (b : Bool) (changes : List Change) (next after : Kept) (keys : List WrappedKey) → (after_changes Records changes next ≡ Some after → after.keys ≡ keys)
    → option_and_then (after_changes Records changes) (cond b (Some next) None) ≡ Some after → after.keys ≡ keys
keys_here true changes next after keys step e = step e
keys_here false changes next after keys step e = absurd cc

keys_led : (changes : List Change) (kept after : Kept) → after_changes Records changes kept ≡ Some after → after.keys ≡ keys_after changes kept.keys
keys_led [] kept after e = ap (λ (k : Kept). k.keys) (some_is after kept (sym e))
keys_led (change ∷ changes) kept after e =
    keys_here (applies Records change kept) changes (changed change kept) after (keys_after changes (keys_changed change kept.keys)) (λ h. keys_led changes (changed change kept) after h) e

-- ---- steps of an engine that keeps the same

moved : (before after : Held) (changes others : List Change) (state : State) → KeepsState before after → changes ≡ others → LeadTo before.masters Records others before.store.stored.kept state
    → LeadTo after.masters Records changes after.store.stored.kept state
moved before after changes others state same is led =
    subst (λ (m : List (List ℕ)). LeadTo m Records changes after.store.stored.kept state) (sym same.masters)
    (subst (λ (k : Kept). LeadTo before.masters Records changes k state) (sym same.kept)
    (subst (λ (c : List Change). LeadTo before.masters Records c before.store.stored.kept state) (sym is) led))

only_one : (effect : Option Effect) → option_to_list effect ≡ option_to_list effect ++ []
only_one None = refl
only_one (Some effect) = refl

row_has : (masters : List (List ℕ)) (kept : Kept) (change : Change) → Fits kept change → HaveEffects masters Records kept (change ∷ []) (effects_of kept.state.tag (Some change))
row_has masters kept change fits =
    (effect_of kept.state.tag change, [], fits.applies, opens_rows masters kept change fits.rows, refl, only_one (effect_of kept.state.tag change))

-- the step of one change of rows
pub row_leads : (before after : Held) (change : Change) (step : TaggedStep) → IsRising before.store.stored.kept.state → Fits before.store.stored.kept change → KeepsState before after → step.changes ≡ change ∷ []
    → IsReserved after.store.stored step → (s : State) → HasState before s → LeadsTo (record { step = step; key = None }) after (after_effects (effects_of before.store.stored.kept.state.tag (Some change)) s)
row_leads before after change step rising fits same is reserved s has =
    let kept = before.store.stored.kept in
    let result = after_effects (effects_of kept.state.tag (Some change)) s in
    let led = changes_open before.masters Records (change ∷ []) kept (effects_of kept.state.tag (Some change)) s has rising (row_has before.masters kept change fits) in
    let leads = moved before after step.changes (change ∷ []) result same is led in
    record {
      reserved = reserved;
      short = one_short change step.changes is fits.range;
      leads = leads;
      key = record {
        keys_are = keys_led step.changes after.store.stored.kept leads.after leads.applied
            ∙ ap (λ (c : List Change). keys_after c after.store.stored.kept.keys) is
            ∙ keys_stay change after.store.stored.kept.keys fits.rows;
        opens = tt;
        room = tt;
      };
    }

-- ---- payloads

key_first : (new : Option NewKey) (rest : List Change) (keys : List WrappedKey) → ((others : List WrappedKey) → keys_after rest others ≡ others) → keys_after (key_changes new ++ rest) keys ≡ rows_with new keys
key_first None rest keys stay = stay keys
key_first (Some new) rest keys stay = stay (rows_with (Some new) keys)

sealed_keys : (sealed : Sealed) (secret : Option put_type.SecretPut) (id updated : ℕ) (media : Media) (keys : List WrappedKey) → keys_after (sealed_changes sealed secret id updated media) keys ≡ rows_with sealed.new keys
sealed_keys sealed None id updated media keys = key_first sealed.new _ keys (λ others. refl)
sealed_keys sealed (Some put) id updated media keys = key_first sealed.new _ keys (λ others. refl)

put_few : (new : Option NewKey) (payload : payload_type.PayloadPut) → sum_by most_bytes (key_changes new ++ PayloadPut payload ∷ []) ≤ 27945
put_few None payload = omega arith
put_few (Some new) payload = omega arith

post_few : (new : Option NewKey) (put : put_type.SecretPut) (payload : payload_type.PayloadPut) → sum_by most_bytes (key_changes new ++ SecretPut put ∷ PayloadPut payload ∷ []) ≤ 27945
post_few None put payload = omega arith
post_few (Some new) put payload = omega arith

sealed_few : (sealed : Sealed) (secret : Option put_type.SecretPut) (id updated : ℕ) (media : Media) → sum_by most_bytes (sealed_changes sealed secret id updated media) ≤ 27945
sealed_few sealed None id updated media = put_few sealed.new _
sealed_few sealed (Some put) id updated media = post_few sealed.new put _

pub sealed_short : (sealed : Sealed) (secret : Option put_type.SecretPut) (id updated : ℕ) (media : Media) (step : List Change) → step ≡ sealed_changes sealed secret id updated media → IsStepInRange step → length (step_bytes step) < 2 ^ 16
sealed_short sealed secret id updated media step is range =
    let few : sum_by most_bytes step ≤ 27945 = subst (λ (c : List Change). sum_by most_bytes c ≤ 27945) (sym is) (sealed_few sealed secret id updated media) in
    omega (arith, step_is_short_lem step range, few)

secret_leads : (masters : List (List ℕ)) (kept : Kept) (s : State) (new : NewPayload) (sealed : Sealed) (secret : Option put_type.SecretPut) → Opened masters kept s → IsRising kept.state → new.id < 2 ^ 62 → IsSecretFor kept new secret
    → Adds masters kept new.project sealed.new → OpensUnder masters (rows_with sealed.new kept.keys) new.project sealed.number sealed.token new.payload.bytes
    → LeadTo masters Records (sealed_changes sealed secret new.id new.updated new.payload.media) kept (after_effects (with_secret kept.state.tag secret (effects.PayloadPut (id_at kept.state.tag new.id) new.updated new.payload ∷ [])) s)
secret_leads masters kept s new sealed None has rising left is adds opens =
    put_leads masters kept s is.0 new.id new.updated sealed new.payload has rising is.1 is.2
    (subst (λ (p : List ℕ). Adds masters kept p sealed.new) is.3 adds)
    (subst (λ (p : List ℕ). OpensUnder masters (rows_with sealed.new kept.keys) p sealed.number sealed.token new.payload.bytes) is.3 opens)
secret_leads masters kept s new sealed (Some put) has rising left is adds opens =
    let led = posted_leads masters kept s put sealed new.payload has rising is.1 (subst (λ (n : ℕ). n < 2 ^ 62) is.2 left)
    (subst (λ (p : List ℕ). Adds masters kept p sealed.new) is.4 adds)
    (subst (λ (p : List ℕ). OpensUnder masters (rows_with sealed.new kept.keys) p sealed.number sealed.token new.payload.bytes) is.4 opens)
    in
    subst (λ (n : ℕ). LeadTo masters Records (sealed_changes sealed (Some put) n new.updated new.payload.media) kept (after_effects (effects.SecretPut (row_of kept.state.tag put) ∷ effects.PayloadPut (id_at kept.state.tag n) new.updated new.payload ∷ []) s)) (sym is.2)
    (subst (λ (t : ℕ). LeadTo masters Records (sealed_changes sealed (Some put) put.id t new.payload.media) kept (after_effects (effects.SecretPut (row_of kept.state.tag put) ∷ effects.PayloadPut (id_at kept.state.tag put.id) t new.payload ∷ []) s)) (sym is.3) led)

adds_opens : (masters : List (List ℕ)) (kept : Kept) (project : List ℕ) (new : Option NewKey) → Adds masters kept project new → IfSome new (λ key. IsUnwrapped masters key.wrapped key.key)
adds_opens masters kept project None adds = tt
adds_opens masters kept project (Some new) adds = adds.opens

pub room_if_any : (new : Option NewKey) (spare : ℕ) → (is_some new ≡ true → 0 < spare) → IfSome new (λ key. 0 < spare)
room_if_any None spare h = tt
room_if_any (Some new) spare h = h refl

-- the step of a sealed payload
pub payload_leads : (before after : Held) (new : NewPayload) (sealed : Sealed) (step : TaggedStep) → IsRising before.store.stored.kept.state → new.id < 2 ^ 62 → IsSecretFor before.store.stored.kept new new.secret → KeepsState before after
    → Adds before.masters before.store.stored.kept new.project sealed.new → OpensUnder before.masters (rows_with sealed.new before.store.stored.kept.keys) new.project sealed.number sealed.token new.payload.bytes
    → step.changes ≡ sealed_changes sealed new.secret new.id new.updated new.payload.media → IsStepInRange step.changes → IsReserved after.store.stored step → IfSome sealed.new (λ key. 0 < after.spare)
    → (s : State) → HasState before s
    → LeadsTo (record { step = step; key = sealed.new }) after (after_effects (with_secret before.store.stored.kept.state.tag new.secret (effects.PayloadPut (id_at before.store.stored.kept.state.tag new.id) new.updated new.payload ∷ [])) s)
payload_leads before after new sealed step rising left secret same adds opens is range reserved room s has =
    let kept = before.store.stored.kept in
    let result = after_effects (with_secret kept.state.tag new.secret (effects.PayloadPut (id_at kept.state.tag new.id) new.updated new.payload ∷ [])) s in
    let led = secret_leads before.masters kept s new sealed new.secret has rising left secret adds opens in
    let leads = moved before after step.changes (sealed_changes sealed new.secret new.id new.updated new.payload.media) result same is led in
    record {
      reserved = reserved;
      short = sealed_short sealed new.secret new.id new.updated new.payload.media step.changes is range;
      leads = leads;
      key = record {
        keys_are = keys_led step.changes after.store.stored.kept leads.after leads.applied
            ∙ ap (λ (c : List Change). keys_after c after.store.stored.kept.keys) is
            ∙ sealed_keys sealed new.secret new.id new.updated new.payload.media after.store.stored.kept.keys;
        opens = subst (λ (m : List (List ℕ)). IfSome sealed.new (λ key. IsUnwrapped m key.wrapped key.key)) (sym same.masters) (adds_opens before.masters kept new.project sealed.new adds);
        room = room;
      };
    }
