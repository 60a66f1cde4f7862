-- What a sealed payload promises to those who keep it.
use Rattle.std.proofs.Common.{◌≡◌, ℕ, ◌^◌, ◌<◌, ◌≤◌, Bool, true, false, List, [], ◌∷◌, ◌++◌, length, Option, Some, None, refl, sym, subst, inl, inr}
use Rattle.std.specs.Prelude.{not, nat_lt, ◌||◌, is_some, Result, Ok, Err, IfOk, OnOk}
use Rattle.std.specs.List.{AllByRecursion, list_all, list_any}
use Rattle.std.specs.Str.{bytes_eq}
use Rattle.std.proofs.lemmas.Bool.{cases_Bool, and_from, or_parts, false≢true}
use Rattle.std.proofs.lemmas.Slice.Eq.{bytes_eq-Decides}
use Rattle.base64.specs.GeneralPurpose.{IsBytes as AreBytes}
use Rattle.kms_aes.specs.Cipher.{IsBytes, IsBlock}
use Rattle.kms_fernet.specs.Token.{IsToken, Opens}
use Rattle.kms_fernet.proofs.LengthLaws.{token_length, within}
use Rattle.kms_ring.specs.Ring.{IsUnwrapped}
use Rattle.kms_ring.proofs.UniqueLaws.{wrapped_unwraps}
use Rattle.kms_world.specs.Effect as effects
use Rattle.kms_world.specs.Effect.{Effect, after_effects}
use Rattle.kms_world.specs.Id.{id_at}
use Rattle.kms_world.specs.LookUp.{secret_of}
use Rattle.kms_world.specs.State.{State}
use Rattle.kms_world.specs.declared.payload.Payload.{Payload}
use Rattle.kms_world.specs.declared.secret.SecretRow.{SecretRow}
use Rattle.kms_record.specs.Fields.{IsToken as HasTokenLength}
use Rattle.kms_record.specs.SecretPut.{row_of}
use Rattle.kms_record.specs.declared.change.Change.{Change}
use Rattle.kms_record.specs.declared.change.Change.TheVariants.{KeyAdded, PayloadPut}
use Rattle.kms_record.specs.declared.key.WrappedKey.{WrappedKey}
use Rattle.kms_record.specs.declared.secret_put.SecretPut.{SecretPut}
use Rattle.kms_kept.specs.Kept.{Kept, Records, changed, is_key, is_key_below, insert_key, key_of}
use Rattle.kms_kept.specs.Rising.{IsRising}
use Rattle.kms_opened.specs.Opened.{OpensUnder, Opened}
use Rattle.kms_opened.specs.Steps.{HaveEffects, LeadTo, posted_changes}
use Rattle.kms_opened.proofs.OpenLaws.{changes_open}
use Rattle.kms_opened.proofs.StepLaws.{posted_have, key_have}
use Rattle.kms_sealing.specs.Places.{has_key}
use Rattle.kms_sealing.specs.Sealed.{wrapped_row, rows_with, IsSealedUnder, IsSealedFirst, Adds, key_changes, post_changes, put_changes}
use Rattle.kms_sealing.specs.declared.drawing.KeyDraw.{KeyDraw}
use Rattle.kms_sealing.specs.declared.sealing.NewKey.{NewKey}
use Rattle.kms_sealing.specs.declared.sealing.Sealed.{Sealed}

-- what is sealed, in numbers that fit
pub record Fits (moment : ℕ) (plain iv : List ℕ) : Type 0 where
  pub moment_fits : moment < 2 ^ 64
  pub plain_fits : AreBytes plain
  pub some : 1 ≤ length plain
  pub few : length plain ≤ 20000
  pub iv_fits : IsBlock iv

opens_again : (moment : ℕ) (plain iv key token : List ℕ) → Fits moment plain iv → IsToken key moment iv plain token → Opens key token plain
opens_again moment plain iv key token f is = record { moment = moment; iv = iv; moment_fits = f.moment_fits; iv_fits = f.iv_fits; plain_fits = f.plain_fits; token = is }

long_enough : (moment : ℕ) (plain iv key token : List ℕ) → Fits moment plain iv → IsBytes 32 key → IsToken key moment iv plain token → HasTokenLength token
long_enough moment plain iv key token f key_fits is =
    let size = token_length key plain iv token moment key_fits f.plain_fits f.iv_fits is in
    let bounds = within (length plain) f.some f.few in
    (subst (λ (n : ℕ). 100 ≤ n) (sym size) bounds.0, subst (λ (n : ℕ). n ≤ 26764) (sym size) bounds.1)

pub ok_with : {T E : Type 0} (F : Type 0) (P Q : T → Type 0) (r : Result T E) → OnOk r F → (F → (x : T) → P x → Q x) → IfOk r P → IfOk r Q
ok_with F P Q (Ok x) known step h = step known x h
ok_with F P Q (Err e) known step h = tt

-- whether a key was drawn says whether the project has one
pub has_none : (drawn : Option KeyDraw) (key : KeyDraw) (has : Bool) → drawn ≡ Some key → is_some drawn ≡ not has → has ≡ false
has_none drawn key true is drew = absurd (false≢true (sym (rw is at drew)))
has_none drawn key false is drew = refl

pub has_some : (drawn : Option KeyDraw) (has : Bool) → drawn ≡ None → is_some drawn ≡ not has → has ≡ true
has_some drawn true is drew = refl
has_some drawn false is drew = absurd (false≢true (rw is at drew))

-- ---- under the project's key of the greatest number

module _ (masters : List (List ℕ)) (rows : List WrappedKey) (project : List ℕ) (moment : ℕ) (plain iv : List ℕ) (f : Fits moment plain iv) (sealed : Sealed) (s : IsSealedUnder masters rows project moment plain iv sealed) where
  pub under_opens : OpensUnder masters (rows_with sealed.new rows) project sealed.number sealed.token plain
  under_opens =
      let here : OpensUnder masters rows project s.row.number sealed.token plain = record {
        row = s.row;
        there = s.latest.there;
        key = s.key;
        unwraps = s.unwraps;
        opens = opens_again moment plain iv s.key sealed.token f s.token;
        some = f.some;
        few = f.few;
      } in
      subst (λ (new : Option NewKey). OpensUnder masters (rows_with new rows) project sealed.number sealed.token plain) (sym s.new)
      (subst (λ (n : ℕ). OpensUnder masters rows project n sealed.token plain) (sym s.number) here)

  pub under_length : HasTokenLength sealed.token
  under_length = long_enough moment plain iv s.key sealed.token f s.unwraps.opens.fits s.token

  pub under_adds : (kept : Kept) → Adds masters kept project sealed.new
  under_adds kept = subst (λ (new : Option NewKey). Adds masters kept project new) (sym s.new) tt

-- ---- under a first key

no_key_at : (project : List ℕ) (rows : List WrappedKey) → has_key project rows ≡ false → AllByRecursion (λ (row : WrappedKey). bytes_eq project row.project ≡ false) rows
no_key_at project [] none = tt
no_key_at project (row ∷ rows) none = let p = or_parts (bytes_eq project row.project) (list_any (λ (r : WrappedKey). bytes_eq project r.project) rows) none in (p.0, no_key_at project rows p.1)

comes_first : (project : List ℕ) (number : ℕ) (rows : List WrappedKey) → AllByRecursion (λ (row : WrappedKey). bytes_eq project row.project ≡ false) rows
    → list_all (λ (other : WrappedKey). not (bytes_eq project other.project) || nat_lt other.number number) rows ≡ true
comes_first project number [] each = refl
comes_first project number (row ∷ rows) each = rw (each.0) (comes_first project number rows each.1)

found_inserted : (key : WrappedKey) (rows : List WrappedKey) → AllByRecursion (λ (row : WrappedKey). bytes_eq key.project row.project ≡ false) rows → is_key key.project key.number key ≡ true → key_of key.project key.number (insert_key key rows) ≡ Some key
found_inserted key [] each it = rw it refl
found_inserted key (row ∷ rows) each it = elim (cases_Bool (is_key_below key row)) [
  | inl t ↦ rw (t, it) refl
  | inr f ↦ rw (f, each.0) (found_inserted key rows each.1 it)
]

module _ (masters : List (List ℕ)) (kept : Kept) (project : List ℕ) (moment : ℕ) (plain iv : List ℕ) (f : Fits moment plain iv) (drawn : KeyDraw) (masters_fit : AllByRecursion (IsBytes 32) masters) (key_fits : IsBytes 32 drawn.key) (vector_fits : IsBlock drawn.iv)
    (none : has_key project kept.keys ≡ false) (sealed : Sealed) (s : IsSealedFirst masters project moment plain drawn iv sealed) where
  new_key : NewKey
  new_key = record { project = project; number = 1; key = drawn.key; wrapped = s.wrapped }

  unwraps : IsUnwrapped masters s.wrapped drawn.key
  unwraps = wrapped_unwraps masters moment drawn.iv drawn.key s.wrapped masters_fit f.moment_fits vector_fits key_fits s.is_wrapped

  pub first_adds : Adds masters kept project sealed.new
  unfolding new_key
  first_adds = subst (λ (new : Option NewKey). Adds masters kept project new) (sym s.new) (record {
    project_is = refl;
    opens = unwraps;
    applies_to = and_from _ _ refl (comes_first project 1 kept.keys (no_key_at project kept.keys none));
  })

  pub first_opens : OpensUnder masters (rows_with sealed.new kept.keys) project sealed.number sealed.token plain
  unfolding new_key
  first_opens =
      let row : WrappedKey = wrapped_row new_key in
      let it : is_key project 1 row ≡ true = and_from _ _ ((bytes_eq-Decides project project).1 refl) refl in
      let here : OpensUnder masters (insert_key row kept.keys) project 1 sealed.token plain = record {
        row = row;
        there = found_inserted row kept.keys (no_key_at project kept.keys none) it;
        key = drawn.key;
        unwraps = unwraps;
        opens = opens_again moment plain iv drawn.key sealed.token f s.token;
        some = f.some;
        few = f.few;
      } in
      subst (λ (new : Option NewKey). OpensUnder masters (rows_with new kept.keys) project sealed.number sealed.token plain) (sym s.new)
      (subst (λ (n : ℕ). OpensUnder masters (insert_key row kept.keys) project n sealed.token plain) (sym s.number) here)

  pub first_length : HasTokenLength sealed.token
  first_length = long_enough moment plain iv drawn.key sealed.token f key_fits s.token

-- a project with a key of some number has a key
pub has_one : (project : List ℕ) (number : ℕ) (rows : List WrappedKey) (row : WrappedKey) → key_of project number rows ≡ Some row → has_key project rows ≡ true
has_one project number [] row found = absurd cc
has_one project number (x ∷ rows) row found = elim (cases_Bool (bytes_eq project x.project)) [
  | inl t ↦ rw t refl
  | inr f ↦ rw f (has_one project number rows row (rw f at found))
]

-- ---- the step

module _ (masters : List (List ℕ)) (kept : Kept) (rising : IsRising kept.state) (put : SecretPut) (number : ℕ) (token : List ℕ) (payload : Payload) (next : put.id ≡ kept.state.ids) (left : put.id < 2 ^ 62) where
  put_effects : List Effect
  put_effects = effects.SecretPut (row_of kept.state.tag put) ∷ effects.PayloadPut (id_at kept.state.tag put.id) put.updated payload ∷ []

  step_has : (new : Option NewKey) → Adds masters kept put.project new → OpensUnder masters (rows_with new kept.keys) put.project number token payload.bytes
      → HaveEffects masters Records kept (key_changes new ++ posted_changes put put.updated number payload.media token) put_effects
  unfolding put_effects
  step_has None adds opens = posted_have masters kept rising put put.updated number payload token next left opens
  step_has (Some new) adds opens =
      key_have masters kept (wrapped_row new) (posted_changes put put.updated number payload.media token) put_effects adds.applies_to (record { key = new.key; opens = adds.opens })
      (posted_have masters (changed (KeyAdded (wrapped_row new)) kept) rising put put.updated number payload token next left opens)

pub posted_leads : (masters : List (List ℕ)) (kept : Kept) (state : State) (put : SecretPut) (sealed : Sealed) (payload : Payload) → Opened masters kept state → IsRising kept.state
    → put.id ≡ kept.state.ids → put.id < 2 ^ 62 → Adds masters kept put.project sealed.new
    → OpensUnder masters (rows_with sealed.new kept.keys) put.project sealed.number sealed.token payload.bytes
    → LeadTo masters Records (post_changes sealed put payload.media) kept
    (after_effects (effects.SecretPut (row_of kept.state.tag put) ∷ effects.PayloadPut (id_at kept.state.tag put.id) put.updated payload ∷ []) state)
unfolding put_effects
posted_leads masters kept state put sealed payload o rising next left adds opens =
    changes_open masters Records (post_changes sealed put payload.media) kept (effects.SecretPut (row_of kept.state.tag put) ∷ effects.PayloadPut (id_at kept.state.tag put.id) put.updated payload ∷ []) state o rising
    (step_has masters kept rising put sealed.number sealed.token payload next left sealed.new adds opens)

-- ---- the payload of a secret that is there

module _ (masters : List (List ℕ)) (kept : Kept) (row : SecretRow) (secret updated number : ℕ) (token : List ℕ) (payload : Payload) (found : secret_of (id_at kept.state.tag secret) kept.state.secrets ≡ Some row) (none : row.payload ≡ None) where
  token_put : Change
  token_put = PayloadPut (record { secret = secret; updated = updated; media = payload.media; number = number; token = token })

  bytes_put : List Effect
  bytes_put = effects.PayloadPut (id_at kept.state.tag secret) updated payload ∷ []

  token_has : (keys : List WrappedKey) → OpensUnder masters keys row.project number token payload.bytes → HaveEffects masters Records (record kept { keys = keys }) (token_put ∷ []) bytes_put
  unfolding token_put bytes_put
  token_has keys opens = (
    Some (effects.PayloadPut (id_at kept.state.tag secret) updated payload),
    [],
    rw (found, none, opens.there) refl,
    (row, found, payload.bytes, opens, refl),
    refl,
    refl,
  )

  put_has : (new : Option NewKey) → Adds masters kept row.project new → OpensUnder masters (rows_with new kept.keys) row.project number token payload.bytes
      → HaveEffects masters Records kept (key_changes new ++ token_put ∷ []) bytes_put
  put_has None adds opens = token_has kept.keys opens
  put_has (Some new) adds opens =
      key_have masters kept (wrapped_row new) (token_put ∷ []) bytes_put adds.applies_to (record { key = new.key; opens = adds.opens }) (token_has (insert_key (wrapped_row new) kept.keys) opens)

pub put_leads : (masters : List (List ℕ)) (kept : Kept) (state : State) (row : SecretRow) (secret updated : ℕ) (sealed : Sealed) (payload : Payload) → Opened masters kept state → IsRising kept.state
    → secret_of (id_at kept.state.tag secret) kept.state.secrets ≡ Some row → row.payload ≡ None → Adds masters kept row.project sealed.new
    → OpensUnder masters (rows_with sealed.new kept.keys) row.project sealed.number sealed.token payload.bytes
    → LeadTo masters Records (put_changes sealed secret updated payload.media) kept (after_effects (effects.PayloadPut (id_at kept.state.tag secret) updated payload ∷ []) state)
unfolding token_put bytes_put
put_leads masters kept state row secret updated sealed payload o rising found none adds opens =
    changes_open masters Records (put_changes sealed secret updated payload.media) kept (effects.PayloadPut (id_at kept.state.tag secret) updated payload ∷ []) state o rising
    (put_has masters kept row secret updated sealed.number sealed.token payload found none sealed.new adds opens)
