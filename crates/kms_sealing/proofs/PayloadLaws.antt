-- One payload under the key of its number in its project.
use Rattle.std.proofs.Common.{◌≡◌, ℕ, ◌≤◌, List, [], ◌∷◌, length, drop, Option, Some, None, refl, sym, ap, subst, ◌∙◌}
use Rattle.std.specs.Prelude.{IfSome, IfOk, IfErr, Result, Ok, Err, option_map, slice_index}
use Rattle.std.specs.List.{AllByRecursion}
use Rattle.kms_aes.specs.Cipher.{IsBytes}
use Rattle.kms_fernet.specs.Token.{Opens, OpensToOne}
use Rattle.kms_ring.specs.Ring.{IsUnwrapped}
use Rattle.kms_ring.proofs.UniqueLaws.{unwrapped_once}
use Rattle.kms_world.specs.declared.payload.Payload.{Payload}
use Rattle.kms_record.specs.declared.key.WrappedKey.{WrappedKey}
use Rattle.kms_kept.specs.Kept.{key_of}
use Rattle.kms_kept.specs.Sealed.{HasKey}
use Rattle.kms_opened.specs.Opened.{OpensUnder, OpensSealed, OpensPayload}
use Rattle.kms_store.specs.KeptSecret.{token_alone}
use Rattle.kms_sealing.specs.Payload.{OpensFitting}
use Rattle.kms_sealing.specs.declared.fault.PayloadFault.{PayloadFault}
use Rattle.kms_sealing.specs.declared.fault.PayloadFault.TheVariants.{NoMemory}

-- the payload as it is kept, by what the program sees of it
pub record SeenAs (kept : Option Payload) (number : ℕ) (seen : Payload) : Type 0 where
  pub payload : Payload
  pub there : kept ≡ Some payload
  pub media : payload.media ≡ seen.media
  pub bytes : payload.bytes ≡ number ∷ seen.bytes

parts : (project : List ℕ) (rows : List WrappedKey) (bytes : List ℕ) (number : ℕ) → HasKey rows project bytes → slice_index bytes 0 ≡ number → bytes ≡ number ∷ drop 1 bytes
parts project rows [] number under first = absurd under
parts project rows (n ∷ token) number under first = ap (λ (m : ℕ). m ∷ token) first

pub seen_as : (project : List ℕ) (rows : List WrappedKey) (kept : Option Payload) (number : ℕ) (seen : Payload) → IfSome kept (λ p. HasKey rows project p.bytes) → IfSome kept (λ p. slice_index p.bytes 0 ≡ number)
    → option_map token_alone kept ≡ Some seen → SeenAs kept number seen
seen_as project rows None number seen under first is = absurd cc
seen_as project rows (Some p) number seen under first is =
    let same : token_alone p ≡ seen = cc in
    record {
      payload = p;
      there = refl;
      media = ap (λ (q : Payload). q.media) same;
      bytes = parts project rows p.bytes number under first ∙ ap (λ (q : Payload). number ∷ q.bytes) same;
    }

module _ (masters : List (List ℕ)) (rows : List WrappedKey) (project : List ℕ) where
  -- it opens to these bytes
  pub opens_to : (kept : Option Payload) (number : ℕ) (seen plain : Payload) (row : WrappedKey) (key : List ℕ) → SeenAs kept number seen → plain.media ≡ seen.media
      → key_of project number rows ≡ Some row → IsUnwrapped masters row.wrapped key → OpensFitting key seen.bytes plain.bytes → OpensPayload masters rows project kept (Some plain)
  opens_to kept number seen plain row key is media there unwraps fits =
      subst (λ (k : Option Payload). OpensPayload masters rows project k (Some plain)) (sym is.there) (
        media ∙ sym is.media,
        record {
          number = number;
          token = seen.bytes;
          is = is.bytes;
          opens = record { row = row; there = there; key = key; unwraps = unwraps; opens = fits.opens; some = fits.some; few = fits.few };
        },
      )

  pub nothing_opens : (kept plain : Option Payload) → kept ≡ None → plain ≡ None → OpensPayload masters rows project kept plain
  nothing_opens kept plain is none = subst (λ (p : Option Payload). OpensPayload masters rows project kept p) (sym none) (subst (λ (k : Option Payload). OpensPayload masters rows project k None) (sym is) tt)

  some_same : {A : Type 0} (x y : A) (o : Option A) → o ≡ Some x → o ≡ Some y → x ≡ y
  some_same x y o p q = cc

  heads : (n m : ℕ) (a b : List ℕ) → n ∷ a ≡ m ∷ b → (n ≡ m) × (a ≡ b)
  heads n m a b e = (cc, cc)

  opens_sealed : (number : ℕ) (token sealed bytes : List ℕ) → sealed ≡ number ∷ token → OpensSealed masters rows project sealed bytes → OpensUnder masters rows project number token bytes
  opens_sealed number token sealed bytes is o =
      let same = heads o.number number o.token token (sym o.is ∙ is) in
      subst (λ (n : ℕ). OpensUnder masters rows project n token bytes) same.0 (subst (λ (t : List ℕ). OpensUnder masters rows project o.number t bytes) same.1 o.opens)

  -- the token that is found: what opens the payload opens it
  pub opens_under : (kept plain : Option Payload) (number : ℕ) (seen : Payload) → SeenAs kept number seen → OpensPayload masters rows project kept plain → (bytes : List ℕ) × OpensUnder masters rows project number seen.bytes bytes
  opens_under None plain number seen is o = let there = is.there in absurd cc
  opens_under (Some k) None number seen is o = absurd o
  opens_under (Some k) (Some q) number seen is o =
      let there = is.there in
      let one : k ≡ is.payload = cc in
      (q.bytes, opens_sealed number seen.bytes k.bytes q.bytes (ap (λ (p : Payload). p.bytes) one ∙ is.bytes) o.1)

  -- the key isn't there
  pub no_row : (number : ℕ) (token bytes : List ℕ) → key_of project number rows ≡ None → OpensUnder masters rows project number token bytes → ⊥
  no_row number token bytes none o = let there = o.there in cc

  -- its token doesn't open under the key that is there
  pub not_fitting : AllByRecursion (IsBytes 32) masters → (number : ℕ) (token bytes key : List ℕ) (row : WrappedKey) → key_of project number rows ≡ Some row → IsUnwrapped masters row.wrapped key
      → (OpensFitting key token bytes → ⊥) → OpensUnder masters rows project number token bytes → ⊥
  not_fitting fit number token bytes key row there unwraps closed o =
      let one : o.row ≡ row = some_same o.row row (key_of project number rows) o.there there in
      let same : o.key ≡ key = unwrapped_once masters row.wrapped o.key key fit (subst (λ (r : WrappedKey). IsUnwrapped masters r.wrapped o.key) one o.unwraps) unwraps in
      closed (record { opens = subst (λ (k : List ℕ). Opens k token bytes) same o.opens; some = o.some; few = o.few })

pub under_as : (masters : List (List ℕ)) (a b : List WrappedKey) (p q t u : List ℕ) (number : ℕ) (bytes : List ℕ) → a ≡ b → p ≡ q → t ≡ u → OpensUnder masters a p number t bytes → OpensUnder masters b q number u bytes
under_as masters a b p q t u number bytes rows project token o =
    subst (λ (k : List WrappedKey). OpensUnder masters k q number u bytes) rows
    (subst (λ (x : List ℕ). OpensUnder masters a x number u bytes) project
    (subst (λ (x : List ℕ). OpensUnder masters a p number x bytes) token o))

-- ---- the bytes of a token

pub fits_ok : (key token bytes : List ℕ) (r : Result (List ℕ) PayloadFault) → Opens key token bytes → IfOk r (λ same. (same ≡ bytes) × (1 ≤ length bytes) × (length bytes ≤ 20000)) → IfOk r (OpensFitting key token)
fits_ok key token bytes (Ok same) opens h = record { opens = subst (λ (b : List ℕ). Opens key token b) (sym h.0) opens; some = subst (λ (b : List ℕ). 1 ≤ length b) (sym h.0) h.1; few = subst (λ (b : List ℕ). length b ≤ 20000) (sym h.0) h.2 }
fits_ok key token bytes (Err fault) opens h = tt

pub fits_not : (key token bytes : List ℕ) (r : Result (List ℕ) PayloadFault) → OpensToOne key token bytes → IfErr r (λ fault. 1 ≤ length bytes → length bytes ≤ 20000 → ⊥)
    → IfErr r (λ fault. (fault ≡ NoMemory → ⊥) → (other : List ℕ) → OpensFitting key token other → ⊥)
fits_not key token bytes (Ok same) only h = tt
fits_not key token bytes (Err fault) only h = λ apart other f.
    let one = only other f.opens in h (subst (λ (b : List ℕ). 1 ≤ length b) one f.some) (subst (λ (b : List ℕ). length b ≤ 20000) one f.few)

module _ (masters : List (List ℕ)) (rows : List WrappedKey) (project : List ℕ) (number : ℕ) (token key : List ℕ) (row : WrappedKey) (there : key_of project number rows ≡ Some row) (unwraps : IsUnwrapped masters row.wrapped key) where
  pub under_ok : (r : Result (List ℕ) PayloadFault) → IfOk r (OpensFitting key token) → IfOk r (OpensUnder masters rows project number token)
  under_ok (Ok bytes) f = record { row = row; there = there; key = key; unwraps = unwraps; opens = f.opens; some = f.some; few = f.few }
  under_ok (Err fault) f = tt

  pub under_not : AllByRecursion (IsBytes 32) masters → (r : Result (List ℕ) PayloadFault) → IfErr r (λ fault. (fault ≡ NoMemory → ⊥) → (bytes : List ℕ) → OpensFitting key token bytes → ⊥)
      → IfErr r (λ fault. (fault ≡ NoMemory → ⊥) → (bytes : List ℕ) → OpensUnder masters rows project number token bytes → ⊥)
  under_not fit (Ok bytes) h = tt
  under_not fit (Err fault) h = λ apart bytes o. not_fitting masters rows project fit number token bytes key row there unwraps (h apart bytes) o
