-- What is kept opens to one state at most.
use Rattle.std.proofs.Common.{◌≡◌, ℕ, List, [], ◌∷◌, Option, Some, None, refl, sym, ap, subst, ◌∙◌}
use Rattle.std.specs.List.{AllByRecursion, AllZip}
use Rattle.kms_aes.specs.Cipher.{IsBytes}
use Rattle.kms_fernet.specs.Token.{Opens}
use Rattle.kms_fernet.proofs.Unique.{opens_once}
use Rattle.kms_ring.specs.Ring.{IsUnwrapped}
use Rattle.kms_ring.proofs.UniqueLaws.{unwrapped_once}
use Rattle.kms_world.specs.State.{State}
use Rattle.kms_world.specs.declared.payload.Media.{Media}
use Rattle.kms_world.specs.declared.payload.Payload.{Payload}
use Rattle.kms_world.specs.declared.secret.SecretRow.{SecretRow}
use Rattle.kms_record.specs.declared.key.WrappedKey.{WrappedKey}
use Rattle.kms_kept.specs.Kept.{Kept}
use Rattle.kms_opened.specs.Opened.{OpensUnder, OpensPayload, OpensRow, Opened}

zip_once : {A B : Type 0} (R : A → B → Type 0) → ((x : A) (y z : B) → R x y → R x z → y ≡ z) → (xs : List A) (ys zs : List B) → AllZip R xs ys → AllZip R xs zs → ys ≡ zs
zip_once {A} {B} R once [] [] [] p q = refl
zip_once {A} {B} R once [] (y ∷ ys) zs p q = absurd p
zip_once {A} {B} R once [] [] (z ∷ zs) p q = absurd q
zip_once {A} {B} R once (x ∷ xs) [] zs p q = absurd p
zip_once {A} {B} R once (x ∷ xs) (y ∷ ys) [] p q = absurd q
zip_once {A} {B} R once (x ∷ xs) (y ∷ ys) (z ∷ zs) p q =
    ap (λ (w : B). w ∷ ys) (once x y z p.0 q.0) ∙ ap (λ (ws : List B). z ∷ ws) (zip_once R once xs ys zs p.1 q.1)

some_same : {A : Type 0} (x y : A) (o : Option A) → o ≡ Some x → o ≡ Some y → x ≡ y
some_same x y o p q = cc

parts_same : (n m : ℕ) (a b : List ℕ) → n ∷ a ≡ m ∷ b → (n ≡ m) × (a ≡ b)
parts_same n m a b e = (cc, cc)

module _ (masters : List (List ℕ)) (fit : AllByRecursion (IsBytes 32) masters) where
  under_once : (keys : List WrappedKey) (project : List ℕ) (n m : ℕ) (token a b : List ℕ) → n ≡ m → OpensUnder masters keys project n token a → OpensUnder masters keys project m token b → a ≡ b
  under_once keys project n m token a b same p q =
      let there = subst (λ (k : ℕ). OpensUnder masters keys project k token a) same p in
      let row : there.row ≡ q.row = some_same there.row q.row _ there.there q.there in
      let key : there.key ≡ q.key = unwrapped_once masters q.row.wrapped there.key q.key fit (subst (λ (r : WrappedKey). IsUnwrapped masters r.wrapped there.key) row there.unwraps) q.unwraps in
      opens_once q.key token a b q.unwraps.opens.fits (subst (λ (k : List ℕ). Opens k token a) key there.opens) q.opens

  pub payload_once : (keys : List WrappedKey) (project : List ℕ) (sealed a b : Option Payload) → OpensPayload masters keys project sealed a → OpensPayload masters keys project sealed b → a ≡ b
  payload_once keys project None None None p q = refl
  payload_once keys project None None (Some b) p q = absurd q
  payload_once keys project None (Some a) b p q = absurd p
  payload_once keys project (Some s) None b p q = absurd p
  payload_once keys project (Some s) (Some a) None p q = absurd q
  payload_once keys project (Some s) (Some a) (Some b) p q =
      let same = parts_same p.1.number q.1.number p.1.token q.1.token (sym p.1.is ∙ q.1.is) in
      let bytes = under_once keys project p.1.number q.1.number q.1.token a.bytes b.bytes same.0 (subst (λ (t : List ℕ). OpensUnder masters keys project p.1.number t a.bytes) same.1 p.1.opens) q.1.opens in
      ap (λ (bs : List ℕ). let x : Payload = record a { bytes = bs } in let o : Option Payload = Some x in o) bytes
      ∙ ap (λ (m : Media). let x : Payload = record { media = m; bytes = b.bytes } in let o : Option Payload = Some x in o) (p.0 ∙ sym q.0)

  row_once : (keys : List WrappedKey) (x y z : SecretRow) → OpensRow masters keys x y → OpensRow masters keys x z → y ≡ z
  row_once keys x y z p q =
      p.same ∙ ap (λ (o : Option Payload). let r : SecretRow = record x { payload = o } in r) (payload_once keys x.project x.payload y.payload z.payload p.payload q.payload) ∙ sym q.same

  pub opened_once : (kept : Kept) (a b : State) → Opened masters kept a → Opened masters kept b → a ≡ b
  opened_once kept a b p q =
      ap (λ (rows : List SecretRow). let s : State = record a { secrets = rows } in s) (zip_once (OpensRow masters kept.keys) (row_once kept.keys) kept.state.secrets a.secrets b.secrets p.secrets q.secrets)
      ∙ ap (λ (s : State). let t : State = record s { secrets = b.secrets } in t) (p.others ∙ sym q.others)
