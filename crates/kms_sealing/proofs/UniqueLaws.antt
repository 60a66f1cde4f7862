-- An opening has one answer.
use Rattle.std.proofs.Common.{◌≡◌, ℕ, List, [], ◌∷◌, ◌++◌, refl, sym, ap, subst, ◌∙◌}
use Rattle.std.specs.List.{AllByRecursion, AllZip}
use Rattle.kms_ring.specs.Ring.{IsUnderNone}
use Rattle.kms_ring.proofs.UniqueLaws.{not_unwrapped}
use Rattle.kms_world.specs.declared.id.Id.{Id}
use Rattle.kms_world.specs.declared.secret.SecretRow.{SecretRow}
use Rattle.kms_record.specs.declared.key.WrappedKey.{WrappedKey}
use Rattle.kms_kept.specs.Kept.{Kept}
use Rattle.kms_opened.specs.Opened.{KeyOpens, OpensRow}
use Rattle.kms_sealing.specs.Opening.{IsOpen, IsUnknown, PayloadOpens, IsClosed, IsRefusal}
use Rattle.kms_sealing.specs.declared.fault.OpeningFault.{OpeningFault}
use Rattle.kms_sealing.specs.declared.fault.OpeningFault.TheVariants.{UnknownMaster, Damaged, NoMemory}

among : {A : Type 0} (P : A → Type 0) (before : List A) (x : A) (after : List A) → AllByRecursion P (before ++ x ∷ after) → P x
among P [] x after each = each.0
among P (y ∷ before) x after each = among P before x after each.1

-- what passes neither here nor there, behind what passes, is one
first_same : {A : Type 0} (P : A → Type 0) (first second : List A) (x y : A) (after other : List A) → first ++ x ∷ after ≡ second ++ y ∷ other → AllByRecursion P first → AllByRecursion P second
    → (P x → ⊥) → (P y → ⊥) → x ≡ y
first_same P [] [] x y after other e p q not_x not_y = cc
first_same P [] (b ∷ second) x y after other e p q not_x not_y = let head : b ≡ x = cc in absurd (not_x (subst P head q.0))
first_same P (a ∷ first) [] x y after other e p q not_x not_y = let head : a ≡ y = cc in absurd (not_y (subst P head p.0))
first_same P (a ∷ first) (b ∷ second) x y after other e p q not_x not_y = let rest : first ++ x ∷ after ≡ second ++ y ∷ other = cc in first_same P first second x y after other rest p.1 q.1 not_x not_y

zip_payloads : (masters : List (List ℕ)) (keys : List WrappedKey) (xs ys : List SecretRow) → AllZip (OpensRow masters keys) xs ys → AllByRecursion (PayloadOpens masters keys) xs
zip_payloads masters keys [] [] each = tt
zip_payloads masters keys [] (y ∷ ys) each = absurd each
zip_payloads masters keys (x ∷ xs) [] each = absurd each
zip_payloads masters keys (x ∷ xs) (y ∷ ys) each = ((y.payload, each.0.payload), zip_payloads masters keys xs ys each.1)

module _ (masters : List (List ℕ)) where
  not_open : (row : WrappedKey) → IsUnderNone masters row.wrapped → KeyOpens masters row → ⊥
  not_open row closed o = not_unwrapped masters row.wrapped o.key closed o.opens

  all_known : (rows : List WrappedKey) (project : List ℕ) → AllByRecursion (KeyOpens masters) rows → IsUnknown masters rows project → ⊥
  all_known rows project each u =
      not_open u.row u.closed (among (KeyOpens masters) u.before u.row u.after (subst (AllByRecursion (KeyOpens masters)) u.rows_are each))

  one_project : (rows : List WrappedKey) (p q : List ℕ) → IsUnknown masters rows p → IsUnknown masters rows q → p ≡ q
  one_project rows p q u v =
      let row = first_same (KeyOpens masters) u.before v.before u.row v.row u.after v.after (sym u.rows_are ∙ v.rows_are) u.opened v.opened (not_open u.row u.closed) (not_open v.row v.closed) in
      u.named ∙ ap (λ (r : WrappedKey). r.project) row ∙ sym v.named

  one_secret : (keys : List WrappedKey) (rows : List SecretRow) (a b : Id) → IsClosed masters keys rows a → IsClosed masters keys rows b → a ≡ b
  one_secret keys rows a b u v =
      let row = first_same (PayloadOpens masters keys) u.before v.before u.row v.row u.after v.after (sym u.rows_are ∙ v.rows_are) u.opened v.opened u.closed v.closed in
      u.named ∙ ap (λ (r : SecretRow). r.id) row ∙ sym v.named

pub open_is_no_refusal : (masters : List (List ℕ)) (kept : Kept) (fault : OpeningFault) → IsOpen masters kept → IsRefusal masters kept fault → fault ≡ NoMemory
open_is_no_refusal masters kept (UnknownMaster project) opened is = absurd (all_known masters kept.keys project opened.1.keys is)
open_is_no_refusal masters kept (Damaged id) opened is =
    let each = zip_payloads masters kept.keys kept.state.secrets opened.0.secrets opened.1.secrets in
    let secret = is.secret in
    absurd (secret.closed (among (PayloadOpens masters kept.keys) secret.before secret.row secret.after (subst (AllByRecursion (PayloadOpens masters kept.keys)) secret.rows_are each)))
open_is_no_refusal masters kept NoMemory opened is = refl

pub one_refusal : (masters : List (List ℕ)) (kept : Kept) (a b : OpeningFault) → (a ≡ NoMemory → ⊥) → (b ≡ NoMemory → ⊥) → IsRefusal masters kept a → IsRefusal masters kept b → a ≡ b
one_refusal masters kept NoMemory b here there p q = absurd (here refl)
one_refusal masters kept (UnknownMaster x) NoMemory here there p q = absurd (there refl)
one_refusal masters kept (Damaged x) NoMemory here there p q = absurd (there refl)
one_refusal masters kept (UnknownMaster x) (UnknownMaster y) here there p q = ap (λ (n : List ℕ). UnknownMaster n) (one_project masters kept.keys x y p q)
one_refusal masters kept (UnknownMaster x) (Damaged y) here there p q = absurd (all_known masters kept.keys x q.keys p)
one_refusal masters kept (Damaged x) (UnknownMaster y) here there p q = absurd (all_known masters kept.keys y p.keys q)
one_refusal masters kept (Damaged x) (Damaged y) here there p q = ap (λ (i : Id). Damaged i) (one_secret masters kept.keys kept.state.secrets x y p.secret q.secret)
