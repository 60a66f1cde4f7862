use Rattle.std.proofs.Common.{◌≡◌, ℕ, Bool, true, false, List, [], ◌∷◌, Option, Some, None, inl, inr, sym, subst}
use Rattle.std.specs.List.{AllZip}
use Rattle.std.proofs.lemmas.Bool.{cases_Bool}
use Rattle.kms_world.specs.Id.{is_id}
use Rattle.kms_world.specs.LookUp.{secret_of}
use Rattle.kms_world.specs.declared.id.Id.{Id}
use Rattle.kms_world.specs.declared.secret.SecretRow.{SecretRow}
use Rattle.kms_record.specs.declared.key.WrappedKey.{WrappedKey}
use Rattle.kms_kept.specs.Kept.{Kept}
use Rattle.kms_opened.specs.Opened.{OpensRow}
use Rattle.kms_sealing.specs.Opening.{IsOpen, PayloadOpens}
use Rattle.kms_sealing.proofs.tests.has.Goals as goal

some_same : (x y : SecretRow) → (let o : Option SecretRow = Some x in let p : Option SecretRow = Some y in o ≡ p) → x ≡ y
some_same x y e = cc

-- a secret that a look-up finds opens where each does
opens_found : (masters : List (List ℕ)) (keys : List WrappedKey) (id : Id) (xs ys : List SecretRow) (row : SecretRow) → AllZip (OpensRow masters keys) xs ys → secret_of id xs ≡ Some row → PayloadOpens masters keys row
opens_found masters keys id [] ys row each found = absurd cc
opens_found masters keys id (x ∷ xs) [] row each found = absurd each
opens_found masters keys id (x ∷ xs) (y ∷ ys) row each found = elim (cases_Bool (is_id id x.id)) [
  | inl t ↦ subst (λ (r : SecretRow). PayloadOpens masters keys r) (some_same x row (rw t at found)) (y.payload, each.0.payload)
  | inr f ↦ opens_found masters keys id xs ys row each.1 (rw f at found)
]

pub opens_to-requires-clause-opens : goal.opens_to-requires-clause-opens
opens_to-requires-clause-opens c =
    let all = c.requires.opened in
    opens_found c.args.keys.now.masters c.args.tables.now.kept.keys _ c.args.tables.now.kept.state.secrets all.0.secrets c.in-Some.secret.now all.1.secrets (sym c.in-Some.ensures.found)
