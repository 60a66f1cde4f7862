use Rattle.std.proofs.Common.{◌≡◌, ℕ, List, [], ◌∷◌, length, refl, sym, subst, ◌∙◌, false}
use Rattle.std.specs.Prelude.{◌==◌}
use Rattle.kms_world.specs.declared.secret.SecretRow.{SecretRow}
use Rattle.kms_record.specs.declared.change.Change.TheVariants.{MetadataPut}
use Rattle.kms_record.specs.Base.{metadata_put_of}
use Rattle.kms_kept.specs.Snapshot.{metadata_changes, sealed_row}
use Rattle.kms_store.proofs.RowsLeftLaws.{metadata_given}
use Rattle.kms_store.proofs.kept_secret.KeptSecret.metadata_put.Goals as goal

pub returns-else-is_empty : goal.returns-else-is_empty
returns-else-is_empty c =
    let row = sealed_row c.self.inside.number c.self.inside.row in
    let some : false ≡ (length row.metadata == 0) = subst (λ (l : List (List ℕ × List ℕ)). false ≡ (length l == 0)) c.as_slice.ensures.pairs (sym c.if-is_empty.false ∙ c.is_empty.ensures) in
    (MetadataPut (metadata_put_of c.self.inside.row), refl, subst (λ (k : SecretRow). metadata_changes k k.metadata ≡ MetadataPut (metadata_put_of c.self.inside.row) ∷ []) c.self.view_is (metadata_given row row.metadata some))
