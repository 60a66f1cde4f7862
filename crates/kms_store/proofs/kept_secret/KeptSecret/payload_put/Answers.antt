use Rattle.std.proofs.Common.{◌≡◌, [], ◌∷◌, sym, subst, ◌∙◌}
use Rattle.kms_world.specs.declared.secret.SecretRow.{SecretRow}
use Rattle.kms_kept.specs.Snapshot.{payload_changes}
use Rattle.kms_store.proofs.RowsLeftLaws.{payload_given}
use Rattle.kms_store.proofs.kept_secret.KeptSecret.payload_put.Goals as goal

pub returns-then-is_some : goal.returns-then-is_some
returns-then-is_some c =
    let g = payload_given c.self.inside.row c.self.inside.number (sym c.is_some.ensures ∙ c.if-is_some.true) in
    (g.0, g.1, subst (λ (k : SecretRow). payload_changes k k.payload ≡ g.0 ∷ []) c.self.view_is g.2)
