use Rattle.std.proofs.Common.{sym, subst}
use Rattle.std.specs.List.{AllByRecursion}
use Rattle.kms_record.specs.Grammar.{IsChange}
use Rattle.kms_kept.specs.Snapshot.{snapshot_of}
use Rattle.kms_kept.proofs.SpelledLaws.{snapshot_fits}
use Rattle.kms_store.specs.Rows.{kept_in}
use Rattle.kms_store.specs.Tables.{Tabled}
use Rattle.kms_store.proofs.tables.Tables.rows_left.Goals as goal

pub returns-clause-grammar : goal.returns-clause-grammar
returns-clause-grammar c =
    subst (AllByRecursion IsChange) (sym c.of.ensures) (subst (λ (t : Tabled). AllByRecursion IsChange (snapshot_of t.kept)) c.self.view_is (snapshot_fits (kept_in c.self.inside.rows) c.self.invariant.sound.grammar))
