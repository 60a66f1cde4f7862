use Rattle.std.proofs.Common.{◌≡◌, ◌+◌, List, length, refl, sym, ap, ◌∙◌, arith}
use Rattle.std.specs.List.{flat_map}
use Rattle.kms_record.specs.declared.change.Change.{Change}
use Rattle.kms_record.specs.Grammar.{change_bytes}
use Rattle.kms_kept.specs.Snapshot.{snapshot_of}
use Rattle.kms_store.proofs.WalkLaws.{length-snapshot}
use Rattle.kms_store.proofs.measure.size_of.Goals as goal

pub loop-change-init : goal.loop-change-init
loop-change-init c = record {
  changes = omega (arith, ap length c.rows_left-rows.ensures.all);
  bytes = ap (λ (changes : List Change). 8 + length (flat_map change_bytes changes)) c.rows_left-rows.ensures.all ∙ sym (length-snapshot (snapshot_of c.args.tables.now.kept));
  fewer = omega arith;
  each = c.rows_left-rows.ensures.grammar;
}
