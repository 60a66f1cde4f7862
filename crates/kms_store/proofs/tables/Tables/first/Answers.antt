use Rattle.std.proofs.Common.{sym, subst}
use Rattle.kms_kept.specs.Kept.{Kept}
use Rattle.kms_kept.specs.Sound.{IsSound}
use Rattle.kms_kept.proofs.SoundLaws.{first_is_sound}
use Rattle.kms_store.specs.Counts.{AreCounted}
use Rattle.kms_store.proofs.tables.Tables.first.Goals as goal

pub invariant_of-result : goal.invariant_of-result
invariant_of-result c = record {
  ordered = c.first.ensures.ordered;
  sound = subst IsSound (sym c.first.ensures.kept) (first_is_sound c.args.tag c.args.ids c.requires.ids);
  space = c.first.ensures.space;
  counted = subst (λ (kept : Kept). AreCounted c.first-2.result kept.state) (sym c.first.ensures.kept) (c.first-2.ensures.counted c.args.tag c.args.ids);
  entries = c.first-2.ensures.space;
}
