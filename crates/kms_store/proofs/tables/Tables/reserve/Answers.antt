use Rattle.std.proofs.Common.{sym, subst}
use Rattle.kms_kept.specs.Kept.{Kept}
use Rattle.kms_kept.specs.Sound.{IsSound}
use Rattle.kms_store.specs.Counts.{AreCounted}
use Rattle.kms_store.specs.Rows.{kept_in}
use Rattle.kms_store.proofs.TablesLaws.{same_rows}
use Rattle.kms_store.proofs.tables.Tables.reserve.Goals as goal

pub invariant_of-self : goal.invariant_of-self
invariant_of-self c = record {
  ordered = same_rows c.self.inside.rows c.reserve.new.self c.reserve.ensures.kept c.self.invariant.ordered c.self.invariant.sound;
  sound = subst IsSound (sym c.reserve.ensures.kept) c.self.invariant.sound;
  space = c.reserve.ensures.space c.self.inside.spare c.self.invariant.space;
  counted = subst (λ (kept : Kept). AreCounted c.self.inside.counts kept.state) (sym c.reserve.ensures.kept) c.self.invariant.counted;
  entries = c.self.invariant.entries;
}

pub invariant_of-self-in_err-reserve-2 : goal.invariant_of-self-in_err-reserve-2
invariant_of-self-in_err-reserve-2 c =
    let counts = c.reserve-then-self-changes.new.self in
    record {
      ordered = same_rows c.self.inside.rows c.reserve.new.self c.reserve.ensures.kept c.self.invariant.ordered c.self.invariant.sound;
      sound = subst IsSound (sym c.reserve.ensures.kept) c.self.invariant.sound;
      space = c.reserve.ensures.space c.self.inside.spare c.self.invariant.space;
      counted = subst (λ (kept : Kept). AreCounted counts kept.state) (sym c.reserve.ensures.kept) (c.reserve-then-self-changes.ensures.counted (kept_in c.self.inside.rows).state c.self.invariant.counted);
      entries = c.reserve-then-self-changes.ensures.space c.self.inside.spare c.self.invariant.entries;
    }

pub invariant_of-self-then-self-changes : goal.invariant_of-self-then-self-changes
invariant_of-self-then-self-changes c =
    let counts = c.reserve-then-self-changes.new.self in
    record {
      ordered = same_rows c.self.inside.rows c.reserve.new.self c.reserve.ensures.kept c.self.invariant.ordered c.self.invariant.sound;
      sound = subst IsSound (sym c.reserve.ensures.kept) c.self.invariant.sound;
      space = c.in_ok-reserve.ensures.ok;
      counted = subst (λ (kept : Kept). AreCounted counts kept.state) (sym c.reserve.ensures.kept) (c.reserve-then-self-changes.ensures.counted (kept_in c.self.inside.rows).state c.self.invariant.counted);
      entries = c.in_ok-reserve-2.ensures.ok;
    }
