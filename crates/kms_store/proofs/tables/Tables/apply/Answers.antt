use Rattle.std.proofs.Common.{◌≡◌, ℕ, ◌+◌, ◌-◌, ap, sym, subst, arith}
use Rattle.kms_kept.specs.Kept.{Kept}
use Rattle.kms_store.specs.Counts.{AreCounted, HasEntries}
use Rattle.kms_store.specs.Part.{IsFit}
use Rattle.kms_store.specs.Prepared.{change_of}
use Rattle.kms_store.specs.Ready.{TaggedChange}
use Rattle.kms_store.specs.Rows.{kept_in, HasSpace}
use Rattle.kms_store.specs.Tables.{Tabled}
use Rattle.kms_store.proofs.TablesLaws.{changed_ordered, changed_sound}
use Rattle.kms_store.proofs.tables.Tables.apply.Goals as goal

pub count_prepared-requires-clause-fits : goal.count_prepared-requires-clause-fits
count_prepared-requires-clause-fits c =
    let rows = c.self.inside.rows in
    subst (λ (r : TaggedChange). IsFit r.change (kept_in rows)) (sym c.ready.view_is) (subst (λ (t : Tabled). IsFit c.args.ready.change t.kept) (sym c.self.view_is) c.requires.fits)

pub invariant_of-self : goal.invariant_of-self
invariant_of-self c =
    let rows = c.self.inside.rows in
    let new = c.apply_prepared.new.self in
    let change = change_of c.ready.inside.prepared in
    let fits : IsFit change (kept_in rows) =
    subst (λ (r : TaggedChange). IsFit r.change (kept_in rows)) (sym c.ready.view_is) (subst (λ (t : Tabled). IsFit c.args.ready.change t.kept) (sym c.self.view_is) c.requires.fits)
    in
    let spare : c.self.inside.spare - 1 + 1 ≡ c.self.inside.spare = omega (arith, c.requires.spare, ap (λ (t : Tabled). t.spare) c.self.view_is) in
    record {
      ordered = changed_ordered rows new change c.ready.invariant.change c.self.invariant.ordered c.self.invariant.sound fits c.apply_prepared.ensures.kept;
      sound = changed_sound rows new change c.ready.invariant.change c.self.invariant.sound fits c.apply_prepared.ensures.kept;
      space = c.apply_prepared.ensures.space (c.self.inside.spare - 1) (subst (λ (n : ℕ). HasSpace n rows) (sym spare) c.self.invariant.space);
      counted = subst (λ (kept : Kept). AreCounted c.count_prepared.new.self kept.state) (sym c.apply_prepared.ensures.kept) c.count_prepared.ensures.counted;
      entries = c.count_prepared.ensures.entries (c.self.inside.spare - 1) (subst (λ (n : ℕ). HasEntries n c.self.inside.counts) (sym spare) c.self.invariant.entries);
    }
