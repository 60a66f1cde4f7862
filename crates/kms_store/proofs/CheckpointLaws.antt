-- A snapshot takes the place of the records.
use Rattle.std.proofs.Common.{◌≡◌, inl, inr, ℕ, ◌+◌, ◌-◌, ◌^◌, ◌≤◌, ◌<◌, List, refl, sym, ap, subst, ◌∙◌, arith, Bool, true}
use Rattle.std.specs.Prelude.{Result, Ok, Err, Some, if◌then◌else◌, nat_lt}
use Rattle.std.proofs.lemmas.Bool.{lt-ltb}
use Rattle.kms_host.specs.History.{History}
use Rattle.kms_host.specs.Store.{syncs}
use Rattle.kms_host.proofs.Moments.{started, throughout_weaker}
use Rattle.kms_kept.specs.Kept.{Kept}
use Rattle.kms_journal.specs.Checkpoint.{Checkpoints, IsOldOrNew, with_snapshot}
use Rattle.kms_journal.specs.Cuts.{cuts}
use Rattle.kms_journal.specs.Pieces.{Snapshot}
use Rattle.kms_journal.specs.Position.{Position, IsPlaced}
use Rattle.kms_journal.specs.Standing.{Standing}
use Rattle.kms_journal.proofs.OpeningLaws.{untouched_keeps}
use Rattle.kms_journal.proofs.RaisedLaws.{raised_by}
use Rattle.kms_journal.proofs.ReadingLaws.{untouched}
use Rattle.kms_store.specs.Due.{IsDue}
use Rattle.kms_store.specs.Checkpoint.{IsCountOf, IsStill, StandsAt, TurnsOver, checkpoint_syncs}
use Rattle.kms_store.specs.Snapshot.{Walked, snapshot_after}
use Rattle.kms_store.specs.Stands.{KeptOf, HasSteps, IsSnapshotOf}
use Rattle.kms_store.proofs.StepsLaws.{exact}
use Rattle.kms_store.proofs.TagLaws.{kept_tag}

module _ (limit : ℕ) (kept : Kept) (steps n : ℕ) (before after : Position) (was now : History) (stands : StandsAt kept before was n) where
  abbrev s : Standing
  s = stands.standing

  abbrev snapshot : Snapshot
  snapshot = snapshot_after steps kept

  of_generation : before.generation ≡ s.generation
  of_generation = ap (λ (p : Position). p.generation) stands.placed.here

  -- where none is made nothing is called
  pub nothing_turned : {T E : Type 0} (x : T) → TurnsOver {T = T} {E = E} kept n (checkpoint_syncs limit before) before before (Ok x) was was
  nothing_turned x = record {
    throughout = started (IsStill kept n (checkpoint_syncs limit before) before.generation was) was (record {
      images = λ quiet image is. record {
        standing = s;
        current = (untouched_keeps was was (untouched was)).images quiet image is ∙ stands.placed.current;
        keeps = stands.keeps;
        counted = stands.counted;
      };
      raised = λ quiet image is.
          raised_by before.generation was was image s ((untouched_keeps was was (untouched was)).images quiet image is ∙ stands.placed.current) (omega (arith, of_generation)) (omega (arith, of_generation));
      others = refl;
      syncs = omega arith;
      paid = omega arith;
    });
    done = stands;
    raised = refl;
    quiet = λ quiet. quiet;
  }

  module _ (walk : Walked) (due : IsDue limit kept steps before walk) (count : IsCountOf steps n) where
    keeps : KeptOf (with_snapshot s snapshot) kept
    keeps = record {
      whole = refl;
      first = kept;
      snapshot = subst (λ (tag : ℕ). IsSnapshotOf tag kept.state.ids snapshot.bytes kept) (kept_tag s kept stands.keeps) due.leads;
      records = refl;
    }

    counted : HasSteps (with_snapshot s snapshot) n
    counted = (0, refl, omega (arith, exact steps n count due.unspent))

    moment : (h : History) → IsOldOrNew s snapshot was h → IsStill kept n (checkpoint_syncs limit before) before.generation was h
    moment h i = record {
      images = λ quiet image is. elim (i.images quiet image is) [
        | inl e ↦ record { standing = s; current = e; keeps = stands.keeps; counted = stands.counted }
        | inr e ↦ record { standing = with_snapshot s snapshot; current = e.0; keeps = keeps; counted = counted }
      ];
      raised = λ quiet image is. elim (i.images quiet image is) [
        | inl e ↦ raised_by before.generation was h image s e (omega (arith, of_generation, i.later)) (omega (arith, of_generation, i.once))
        | inr e ↦ raised_by before.generation was h image (with_snapshot s snapshot) e.0 (omega (arith, of_generation, e.1)) (omega (arith, of_generation, e.1))
      ];
      others = i.others;
      syncs = subst (λ (t : Bool). syncs h.calls ≤ syncs was.calls + (if t then 3 else 0)) (sym (lt-ltb limit (before.end - before.start) due.above)) (omega (arith, i.syncs, i.once));
      paid = i.syncs;
    }

    by_snapshot : {T E : Type 0} (result : Result T E) → Checkpoints {T = T} {E = E} after snapshot result s was now → TurnsOver {T = T} {E = E} kept n (checkpoint_syncs limit before) before after result was now
    by_snapshot (Ok x) k = record {
      throughout = throughout_weaker (IsOldOrNew s snapshot was) (IsStill kept n (checkpoint_syncs limit before) before.generation was) was now moment k.throughout;
      done = record { standing = with_snapshot s snapshot; placed = k.placed; keeps = keeps; counted = counted };
      raised =
          let next : after.generation ≡ s.generation + 1 = ap (λ (p : Position). p.generation) k.placed.here in
          omega (arith, next, of_generation, k.cut);
      quiet = k.quiet;
    }
    by_snapshot (Err e) k = record {
      throughout = throughout_weaker (IsOldOrNew s snapshot was) (IsStill kept n (checkpoint_syncs limit before) before.generation was) was now moment k.throughout;
      done = tt;
      raised = tt;
      quiet = tt;
    }

    pub turned : {T E : Type 0} (result : Result T E) → ((s : Standing) → IsPlaced before was s → Checkpoints {T = T} {E = E} after walk.snapshot result s was now)
        → TurnsOver {T = T} {E = E} kept n (checkpoint_syncs limit before) before after result was now
    turned {T} {E} result k =
        by_snapshot {T = T} {E = E} result (subst (λ (w : Walked). Checkpoints {T = T} {E = E} after w.snapshot result s was now) due.whole (k s stands.placed))
