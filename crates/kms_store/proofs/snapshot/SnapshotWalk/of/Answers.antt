use Rattle.std.proofs.Common.{◌≡◌, List, ℕ, ap}
use Rattle.kms_kept.specs.Snapshot.{snapshot_of}
use Rattle.kms_kept.proofs.SnapshotLaws.{snapshot_leads}
use Rattle.kms_kept.proofs.SpelledLaws.{snapshot_is_one}
use Rattle.kms_store.specs.Snapshot.{Walked, snapshot_after}
use Rattle.kms_store.proofs.WalkLaws.{snapshot_is}
use Rattle.kms_store.proofs.snapshot.SnapshotWalk.of.Goals as goal

pub returns-clause-walk : goal.returns-clause-walk
returns-clause-walk c =
    let kept = c.args.tables.now.kept in
    ap (λ (l : List ℕ). let w : Walked = record { snapshot = snapshot_after c.args.steps kept; left = l } in w)
    (snapshot_is (snapshot_of kept) c.in_ok-size.size.changes c.to_be_bytes.result c.of.result c.in_ok-size.ensures.0 c.to_be_bytes.ensures c.of.ensures.all)

pub returns-clause-leads : goal.returns-clause-leads
returns-clause-leads c =
    let kept = c.args.tables.now.kept in
    record {
      tag_fits = c.of.ensures.tag;
      ids_fit = c.of.ensures.sound.within;
      changes = snapshot_of kept;
      read = snapshot_is_one kept c.of.ensures.sound c.in_ok-size.ensures.2;
      leads = snapshot_leads kept c.of.ensures.sound;
    }
