use Rattle.std.proofs.Common.{◌≡◌, None, List, subst}
use Rattle.kms_record.specs.declared.change.Change.{Change}
use Rattle.kms_kept.specs.Kept.{Base, after_changes, kept_first}
use Rattle.kms_store.proofs.StandsLaws.{no_snapshot_by}
use Rattle.kms_store.proofs.loading.apply_snapshot.Goals as goal

pub returns-in-Some-clause-broken : goal.returns-in-Some-clause-broken
returns-in-Some-clause-broken c = λ broken.
    no_snapshot_by c.args.tag c.args.ids c.args.bytes.now c.in-Some.changes (rw c.in-Some.is at c.in_ok-changes.ensures)
    (subst (λ (changes : List Change). after_changes Base changes (kept_first c.args.tag c.args.ids) ≡ None) c.into_vec.ensures (c.apply_first.ensures.broken broken))
