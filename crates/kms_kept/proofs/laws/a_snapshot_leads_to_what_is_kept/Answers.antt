use Rattle.kms_kept.proofs.SnapshotLaws.{snapshot_leads}
use Rattle.kms_kept.proofs.laws.a_snapshot_leads_to_what_is_kept.Goals as goal

pub returns : goal.returns
returns c = snapshot_leads
