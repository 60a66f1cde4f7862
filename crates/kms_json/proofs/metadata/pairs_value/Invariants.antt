use Rattle.std.proofs.Common.{◌≡◌, take}
use Rattle.serde_json.specs.Data.{no_members}
use Rattle.serde_json.specs.View.{members_view}
use Rattle.kms_json.specs.Metadata.{with_pairs}
use Rattle.kms_json.proofs.metadata.pairs_value.Given as goal

abbrev pub invariant-loop-pair : goal.invariant-loop-pair
invariant-loop-pair l = members_view l.members.entries ≡ with_pairs no_members (take l.pair-index l.pairs)
