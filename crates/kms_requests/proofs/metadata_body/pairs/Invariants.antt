use Rattle.std.proofs.Common.{◌≡◌, ◌++◌}
use Rattle.serde_json.specs.View.{members_view}
use Rattle.kms_requests.specs.Fields.{said_map}
use Rattle.kms_requests.specs.MetadataBody.{pair_texts, Pairs}
use Rattle.kms_requests.proofs.metadata_body.pairs.Given as goal

abbrev pub invariant-loop-key : goal.invariant-loop-key
invariant-loop-key l =
    said_map (λ (others : Pairs). l.pairs ++ others)
    (pair_texts l.field (members_view l.key-iterator)) ≡ pair_texts l.field (members_view l.fn.members.entries)
