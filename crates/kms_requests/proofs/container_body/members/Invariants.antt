use Rattle.std.proofs.Common.{◌≡◌, List, ◌++◌, drop}
use Rattle.serde_json.specs.View.{items_view}
use Rattle.kms_world.specs.declared.body.MemberBody.{MemberBody}
use Rattle.kms_requests.specs.ContainerBody.{members_of}
use Rattle.kms_requests.specs.Fields.{said_map}
use Rattle.kms_requests.proofs.container_body.members.Given as goal

abbrev pub invariant-loop-item : goal.invariant-loop-item
invariant-loop-item l =
    said_map (λ (others : List MemberBody). l.members ++ others)
    (members_of l.field (items_view (drop l.item-index l.items))) ≡ members_of l.field (items_view l.items)
