use Rattle.std.proofs.Common.{◌≡◌, ℕ, List, ◌++◌, drop}
use Rattle.serde_json.specs.View.{items_view}
use Rattle.kms_world.specs.declared.refusal.Field.TheVariants as field
use Rattle.kms_requests.specs.Fields.{said_map, texts_of}
use Rattle.kms_requests.proofs.acl_body.users.Given as goal

abbrev pub invariant-loop-item : goal.invariant-loop-item
invariant-loop-item l =
    said_map (λ (others : List (List ℕ)). l.users ++ others) (texts_of field.Users (items_view (drop l.item-index l.items)))
    ≡ texts_of field.Users (items_view l.items)
