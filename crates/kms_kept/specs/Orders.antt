-- No two orders name the same id.
use Rattle.std.specs.Prelude.{◌≡◌, true, false, List, [], ◌∷◌}
use Rattle.std.specs.List.{AllByRecursion}
use Rattle.kms_world.specs.declared.id.Id.{Id}
use Rattle.kms_world.specs.declared.order.OrderRow.{OrderRow}
use Rattle.kms_kept.specs.Kept.{names_id}

-- what the first names, the second doesn't
abbrev pub NameApart : OrderRow → OrderRow → Type 0
NameApart a b = (id : Id) → names_id id a.state ≡ true → names_id id b.state ≡ false

abbrev pub AllNameApart : List OrderRow → Type 0
AllNameApart [] = Unit {0}
AllNameApart (first ∷ rest) = AllByRecursion (NameApart first) rest × AllNameApart rest
