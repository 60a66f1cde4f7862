-- The ranges of what a check keeps of a body: those that records ask for.
use Rattle.std.specs.Prelude.{◌≡◌, ℕ, ◌≤◌, true, List, length, map, Option, IfSome}
use Rattle.std.specs.List.{AllByRecursion}
use Rattle.kms_world.specs.declared.id.Id.{Id}
use Rattle.kms_box.specs.declared.container.NewContainer.{NewContainer}
use Rattle.kms_box.specs.Container.{are_apart}
use Rattle.kms_box.specs.Names.{are_named_for}

-- a text has at most 255 bytes
abbrev pub IsShort : List ℕ → Type 0
IsShort text = length text ≤ 255

abbrev pub IsMemberInRange : Option (List ℕ) × Id → Type 0
IsMemberInRange member = IfSome member.0 IsShort

pub record IsContainerInRange (new : NewContainer) : Type 0 where
  pub name : IfSome new.name IsShort
  pub few : length new.secrets ≤ 100
  pub each : AllByRecursion IsMemberInRange new.secrets
  pub apart : are_apart (map (λ m. m.1.0) new.secrets) ≡ true
  pub named : are_named_for new.kind new.secrets ≡ true

pub record IsConsumerInRange (consumer : List ℕ × List ℕ) : Type 0 where
  pub some_name : 1 ≤ length consumer.0
  pub name : IsShort consumer.0
  pub some_url : 1 ≤ length consumer.1
  pub url : IsShort consumer.1
