-- Links (Barbican API v1): an endpoint, the path of a kind of objects, and the text of an id.
use Rattle.std.specs.Prelude.{◌≡◌, ℕ, List, ◌-◌, ◌++◌, length, take, drop, nat_eq, codes, Option, Some, None, if◌then◌else◌}
use Rattle.std.specs.List.{ends_with}
use Rattle.kms_world.specs.declared.id.Id.{Id}
use Rattle.kms_text.specs.IdText.{id_text_of, read_id_of}
use Rattle.kms_text.specs.declared.link.Kind.{Kind}
use Rattle.kms_text.specs.declared.link.Kind.TheVariants.{Secret, Container, Order}

abbrev pub kind_path : Kind → List ℕ
kind_path Secret = codes "/secrets/"
kind_path Container = codes "/containers/"
kind_path Order = codes "/orders/"

-- the link to an object at an endpoint
abbrev pub link_of : List ℕ → Kind → Id → List ℕ
link_of endpoint kind id = endpoint ++ kind_path kind ++ id_text_of id

-- the id of a link: the last 36 characters, behind any front that ends with the kind's path
unfoldable pub read_ref_of : Kind → List ℕ → Option Id
read_ref_of kind text =
    let front = length text - 36 in
    if ends_with nat_eq (take front text) (kind_path kind) then read_id_of (drop front text) else None

-- the text is a link to this object: any front, the kind's path, and a text of the id
pub record IsLink (kind : Kind) (text : List ℕ) (id : Id) : Type 0 where
  pub front : List ℕ
  pub tail : List ℕ
  pub parts : text ≡ front ++ kind_path kind ++ tail
  pub id_is : read_id_of tail ≡ Some id
