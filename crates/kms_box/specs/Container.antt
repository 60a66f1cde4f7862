-- Bodies of new containers: the container, or the refusal of the first rule that the body breaks.
use Rattle.std.specs.Prelude.{ℕ, ◌==◌, Bool, true, not, ◌&&◌, nat_le, List, [], ◌∷◌, length, map, find, Option, Some, None, Result, Ok, if◌then◌else◌}
use Rattle.std.specs.Option.{option_and_then}
use Rattle.std.specs.List.{list_any}
use Rattle.std.specs.Str.{bytes_eq}
use Rattle.kms_world.specs.ContainerKind.{word_of}
use Rattle.kms_world.specs.declared.body.ContainerBody.{ContainerBody}
use Rattle.kms_world.specs.declared.body.MemberBody.{MemberBody}
use Rattle.kms_world.specs.declared.container.ContainerKind.{ContainerKind}
use Rattle.kms_world.specs.declared.container.ContainerKind.TheVariants.{Generic, Rsa, Certificate}
use Rattle.kms_world.specs.declared.id.Id.{Id}
use Rattle.kms_world.specs.declared.refusal.Field.TheVariants.{Name, TypeName, SecretRefs}
use Rattle.kms_world.specs.declared.refusal.Refusal.{Refusal}
use Rattle.kms_world.specs.declared.refusal.Refusal.TheVariants.{BadBody}
use Rattle.kms_box.specs.declared.container.NewContainer.{NewContainer}
use Rattle.kms_box.specs.Member.{members_of}
use Rattle.kms_box.specs.Names.{are_named_for}
use Rattle.kms_box.specs.Rules.{◌>>=◌, there, optional_text}

-- the kind whose word this is
abbrev pub kind_of : List ℕ → Option ContainerKind
kind_of word = find (λ kind. bytes_eq (word_of kind) word) (Generic ∷ Rsa ∷ Certificate ∷ [])

-- no number stands twice
abbrev pub are_apart : List ℕ → Bool
are_apart [] = true
are_apart (number ∷ numbers) = not (list_any (λ n. number == n) numbers) && are_apart numbers

-- at most 100 members, no secret twice, and the names that the kind asks for
abbrev pub are_members : ContainerKind → List (Option (List ℕ) × Id) → Bool
are_members kind members =
    nat_le (length members) 100 && are_apart (map (λ m. m.1.0) members) && are_named_for kind members

abbrev pub members_if : ContainerKind → List (Option (List ℕ) × Id) → Option (List (Option (List ℕ) × Id))
members_if kind members = if are_members kind members then Some members else None

-- the members of a container of this kind; a body without a list has none
abbrev pub members_by : ContainerKind → Option (List MemberBody) → Option (List (Option (List ℕ) × Id))
members_by kind None = members_if kind []
members_by kind (Some bodies) = option_and_then (members_if kind) (members_of bodies)

abbrev pub secrets_by : ContainerKind → Option (List MemberBody) → Result (List (Option (List ℕ) × Id)) Refusal
secrets_by kind bodies = there (members_by kind bodies) (BadBody SecretRefs)

abbrev pub checked_container : ContainerBody → Result NewContainer Refusal
checked_container body = do
  name ← optional_text Name body.name
  kind ← there (option_and_then kind_of body.kind) (BadBody TypeName)
  secrets ← secrets_by kind body.secret_refs
  Ok (record { name = name; kind = kind; secrets = secrets })
