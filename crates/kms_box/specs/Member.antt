-- Members of containers: a secret by its link, maybe under a name.
use Rattle.std.specs.Prelude.{ℕ, List, [], ◌∷◌, Option, Some, option_map, Result, Ok}
use Rattle.std.specs.Option.{option_and_then}
use Rattle.std.specs.Result.{result_ok}
use Rattle.kms_text.specs.Link.{read_ref_of}
use Rattle.kms_text.specs.declared.link.Kind.TheVariants.{Secret}
use Rattle.kms_world.specs.declared.body.MemberBody.{MemberBody}
use Rattle.kms_world.specs.declared.id.Id.{Id}
use Rattle.kms_world.specs.declared.refusal.Field.TheVariants.{Name, SecretRef}
use Rattle.kms_world.specs.declared.refusal.Refusal.{Refusal}
use Rattle.kms_world.specs.declared.refusal.Refusal.TheVariants.{BadBody}
use Rattle.kms_box.specs.Rules.{◌>>=◌, there, optional_text}

-- the member that a body names, or the refusal of the first rule that the body breaks
abbrev pub checked_member : MemberBody → Result (Option (List ℕ) × Id) Refusal
checked_member body = do
  name ← optional_text Name body.name
  id ← there (option_and_then (read_ref_of Secret) body.secret_ref) (BadBody SecretRef)
  Ok (name, id)

-- a member in front of others, where there are all of them
abbrev pub with_first : Option (Option (List ℕ) × Id) → Option (List (Option (List ℕ) × Id)) → Option (List (Option (List ℕ) × Id))
with_first first others = option_and_then (λ member. option_map (λ members. member ∷ members) others) first

-- the members that bodies name; none where one of the bodies breaks a rule
abbrev pub members_of : List MemberBody → Option (List (Option (List ℕ) × Id))
members_of [] = Some []
members_of (body ∷ bodies) = with_first (result_ok (checked_member body)) (members_of bodies)
