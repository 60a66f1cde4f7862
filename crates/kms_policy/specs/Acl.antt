-- Bodies of access lists: what they are to change, and the first rule that they break.
use Rattle.std.specs.Prelude.{ℕ, Bool, not, ◌&&◌, List, [], ◌∷◌, length, Option, Some, None, Result, Ok, Err, if◌then◌else◌, nat_le, filter}
use Rattle.std.specs.List.{list_all}
use Rattle.std.specs.Str.{bytes_eq}
use Rattle.kms_world.specs.Name.{is_name}
use Rattle.kms_world.specs.declared.body.AclBody.{AclBody}
use Rattle.kms_world.specs.declared.body.ReadBody.{ReadBody}
use Rattle.kms_world.specs.declared.refusal.Field.TheVariants.{Read, Users}
use Rattle.kms_world.specs.declared.refusal.Refusal.{Refusal}
use Rattle.kms_world.specs.declared.refusal.Refusal.TheVariants.{BadBody}
use Rattle.kms_policy.specs.declared.acl.AclChange.{AclChange}

-- the names that aren't this one
abbrev pub without : List ℕ → List (List ℕ) → List (List ℕ)
without name names = filter (λ n. not (bytes_eq n name)) names

-- each name once, where it stands first
abbrev pub without_repeats : List (List ℕ) → List (List ℕ)
without_repeats [] = []
without_repeats (name ∷ names) = name ∷ without name (without_repeats names)

-- each text is a name, and at most 100 of them are left without repeats
abbrev pub are_users : List (List ℕ) → Bool
are_users texts = list_all is_name texts && nat_le (length (without_repeats texts)) 100

abbrev pub change_to : Option (List (List ℕ)) → Option Bool → Result AclChange Refusal
change_to None access = Ok (record { users = None; project_access = access })
change_to (Some texts) access =
    if are_users texts then Ok (record { users = Some (without_repeats texts); project_access = access })
    else Err (BadBody Users)

abbrev pub change_by : Option ReadBody → Result AclChange Refusal
change_by None = Err (BadBody Read)
change_by (Some read) = change_to read.users read.project_access

-- what a body is to change, or the refusal of the first rule that it breaks
abbrev pub change_of : AclBody → Result AclChange Refusal
change_of body = change_by body.read
