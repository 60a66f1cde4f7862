-- How the change that puts an access list is read.
use Rattle.std.specs.Prelude.{ℕ, Bool, not, List}
use Rattle.std.specs.Str.{bytes_eq}
use Rattle.kms_record.specs.declared.acl.AclPut.{AclPut}
use Rattle.kms_record.specs.Reading.{Read, id_at, time_at, name_at, mark_at, both, made_of, list_at, passing, pairwise}

-- no name stands twice
abbrev pub are_apart : List (List ℕ) → Bool
are_apart = pairwise (λ a b. not (bytes_eq a b))

abbrev pub users_at : Read (List (List ℕ))
users_at = passing are_apart (list_at name_at)

abbrev pub AclPutFields : Type 0
AclPutFields = ℕ × (Bool × (ℕ × (ℕ × List (List ℕ))))

abbrev pub acl_put_with : AclPutFields → AclPut
acl_put_with (target, (project_access, (created, (updated, users)))) = record { target = target; project_access = project_access; created = created; updated = updated; users = users }

abbrev pub acl_put_fields_at : Read AclPutFields
acl_put_fields_at = both id_at (both mark_at (both time_at (both time_at users_at)))

unfoldable pub acl_put_at : Read AclPut
acl_put_at = made_of acl_put_with acl_put_fields_at
