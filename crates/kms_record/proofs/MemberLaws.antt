-- The members of a container's row as those of a change.
use Rattle.std.proofs.Common.{◌≡◌, ℕ, List, length, map, Option}
use Rattle.std.proofs.lemmas.List.{length-map}
use Rattle.kms_world.specs.declared.id.Id.{Id}
use Rattle.kms_record.specs.Base.{member_of}

pub length_members : (ms : List (Option (List ℕ) × Id)) → length (map member_of ms) ≡ length ms
length_members ms = length-map ms member_of
