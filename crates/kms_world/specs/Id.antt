-- Ids: a UUID of version 8 (RFC 9562 section 5.8), as the number of its 128 bits, the first the most significant.
use Rattle.std.specs.Prelude.{ℕ, ◌+◌, ◌*◌, ◌/◌, ◌%◌, ◌^◌, ◌==◌, Bool}
use Rattle.kms_world.specs.declared.id.Id.{Id}

-- From the left: the tag's upper 48 bits, the version 8 in 4 bits, the tag's lower 12 bits, the variant 10 in 2 bits,
-- and the count in 62 bits. A tag is below 2 ^ 60, a count below 2 ^ 62.
abbrev pub id_number : ℕ → ℕ → ℕ
id_number tag count = tag / 2 ^ 12 * 2 ^ 80 + 8 * 2 ^ 76 + tag % 2 ^ 12 * 2 ^ 64 + 2 * 2 ^ 62 + count

-- the id of a count under a store's tag
abbrev pub id_at : (tag count : ℕ) → Id
id_at tag count = record { 0 = id_number tag count }

abbrev pub is_id : Id → Id → Bool
is_id id other = other.0 == id.0
