-- Keys of metadata.
use Rattle.std.specs.Prelude.{ℕ, Bool, ◌&&◌, List, length, nat_le, Option, Some, None, if◌then◌else◌}
use Rattle.std.specs.List.{list_all}
use Rattle.std.specs.Str.{str_to_ascii_lowercase}
use Rattle.kms_world.specs.Name.{is_name_byte}

-- 1 to 255 bytes of A-Z a-z 0-9 - _ .
abbrev pub is_key : List ℕ → Bool
is_key key = nat_le 1 (length key) && nat_le (length key) 255 && list_all is_name_byte key

-- the key that a text names: a key is kept in lower case
abbrev pub key_of : List ℕ → Option (List ℕ)
key_of text = if is_key text then Some (str_to_ascii_lowercase text) else None
