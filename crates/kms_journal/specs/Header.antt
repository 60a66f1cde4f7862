-- The header of a store file, which is its first 50 bytes. Numbers are big-endian.
--
--   place  bytes
--       0      1  the first commit mark, 1 where it is set
--       1      8  the letters BKMSTORE
--       9      1  the version, 1
--      10      8  the generation, at least 1
--      18      8  the tag of the store's ids, below 2^60
--      26      8  how many ids were given, at most 2^62
--      34      8  how many steps the snapshot stands for
--      42      8  the length of the snapshot, which stands after the header
use Rattle.std.specs.Prelude.{ℕ, ◌^◌, List, [], ◌∷◌, take, drop, Bool, ◌==◌, ◌&&◌, nat_lt, nat_le, slice_index}
use Rattle.std.specs.Int.{w64, from_be_bytes}
use Rattle.std.specs.Str.{bytes_eq}

-- the number of 8 bytes at a place
abbrev pub number_in : ℕ → List ℕ → ℕ
number_in place head = from_be_bytes w64 (take 8 (drop place head))

-- BKMSTORE
unfoldable pub letters : List ℕ
letters = 66 ∷ 75 ∷ 77 ∷ 83 ∷ 84 ∷ 79 ∷ 82 ∷ 69 ∷ []

-- the first commit mark is set, and the header is one of this format
unfoldable pub is_header : List ℕ → Bool
is_header head = (slice_index head 0 == 1) && bytes_eq (take 8 (drop 1 head)) letters && (slice_index head 9 == 1) && nat_le 1 (number_in 10 head)

-- the tag and the number of ids are in range
unfoldable pub is_in_range : List ℕ → Bool
is_in_range head = nat_lt (number_in 18 head) (2 ^ 60) && nat_le (number_in 26 head) (2 ^ 62)

unfoldable pub snapshot_len : List ℕ → ℕ
snapshot_len head = number_in 42 head
