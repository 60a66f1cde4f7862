-- The key schedule of AES-128 (FIPS 197, section 5.2). A word is a list of four bytes.
use Rattle.std.specs.Prelude.{◌≡◌, ℕ, zero, suc, ◌+◌, ◌-◌, ◌*◌, ◌/◌, ◌%◌, ◌==◌, ◌<◌, if◌then◌else◌, List, [], ◌∷◌, ◌++◌, map, take, drop, slice_index_or}
use Rattle.kms_aes.specs.Field.{times_x, sum_of}
use Rattle.kms_aes.specs.SBox.{substitute}

-- x ^ j
unfoldable pub power_of_x : ℕ → ℕ
power_of_x zero = 1
power_of_x (suc j) = times_x (power_of_x j)

-- Rcon j, for j from 1 on
abbrev pub round_constant : ℕ → List ℕ
round_constant j = power_of_x (j - 1) ∷ 0 ∷ 0 ∷ 0 ∷ []

abbrev pub rot_word : List ℕ → List ℕ
rot_word w = drop 1 w ++ take 1 w

abbrev pub sub_word : List ℕ → List ℕ
sub_word w = map substitute w

-- word i from the words before it
unfoldable pub next_word : List (List ℕ) → ℕ → List ℕ
next_word words i =
    let before = slice_index_or words (i - 1) [] in
    sum_of (slice_index_or words (i - 4) [])
    (if i % 4 == 0 then sum_of (sub_word (rot_word before)) (round_constant (i / 4)) else before)

-- the first 4 + n words of the schedule of a key, which begins with the key's own four
unfoldable pub first_words : List ℕ → ℕ → List (List ℕ)
first_words key zero = take 4 key ∷ take 4 (drop 4 key) ∷ take 4 (drop 8 key) ∷ take 4 (drop 12 key) ∷ []
first_words key (suc n) = let words = first_words key n in words ++ next_word words (n + 4) ∷ []

-- word i of the 44
unfoldable pub word : List ℕ → ℕ → List ℕ
word key i = slice_index_or (first_words key 40) i []

-- the key of a round: words 4 * round to 4 * round + 3, as 16 bytes
unfoldable pub round_key : List ℕ → ℕ → List ℕ
round_key key round =
    word key (4 * round) ++ word key (4 * round + 1) ++ word key (4 * round + 2) ++ word key (4 * round + 3)

-- these are the keys of the rounds 0 to 10
abbrev pub IsSchedule : List ℕ → List (List ℕ) → Type 0
IsSchedule key keys = (round : ℕ) → round < 11 → slice_index_or keys round [] ≡ round_key key round
