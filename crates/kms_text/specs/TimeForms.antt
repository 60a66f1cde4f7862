-- Times that are read, in a profile of RFC 3339 section 5.6: a full date, T and the time of day; then at most a fraction
-- of a second of one to nine digits, which is dropped; then at most an offset from UTC.
use Rattle.std.specs.Prelude.{ℕ, ◌+◌, ◌-◌, ◌*◌, List, [], ◌∷◌, length, take, drop, slice_index, codes, Bool, true, ◌&&◌, ◌||◌, ◌==◌, nat_lt, nat_le, nat_eq, Option, Some, None, option_and_then, if◌then◌else◌}
use Rattle.std.specs.Option.{option_map}
use Rattle.std.specs.Char.{is_ascii_digit}
use Rattle.std.specs.Str.{bytes_eq}
use Rattle.std.specs.List.{list_all, ends_with}
use Rattle.std.specs.Cmp.Lexicographic.{pointwise}
use Rattle.kms_text.specs.declared.offset.Offset.{Offset}
use Rattle.kms_text.specs.declared.offset.Offset.TheVariants.{Ahead, Behind}
use Rattle.kms_text.specs.Calendar.{day_of, epoch}

-- whether a character may stand at a place of a form, in which 0 is any digit
abbrev pub fits : ℕ → ℕ → Bool
fits place c = if place == 48 then is_ascii_digit c else (c == place)

abbrev pub has_form : List ℕ → List ℕ → Bool
has_form form text = pointwise fits form text

-- the number that the two digits from a place on write
abbrev pub two_at : List ℕ → ℕ → ℕ
two_at text at = (slice_index text at - 48) * 10 + (slice_index text (at + 1) - 48)

-- the second of the day, if there is such a time of day
abbrev pub second_of : ℕ → ℕ → ℕ → Option ℕ
second_of hour minute second =
    if nat_lt hour 24 && nat_lt minute 60 && nat_lt second 60 then Some (hour * 3600 + minute * 60 + second) else None

-- the number of the day that a date and time of day shows, if there is such a date
abbrev pub day_at : List ℕ → Option ℕ
day_at text = day_of (two_at text 0 * 100 + two_at text 2) (two_at text 5) (two_at text 8)

-- and the second of that day
abbrev pub second_at : List ℕ → Option ℕ
second_at text = second_of (two_at text 11) (two_at text 14) (two_at text 17)

-- a date and time of day
abbrev pub local_form : List ℕ
local_form = codes "0000-00-00T00:00:00"

-- the seconds from 0000-01-01T00:00:00 to a date and time of day
unfoldable pub local_of : List ℕ → Option ℕ
local_of text =
    if has_form local_form text
    then option_and_then (λ day. option_map (λ second. day * 86400 + second) (second_at text)) (day_at text) else None

-- one to nine digits
abbrev pub are_few_digits : List ℕ → Bool
are_few_digits text = nat_le 1 (length text) && nat_le (length text) 9 && list_all is_ascii_digit text

-- nothing, or a point and one to nine digits
abbrev pub is_fraction : List ℕ → Bool
is_fraction [] = true
is_fraction (c ∷ text) = (c == 46) && are_few_digits text

-- how far a local time is from UTC: nothing and Z stand for UTC itself
unfoldable pub offset_of : List ℕ → Option Offset
offset_of text =
    let amount = second_of (two_at text 1) (two_at text 4) 0 in
    if (length text == 0) || bytes_eq text (codes "Z") then Some (Ahead 0)
    else if has_form (codes "+00:00") text then option_map Ahead amount
    else if has_form (codes "-00:00") text then option_map Behind amount
    else None

-- where the offset begins in what stands behind the time of day
unfoldable pub offset_start : List ℕ → ℕ
offset_start rest =
    let sign = slice_index rest (length rest - 6) in
    if ends_with nat_eq rest (codes "Z") then length rest - 1
    else if nat_le 6 (length rest) && ((sign == 43) || (sign == 45)) then length rest - 6
    else length rest

-- a local time in UTC; one that is ahead of UTC by more than itself lies before the year 0, and long before 1970
abbrev pub utc_of : ℕ → Offset → ℕ
utc_of local (Ahead seconds) = local - seconds
utc_of local (Behind seconds) = local + seconds

-- the seconds from 1970-01-01T00:00:00 on, if a time isn't before it and is before the year 10000
unfoldable pub since_epoch : ℕ → Option ℕ
since_epoch utc =
    let start = epoch * 86400 in
    if nat_le start utc && nat_lt (utc - start) 253402300800 then Some (utc - start) else None

-- the moment of a local time
abbrev pub moment_of : ℕ → Offset → Option ℕ
moment_of local offset = since_epoch (utc_of local offset)

-- the moment that a text shows, in seconds since 1970-01-01T00:00:00 in UTC
unfoldable pub read_time_of : List ℕ → Option ℕ
read_time_of text =
    let rest = drop 19 text in
    let start = offset_start rest in
    if is_fraction (take start rest)
    then option_and_then (λ local. option_and_then (moment_of local) (offset_of (drop start rest))) (local_of (take 19 text))
    else None
