-- The text of a time (RFC 3339 section 5.6): a full date, T, and the time of day.
use Rattle.std.specs.Prelude.{ℕ, ◌+◌, ◌/◌, ◌%◌, List, [], ◌∷◌, ◌++◌, codes}
use Rattle.kms_text.specs.declared.calendar.Civil.{Civil}
use Rattle.kms_text.specs.Calendar.{date_of}

-- a number below 100, in two digits
abbrev pub two_digits : ℕ → List ℕ
two_digits n = (48 + n / 10) ∷ (48 + n % 10) ∷ []

-- a number below 10000, in four digits
abbrev pub four_digits : ℕ → List ℕ
four_digits n = (48 + n / 1000) ∷ (48 + n / 100 % 10) ∷ (48 + n / 10 % 10) ∷ (48 + n % 10) ∷ []

-- `1985-10-26`
abbrev pub date_text : Civil → List ℕ
date_text date = four_digits date.year ++ codes "-" ++ two_digits date.month ++ codes "-" ++ two_digits date.day

-- `08:20:00`, of the seconds since midnight
abbrev pub clock_text : ℕ → List ℕ
clock_text second = two_digits (second / 3600) ++ codes ":" ++ two_digits (second / 60 % 60) ++ codes ":" ++ two_digits (second % 60)

-- `1985-10-26T08:20:00`, of the seconds since 1970-01-01T00:00:00 in UTC, before the year 10000
unfoldable pub time_text_of : ℕ → List ℕ
time_text_of moment = date_text (date_of (moment / 86400)) ++ codes "T" ++ clock_text (moment % 86400)
