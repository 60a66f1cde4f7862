-- The date of a reply (RFC 9110 section 5.6.7), as a function of its second since 1970.
use Rattle.std.specs.Prelude.{ℕ, zero, suc, ◌+◌, ◌-◌, ◌/◌, ◌%◌, List, nat_lt, if◌then◌else◌}
use Rattle.httpdate.specs.Calendar.{days_in_year, days_in_month, weekday}
use Rattle.httpdate.specs.Text.{imf_fixdate}
use Rattle.httpdate.specs.declared.parts.Parts.{Parts}

-- the year, and the day of it from 0, of a day that is `days` after the start of the year y
unfoldable pub year_from : ℕ → ℕ → ℕ → ℕ × ℕ
year_from zero y days = (y, days)
year_from (suc k) y days =
    if nat_lt days (days_in_year y) then (y, days) else year_from k (y + 1) (days - days_in_year y)

-- the month, and the day of it from 0, of a day that is `days` after the start of the month m
unfoldable pub month_from : ℕ → ℕ → ℕ → ℕ → ℕ × ℕ
month_from zero y m days = (m, days)
month_from (suc k) y m days =
    if nat_lt days (days_in_month y m) then (m, days) else month_from k y (m + 1) (days - days_in_month y m)

-- the year of a day since 1970, before the year 10000
abbrev pub year_of : ℕ → ℕ × ℕ
year_of days = year_from 8029 1970 days

-- the month of a day of a year
abbrev pub month_of : ℕ → ℕ → ℕ × ℕ
month_of y days = month_from 11 y 1 days

-- the parts of a second
unfoldable pub parts_at : ℕ → Parts
parts_at s =
    let year = year_of (s / 86400) in
    let month = month_of year.0 year.1 in
    record {
      year = year.0;
      mon = month.0;
      day = month.1 + 1;
      hour = s % 86400 / 3600;
      min = s % 3600 / 60;
      sec = s % 60;
      wday = weekday (s / 86400);
    }

-- `Sat, 26 Oct 1985 08:20:00 GMT`
abbrev pub date_of : ℕ → List ℕ
date_of s = imf_fixdate (parts_at s)
