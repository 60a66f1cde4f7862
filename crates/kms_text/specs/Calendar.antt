-- The proleptic Gregorian calendar (ISO 8601-1 section 4.2.1, RFC 3339 appendix C) from the year 0 on. A month counts from 1.
use Rattle.std.specs.Prelude.{ℕ, zero, suc, ◌+◌, ◌-◌, ◌%◌, Bool, not, ◌&&◌, ◌||◌, ◌==◌, nat_lt, nat_le, Option, Some, None, if◌then◌else◌}
use Rattle.kms_text.specs.declared.calendar.Civil.{Civil}

-- each fourth year, but of the centuries only each fourth
abbrev pub is_leap_year : ℕ → Bool
is_leap_year year = (year % 4 == 0) && (not (year % 100 == 0) || (year % 400 == 0))

abbrev pub days_in_year : ℕ → ℕ
days_in_year year = if is_leap_year year then 366 else 365

-- thirty days have April, June, September and November
abbrev pub days_in_month : ℕ → ℕ → ℕ
days_in_month year month =
    if month == 2 then (if is_leap_year year then 29 else 28)
    else (if (month == 4) || (month == 6) || (month == 9) || (month == 11) then 30 else 31)

-- the days before the first of January of a year
unfoldable pub days_before_year : ℕ → ℕ
days_before_year zero = 0
days_before_year (suc year) = days_before_year year + days_in_year year

-- the days of a year's first n months
unfoldable pub days_of_months : ℕ → ℕ → ℕ
days_of_months year zero = 0
days_of_months year (suc n) = days_of_months year n + days_in_month year (suc n)

-- the number of a day, from 0 for 0000-01-01
abbrev pub day_number : ℕ → ℕ → ℕ → ℕ
day_number year month day = days_before_year year + days_of_months year (month - 1) + (day - 1)

-- whether the calendar has this date
abbrev pub is_date : ℕ → ℕ → ℕ → Bool
is_date year month day = nat_le 1 month && nat_le month 12 && nat_le 1 day && nat_le day (days_in_month year month)

-- the number of the day of a date, if the calendar has it
abbrev pub day_of : ℕ → ℕ → ℕ → Option ℕ
day_of year month day = if is_date year month day then Some (day_number year month day) else None

-- the number of 1970-01-01
unfoldable pub epoch : ℕ
epoch = day_number 1970 1 1

-- the date that lies so many days after the first of a month, of the months that are left
unfoldable pub date_in_year : ℕ → ℕ → ℕ → ℕ → Civil
date_in_year zero year month days = record { year = year; month = month; day = days + 1 }
date_in_year (suc left) year month days =
    if nat_lt days (days_in_month year month) then record { year = year; month = month; day = days + 1 }
    else date_in_year left year (month + 1) (days - days_in_month year month)

-- the date that lies so many days after the first of January of a year, of the years that are left
unfoldable pub date_after : ℕ → ℕ → ℕ → Civil
date_after zero year days = date_in_year 11 year 1 days
date_after (suc left) year days =
    if nat_lt days (days_in_year year) then date_in_year 11 year 1 days
    else date_after left (year + 1) (days - days_in_year year)

-- the date so many days after 1970-01-01, before the year 10000
abbrev pub date_of : ℕ → Civil
date_of days = date_after 8029 1970 days
