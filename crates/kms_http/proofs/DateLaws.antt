-- The parts of a second are valid and give that second.
use Rattle.std.proofs.Common.{◌≡◌, ℕ, zero, suc, ◌+◌, ◌-◌, ◌*◌, ◌/◌, ◌%◌, ◌<◌, ◌≤◌, true, false, nat_lt, refl, sym, ap, ◌∙◌, inl, inr, arith}
use Rattle.std.proofs.lemmas.Bool.{cases_lt}
use Rattle.httpdate.specs.Calendar.{days_in_year, days_in_month, days_of_years, days_of_months, days_from_civil, weekday}
use Rattle.httpdate.proofs.CalendarLemmas.{days_of_years_closed, days_of_months_more, days_of_months_all}
use Rattle.httpdate.specs.Date.{unix_secs, date_text}
use Rattle.httpdate.specs.Valid.{is_valid, parts_secs, IsValid}
use Rattle.httpdate.specs.declared.date.HttpDate.{HttpDate}
use Rattle.httpdate.specs.declared.parts.Parts.{Parts}
use Rattle.httpdate.proofs.ValidLemmas.{is_valid_complete}
use Rattle.httpdate.proofs.Theorems.{date_text_is}
use Rattle.kms_http.specs.Date.{year_from, month_from, parts_at, date_of}

-- the day `days` of the years from `first` on is the day `day` of the year `year`
pub record IsYearOf (first years days year day : ℕ) : Type 0 where
  pub low : first ≤ year
  pub high : year ≤ first + years
  pub within : day < days_in_year year
  pub count : days_of_years (year - 1970) + day ≡ days_of_years (first - 1970) + days

years_more : (y : ℕ) → 1970 ≤ y → days_of_years (y + 1 - 1970) ≡ days_of_years (y - 1970) + days_in_year y
unfolding days_of_years
years_more y h =
    let next : y + 1 - 1970 ≡ suc (y - 1970) = omega arith in
    let same : 1970 + (y - 1970) ≡ y = omega arith in
    rw next (rw same refl)

-- one year's days are passed
pub year_next : (y k days year day : ℕ) → 1970 ≤ y → days_in_year y ≤ days
    → IsYearOf (y + 1) k (days - days_in_year y) year day → IsYearOf y (suc k) days year day
year_next y k days year day low ge next =
    let more = years_more y low in
    record { low = omega arith; high = omega arith; within = next.within; count = omega arith }

pub year_here : (y k days : ℕ) → days < days_in_year y → IsYearOf y k days y days
year_here y k days lt = record { low = omega arith; high = omega arith; within = lt; count = refl }

pub year_from_is : (k y days : ℕ) → 1970 ≤ y → days_of_years (y - 1970) + days < days_of_years (y + k + 1 - 1970)
    → IsYearOf y k days (year_from k y days).0 (year_from k y days).1
unfolding year_from
year_from_is zero y days low high =
    let more = years_more y low in
    let same : days_of_years (y + zero + 1 - 1970) ≡ days_of_years (y + 1 - 1970) = ap days_of_years (omega arith) in
    year_here y zero days (omega arith)
year_from_is (suc k) y days low high =
    let more = years_more y low in
    let same : days_of_years (y + suc k + 1 - 1970) ≡ days_of_years (y + 1 + k + 1 - 1970) = ap days_of_years (omega arith) in
    elim (cases_lt days (days_in_year y)) [
      | inl lt ↦ let yes : nat_lt days (days_in_year y) ≡ true = grind arith in
          rw yes (year_here y (suc k) days lt)
      | inr ge ↦ let other : nat_lt days (days_in_year y) ≡ false = grind arith in
          rw other (year_next y k days _ _ low ge (year_from_is k (y + 1) (days - days_in_year y) (omega arith) (omega arith)))
    ]

-- the day `days` of the months from `first` on is the day `day` of the month `month`
pub record IsMonthOf (y first months days month day : ℕ) : Type 0 where
  pub low : first ≤ month
  pub high : month ≤ first + months
  pub within : day < days_in_month y month
  pub count : days_of_months y (month - 1) + day ≡ days_of_months y (first - 1) + days

months_more : (y m : ℕ) → 1 ≤ m → days_of_months y (m + 1 - 1) ≡ days_of_months y (m - 1) + days_in_month y m
months_more y m low =
    let same : days_of_months y (m + 1 - 1) ≡ days_of_months y m = ap (days_of_months y) (omega arith) in
    same ∙ days_of_months_more y m low

pub month_next : (y m k days month day : ℕ) → 1 ≤ m → days_in_month y m ≤ days
    → IsMonthOf y (m + 1) k (days - days_in_month y m) month day → IsMonthOf y m (suc k) days month day
month_next y m k days month day low ge next =
    let more = months_more y m low in
    record { low = omega arith; high = omega arith; within = next.within; count = omega arith }

pub month_here : (y m k days : ℕ) → days < days_in_month y m → IsMonthOf y m k days m days
month_here y m k days lt = record { low = omega arith; high = omega arith; within = lt; count = refl }

pub month_from_is : (k y m days : ℕ) → 1 ≤ m → days_of_months y (m - 1) + days < days_of_months y (m + k)
    → IsMonthOf y m k days (month_from k y m days).0 (month_from k y m days).1
unfolding month_from
month_from_is zero y m days low high =
    let more = days_of_months_more y m low in
    let same : days_of_months y (m + zero) ≡ days_of_months y m = ap (days_of_months y) (omega arith) in
    month_here y m zero days (omega arith)
month_from_is (suc k) y m days low high =
    let more = months_more y m low in
    let same : days_of_months y (m + suc k) ≡ days_of_months y (m + 1 + k) = ap (days_of_months y) (omega arith) in
    elim (cases_lt days (days_in_month y m)) [
      | inl lt ↦ let yes : nat_lt days (days_in_month y m) ≡ true = grind arith in
          rw yes (month_here y m (suc k) days lt)
      | inr ge ↦ let other : nat_lt days (days_in_month y m) ≡ false = grind arith in
          rw other (month_next y m k days _ _ low ge (month_from_is k y (m + 1) (days - days_in_month y m) (omega arith) (omega arith)))
    ]

years_start : days_of_years 0 ≡ 0
unfolding days_of_years
years_start = refl

months_start : (y : ℕ) → days_of_months y 0 ≡ 0
unfolding days_of_months
months_start y = refl

-- the years from 1970 to 9999
years_end : days_of_years (1970 + 8029 + 1 - 1970) ≡ 2932897
years_end = let closed = days_of_years_closed 8030 in omega arith

-- the same over plain numbers
abbrev made : (s year month day : ℕ) → Parts
made s year month day = record {
  year = year;
  mon = month;
  day = day + 1;
  hour = s % 86400 / 3600;
  min = s % 3600 / 60;
  sec = s % 60;
  wday = weekday (s / 86400);
}

clock_is : (s : ℕ) → s ≡ s / 86400 * 86400 + s % 86400 / 3600 * 3600 + s % 3600 / 60 * 60 + s % 60
clock_is s = omega arith

number_is : (s year rest month day : ℕ) → IsYearOf 1970 8029 (s / 86400) year rest → IsMonthOf year 1 11 rest month day
    → days_from_civil year month (day + 1) ≡ s / 86400
number_is s year rest month day y m =
    let years : days_of_years (1970 - 1970) ≡ 0 = years_start in
    let months : days_of_months year (1 - 1) ≡ 0 = months_start year in
    let one : day + 1 - 1 ≡ day = omega arith in
    let a = y.count in
    let b = m.count in
    rw one (omega arith)

made_valid : (s year rest month day : ℕ) → IsYearOf 1970 8029 (s / 86400) year rest → IsMonthOf year 1 11 rest month day
    → IsValid (made s year month day)
made_valid s year rest month day y m =
    let number = number_is s year rest month day y m in (
      ((y.low, omega (arith, y.high)), (m.low, omega (arith, m.high)), (omega arith, omega (arith, m.within))),
      (omega arith, omega arith, omega arith),
      ap weekday (sym number),
    )

made_secs : (s year rest month day : ℕ) → IsYearOf 1970 8029 (s / 86400) year rest → IsMonthOf year 1 11 rest month day
    → parts_secs (made s year month day) ≡ s
made_secs s year rest month day y m =
    let number = number_is s year rest month day y m in
    rw number (sym (clock_is s))

pub parts_are : (s : ℕ) → s < 253402300800 → (is_valid (parts_at s) ≡ true) × (parts_secs (parts_at s) ≡ s)
unfolding parts_at
parts_are s h =
    let start : days_of_years (1970 - 1970) ≡ 0 = years_start in
    let y = year_from_is 8029 1970 (s / 86400) (omega arith) (omega (arith, years_end)) in
    let year = (year_from 8029 1970 (s / 86400)).0 in
    let rest = (year_from 8029 1970 (s / 86400)).1 in
    let m = month_from_is 11 year 1 rest (omega arith) (omega (arith, y.within, months_start year, days_of_months_all year)) in
    (is_valid_complete (made s year _ _) (made_valid s year rest _ _ y m), made_secs s year rest _ _ y m)

-- the date of a second is the text of any date at that second
pub date_of_is : (d : HttpDate) (s : ℕ) → unix_secs d ≡ s → s < 253402300800 → date_text d ≡ date_of s
date_of_is d s e h =
    let p = parts_are s h in
    date_text_is d (parts_at s) p.0 (e ∙ sym p.1)
