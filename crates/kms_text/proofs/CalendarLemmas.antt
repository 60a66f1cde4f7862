-- The date of a day number is the calendar's, and jiff's.
use Rattle.std.proofs.Common.{◌≡◌, ℕ, zero, suc, ◌+◌, ◌-◌, ◌*◌, ◌<◌, ◌≤◌, true, false, nat_lt, inl, inr, refl, sym, ap, ◌∙◌, arith, pos, ◌+ℤ◌, ◌-ℤ◌, unsigned_abs}
use Rattle.std.proofs.lemmas.Bool.{cases_lt, cases_Bool}
use Rattle.jiff_core.specs.declared.civil.date.Date.{Date}
use Rattle.jiff_core.specs.Calendar.{days_of_years as jiff_years, days_of_months as jiff_months, day_count, days_from_civil}
use Rattle.jiff_core.specs.Date.{epoch_day}
use Rattle.jiff_core.proofs.SignedLemmas.{signed_arith}
use Rattle.jiff_core.proofs.CalendarLemmas.{day_count-epoch, day_count-end, days_from_civil-day_count, days_of_months_all, day_count_bounds}
use Rattle.jiff_core.proofs.DateLemmas.{epoch_day_injective}
use Rattle.jiff_core.proofs.MarchLemmas.{days_of_years-march_days}
use Rattle.jiff_core.specs.Date.{IsYmd}
use Rattle.jiff_core.specs.Calendar.{IsDate}
use Rattle.kms_text.specs.declared.calendar.Civil.{Civil}
use Rattle.kms_text.specs.Calendar.{days_in_year, days_in_month, days_before_year, days_of_months, day_number, epoch, date_in_year, date_after, date_of, is_date}

-- jiff counts years from -10000 on
years_are : (year : ℕ) → jiff_years (10000 + year) ≡ jiff_years 10000 + days_before_year year
unfolding days_before_year jiff_years
years_are zero = refl
years_are (suc year) =
    let next : 10000 + suc year ≡ suc (10000 + year) = omega arith in
    let same : pos (10000 + year) -ℤ pos 10000 ≡ pos year = omega (arith, signed_arith) in
    rw next (rw same (omega (arith, years_are year)))

months_are : (year n : ℕ) → jiff_months (pos year) n ≡ days_of_months year n
unfolding days_of_months jiff_months
months_are year zero = refl
months_are year (suc n) = ap (λ k. k + days_in_month year (suc n)) (months_are year n)

-- a day's count and its number differ by the days before the year 0
count_is : (year month day : ℕ) → 1 ≤ day → day_count (pos year) month day ≡ jiff_years 10000 + day_number year month day
unfolding day_count
count_is year month day low =
    let same : unsigned_abs (pos year +ℤ pos 10000) ≡ 10000 + year = omega (arith, signed_arith) in
    rw (same, months_are) (omega (arith, years_are year))

epoch_is : jiff_years 10000 + epoch ≡ 4_371_953
unfolding epoch
epoch_is = omega (arith, count_is 1970 1 1 (omega arith), day_count-epoch)

-- the day numbers of jiff are those from 1970-01-01 on
pub day_is : (year month day n : ℕ) → 1 ≤ day → day_number year month day ≡ epoch + n → days_from_civil (pos year) month day ≡ pos n
day_is year month day n low e =
    omega (arith, signed_arith, days_from_civil-day_count (pos year) month day, count_is year month day low, epoch_is)

-- a year has the days of its twelve months
months_whole : (year : ℕ) → days_of_months year 12 ≡ days_in_year year
months_whole year = sym (months_are year 12) ∙ days_of_months_all (pos year)

-- a date that the calendar has
pub record IsCivil (date : Civil) : Type 0 where
  pub month_low : 1 ≤ date.month
  pub month_high : date.month ≤ 12
  pub day_low : 1 ≤ date.day
  pub day_high : date.day ≤ days_in_month date.year date.month

-- a date of this year that is so many days after its first
record IsInYear (year days : ℕ) (date : Civil) : Type 0 where
  civil : IsCivil date
  same_year : date.year ≡ year
  count : days_of_months year (date.month - 1) + (date.day - 1) ≡ days

months_more : (year m : ℕ) → 1 ≤ m → days_of_months year m ≡ days_of_months year (m - 1) + days_in_month year m
unfolding days_of_months
months_more year zero low = absurd (omega arith)
months_more year (suc m) low = let back : suc m - 1 ≡ m = omega arith in rw back

in_month : (year m days : ℕ) → 1 ≤ m → m ≤ 12 → days < days_in_month year m
    → IsInYear year (days_of_months year (m - 1) + days) (record { year = year; month = m; day = days + 1 })
in_month year m days low high lt = record {
  civil = record { month_low = low; month_high = high; day_low = omega arith; day_high = omega arith };
  same_year = refl;
  count = omega arith;
}

in_year : (left year m days : ℕ) → 1 ≤ m → m + left ≡ 12 → days_of_months year (m - 1) + days < days_in_year year
    → IsInYear year (days_of_months year (m - 1) + days) (date_in_year left year m days)
unfolding date_in_year
in_year zero year m days low high lt =
    let last : m ≡ 12 = omega arith in
    let whole = months_whole year in
    let more = months_more year m low in
    let same : days_of_months year m ≡ days_of_months year 12 = ap (days_of_months year) last in
    in_month year m days low (omega arith) (omega arith)
in_year (suc left) year m days low high lt =
    let more = months_more year m low in
    elim (cases_lt days (days_in_month year m)) [
      | inl here ↦ let yes : nat_lt days (days_in_month year m) ≡ true = grind arith in
          rw yes (in_month year m days low (omega arith) here)
      | inr past ↦ let other : nat_lt days (days_in_month year m) ≡ false = grind arith in
          let back : m + 1 - 1 ≡ m = omega arith in
          let sum : days_of_months year m + (days - days_in_month year m) ≡ days_of_months year (m - 1) + days = omega arith in
          rw other (rw (back, sum) at (in_year left year (m + 1) (days - days_in_month year m) (omega arith) (omega arith) (rw back (omega arith))))
    ]

-- a date of the years from `first` to `last` with this number
pub record IsDated (first last number : ℕ) (date : Civil) : Type 0 where
  pub civil : IsCivil date
  pub year_low : first ≤ date.year
  pub year_high : date.year ≤ last
  pub short : date.day ≤ 31
  pub count : day_number date.year date.month date.day ≡ number

pub month_short : (year month : ℕ) → days_in_month year month ≤ 31
month_short year month = grind arith

dated : (year last days : ℕ) (date : Civil) → year ≤ last → IsInYear year days date → IsDated year last (days_before_year year + days) date
dated year last days date h d =
    let same = d.same_year in
    let count = d.count in
    record { civil = d.civil; year_low = omega arith; year_high = omega arith; short = omega (arith, d.civil.day_high, month_short date.year date.month); count = rw same (omega arith) }

from_january : (year last days : ℕ) → year ≤ last → days < days_in_year year → IsDated year last (days_before_year year + days) (date_in_year 11 year 1 days)
unfolding days_of_months
from_january year last days h lt =
    let start : days_of_months year (1 - 1) + days ≡ days = omega arith in
    dated year last days _ h (rw start at (in_year 11 year 1 days (omega arith) refl (rw start lt)))

pub after : (left year days : ℕ) → days_before_year year + days < days_before_year (year + left + 1)
    → IsDated year (year + left) (days_before_year year + days) (date_after left year days)
unfolding date_after days_before_year
after zero year days lt =
    let next : year + zero + 1 ≡ suc year = omega arith in
    from_january year (year + zero) days (omega arith) (let h = rw next at lt in omega arith)
after (suc left) year days lt =
    elim (cases_lt days (days_in_year year)) [
      | inl here ↦ let yes : nat_lt days (days_in_year year) ≡ true = grind arith in
          rw yes (from_january year (year + suc left) days (omega arith) here)
      | inr past ↦ let other : nat_lt days (days_in_year year) ≡ false = grind arith in
          let next : year + 1 ≡ suc year = omega arith in
          let end : year + suc left + 1 ≡ suc year + left + 1 = omega arith in
          let bound = rw end at lt in
          let rest = after left (suc year) (days - days_in_year year) (omega arith) in
          rw (other, next) (record { civil = rest.civil; year_low = omega (arith, rest.year_low); year_high = omega (arith, rest.year_high); short = rest.short; count = omega (arith, rest.count) })
    ]

years_end : days_before_year (1970 + 8029 + 1) ≡ epoch + 2_932_897
unfolding days_of_months
years_end = omega (arith, count_is 10000 1 1 (omega arith), day_count-end, epoch_is)

pub date_of_is : (days : ℕ) → days < 2_932_897 → IsDated 1970 9999 (epoch + days) (date_of days)
unfolding epoch days_of_months
date_of_is days lt =
    let start : epoch ≡ days_before_year 1970 = omega arith in
    rw start (after 8029 1970 days (omega (arith, years_end)))

-- jiff's date of a day is the calendar's
jiff_date : (days : ℕ) → days < 2_932_897 → Date
jiff_date days lt =
    let d = date_of_is days lt in
    record {
      year = pos (date_of days).year;
      month = (date_of days).month;
      day = (date_of days).day;
      year_in = (omega (arith, signed_arith, d.year_high), omega (arith, signed_arith, d.year_high));
      month_in = (d.civil.month_low, d.civil.month_high);
      day_in = (d.civil.day_low, d.civil.day_high);
    }

pub jiff_date_is : (date : Date) (days : ℕ) → days < 2_932_897 → epoch_day date ≡ pos days
    → (date.year ≡ pos (date_of days).year) × (date.month ≡ (date_of days).month) × (date.day ≡ (date_of days).day)
unfolding jiff_date
jiff_date_is date days lt e =
    let d = date_of_is days lt in
    epoch_day_injective date (jiff_date days lt) (e ∙ sym (day_is _ _ _ days d.civil.day_low d.count))

made : (y z m n d e : ℕ) → y ≡ z → m ≡ n → d ≡ e
    → (let a : Civil = record { year = y; month = m; day = d } in let b : Civil = record { year = z; month = n; day = e } in a ≡ b)
made y z m n d e year month day = cc

pub civil_same : (a b : Civil) → a.year ≡ b.year → a.month ≡ b.month → a.day ≡ b.day → a ≡ b
civil_same a b year month day = made _ _ _ _ _ _ year month day

jiff_start : jiff_years 10000 ≡ 3_652_425
jiff_start = omega (arith, days_of_years-march_days 10000)

-- 1970-01-01 is the day 719528 of the calendar
pub epoch_number : epoch ≡ 719_528
epoch_number = omega (arith, epoch_is, jiff_start)

pub epoch_seconds : epoch * 86400 ≡ 62_167_219_200
epoch_seconds = rw epoch_number refl

-- the calendar has the dates that jiff has
pub is_date_none : (year month day : ℕ) → year < 10000 → ¬ IsDate (pos year) (pos month) (pos day) → is_date year month day ≡ false
is_date_none year month day small none =
    elim (cases_Bool (is_date year month day)) [
      | inl good ↦
          let low : 1 ≤ month = grind arith in
          let high : month ≤ 12 = grind arith in
          let first : 1 ≤ day = grind arith in
          let last : day ≤ days_in_month year month = grind arith in
          absurd (none ((omega (arith, signed_arith), omega (arith, signed_arith)), (omega (arith, signed_arith), omega (arith, signed_arith)), (omega (arith, signed_arith), omega (arith, signed_arith))))
      | inr bad ↦ bad
    ]

-- jiff's date with these parts
pub record IsSameDate (year month day : ℕ) (date : Date) : Type 0 where
  pub good : is_date year month day ≡ true
  pub count : epoch_day date +ℤ pos 719_528 ≡ pos (day_number year month day)
  pub small : day_number year month day < 4_000_000

pub good_date : (year month day : ℕ) → 1 ≤ month → month ≤ 12 → 1 ≤ day → day ≤ days_in_month year month → is_date year month day ≡ true
good_date year month day low high first last = grind arith

pub same_date : (year month day : ℕ) (date : Date) → year < 10000 → IsYmd (pos year) (pos month) (pos day) date → IsSameDate year month day date
same_date year month day date small parts =
    let month_is : date.month ≡ month = (let e = parts.1 in cc) in
    let day_is : date.day ≡ day = (let e = parts.2 in cc) in
    let months = rw month_is at date.month_in in
    let days = rw (parts.0, month_is, day_is) at date.day_in in
    let bounds = day_count_bounds (pos year) month day ((omega (arith, signed_arith), omega (arith, signed_arith)), months, days) in
    let count = count_is year month day days.0 in
    record {
      good = good_date year month day months.0 months.1 days.0 days.1;
      count = rw (parts.0, month_is, day_is) (omega (arith, signed_arith, days_from_civil-day_count (pos year) month day, jiff_start));
      small = omega (arith, jiff_start);
    }
