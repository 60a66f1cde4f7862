-- The text of a time is read as that time.
use Rattle.std.proofs.Common.{◌≡◌, ℕ, ◌+◌, ◌-◌, ◌*◌, ◌/◌, ◌%◌, ◌<◌, List, [], ◌∷◌, ◌++◌, true, Some, refl, arith, nat_lt, ap, ◌∙◌}
use Rattle.std.specs.Prelude.{codes}
use Rattle.kms_text.specs.declared.calendar.Civil.{Civil}
use Rattle.kms_text.specs.Calendar.{date_of, day_number, day_of}
use Rattle.kms_text.specs.Time.{time_text_of, date_text, clock_text}
use Rattle.kms_text.specs.TimeForms.{fits, has_form, local_form, local_of, second_of, since_epoch, offset_start, offset_of, read_time_of}
use Rattle.kms_text.proofs.CalendarLemmas.{IsCivil, date_of_is, epoch_number, good_date}
use Rattle.kms_text.proofs.MomentLemmas.{from_epoch}

-- each character fits the form at its place
abbrev pub AllFit : List ℕ → List ℕ → Type 0
AllFit [] [] = Unit {0}
AllFit [] (c ∷ text) = ⊥
AllFit (f ∷ form) [] = ⊥
AllFit (f ∷ form) (c ∷ text) = (fits f c ≡ true) × AllFit form text

pub all_fit : (form text : List ℕ) → AllFit form text → has_form form text ≡ true
all_fit [] [] h = refl
all_fit [] (c ∷ text) h = absurd h
all_fit (f ∷ form) [] h = absurd h
all_fit (f ∷ form) (c ∷ text) h = rw h.0 (all_fit form text h.1)

pub digit_fits : (d : ℕ) → d < 10 → fits 48 (48 + d) ≡ true
digit_fits d small = grind arith

pub two_shown : (n : ℕ) → (48 + n / 10 - 48) * 10 + (48 + n % 10 - 48) ≡ n
two_shown n = omega arith

four_shown : (n : ℕ) → ((48 + n / 1000 - 48) * 10 + (48 + n / 100 % 10 - 48)) * 100 + ((48 + n / 10 % 10 - 48) * 10 + (48 + n % 10 - 48)) ≡ n
four_shown n = omega arith

abbrev pub shown : Civil → ℕ → List ℕ
shown date second = date_text date ++ codes "T" ++ clock_text second

shown_form : (date : Civil) (second : ℕ) → date.year < 10000 → date.month < 100 → date.day < 100 → second < 86400
    → has_form local_form (shown date second) ≡ true
shown_form date second year month day clock = all_fit local_form (shown date second) (
  digit_fits (date.year / 1000) (omega arith),
  (
    digit_fits (date.year / 100 % 10) (omega arith),
    (
      digit_fits (date.year / 10 % 10) (omega arith),
      (
        digit_fits (date.year % 10) (omega arith),
        (
          refl,
          (
            digit_fits (date.month / 10) (omega arith),
            (
              digit_fits (date.month % 10) (omega arith),
              (
                refl,
                (
                  digit_fits (date.day / 10) (omega arith),
                  (
                    digit_fits (date.day % 10) (omega arith),
                    (
                      refl,
                      (
                        digit_fits (second / 3600 / 10) (omega arith),
                        (
                          digit_fits (second / 3600 % 10) (omega arith),
                          (
                            refl,
                            (
                              digit_fits (second / 60 % 60 / 10) (omega arith),
                              (
                                digit_fits (second / 60 % 60 % 10) (omega arith),
                                (
                                  refl,
                                  (digit_fits (second % 60 / 10) (omega arith), (digit_fits (second % 60 % 10) (omega arith), tt)),
                                ),
                              ),
                            ),
                          ),
                        ),
                      ),
                    ),
                  ),
                ),
              ),
            ),
          ),
        ),
      ),
    ),
  ),
)

second_shown : (second : ℕ) → second < 86400 → second_of (second / 3600) (second / 60 % 60) (second % 60) ≡ Some second
second_shown second small =
    let hour : nat_lt (second / 3600) 24 ≡ true = grind arith in
    let minute : nat_lt (second / 60 % 60) 60 ≡ true = grind arith in
    let last : nat_lt (second % 60) 60 ≡ true = grind arith in
    rw (hour, minute, last) (ap Some (omega arith))

day_shown : (date : Civil) → IsCivil date → day_of date.year date.month date.day ≡ Some (day_number date.year date.month date.day)
day_shown date d = rw (good_date date.year date.month date.day d.month_low d.month_high d.day_low d.day_high) refl

pub local_shown : (date : Civil) (second : ℕ) → IsCivil date → date.year < 10000 → date.day < 100 → second < 86400
    → local_of (shown date second) ≡ Some (day_number date.year date.month date.day * 86400 + second)
unfolding local_of
local_shown date second d year day clock =
    let form = shown_form date second year (omega (arith, d.month_high)) day clock in
    rw (form, four_shown date.year, two_shown date.month, two_shown date.day, two_shown (second / 3600), two_shown (second / 60 % 60), two_shown (second % 60), day_shown date d, second_shown second clock) refl

start_nothing : offset_start [] ≡ 0
unfolding offset_start
start_nothing = refl

read_shown : (date : Civil) (second local : ℕ) → local_of (shown date second) ≡ Some local → read_time_of (shown date second) ≡ since_epoch (local - 0)
unfolding read_time_of offset_of
read_shown date second local e = rw (start_nothing, e) refl

pub time_read : (moment : ℕ) → moment < 253_402_300_800 → read_time_of (time_text_of moment) ≡ Some moment
unfolding time_text_of
time_read moment small =
    let d = date_of_is (moment / 86400) (omega arith) in
    let date = date_of (moment / 86400) in
    let local = local_shown date (moment % 86400) d.civil (omega (arith, d.year_high)) (omega (arith, d.short)) (omega arith) in
    let utc : day_number date.year date.month date.day * 86400 + moment % 86400 - 0 ≡ moment + 62_167_219_200 = omega (arith, d.count, epoch_number) in
    let back : moment + 62_167_219_200 - 62_167_219_200 ≡ moment = omega arith in
    read_shown date (moment % 86400) _ local ∙ ap since_epoch utc ∙ from_epoch (moment + 62_167_219_200) (omega arith) (omega arith) ∙ ap Some back
