-- Moments of times in UTC, and texts that are too short for a time.
use Rattle.std.proofs.Common.{◌≡◌, ◌≢◌, ℕ, ◌-◌, ◌<◌, ◌≤◌, List, length, take, Bool, true, false, Option, Some, None, nat_le, nat_lt, if◌then◌else◌, refl, arith, inl, inr, sym, ◌∙◌}
use Rattle.std.proofs.lemmas.Bool.{cases_lt}
use Rattle.std.proofs.lemmas.Grind.{common_steps}
use Rattle.kms_text.specs.TimeForms.{has_form, local_form, local_of, since_epoch, read_time_of}
use Rattle.kms_text.proofs.CalendarLemmas.{epoch_seconds}
use Rattle.kms_text.proofs.FormLemmas.{form_other_length, and_false}

pub before_epoch : (utc : ℕ) → utc < 62_167_219_200 → since_epoch utc ≡ None
unfolding since_epoch
before_epoch utc early =
    let test : nat_le 62_167_219_200 utc ≡ false = grind arith in
    rw (epoch_seconds, test) refl

pub from_epoch : (utc : ℕ) → 62_167_219_200 ≤ utc → utc - 62_167_219_200 < 253_402_300_800 → since_epoch utc ≡ Some (utc - 62_167_219_200)
unfolding since_epoch
from_epoch utc low high =
    let first : nat_le 62_167_219_200 utc ≡ true = grind arith in
    let second : nat_lt (utc - 62_167_219_200) 253_402_300_800 ≡ true = grind arith in
    rw (epoch_seconds, first, second) refl

pub past_end : (utc : ℕ) → 253_402_300_800 ≤ utc - 62_167_219_200 → since_epoch utc ≡ None
unfolding since_epoch
past_end utc late =
    let second : nat_lt (utc - 62_167_219_200) 253_402_300_800 ≡ false = grind arith in
    rw (epoch_seconds, second, and_false) refl

-- a moment is before the year 10000
pub since_epoch-lt : (utc moment : ℕ) → since_epoch utc ≡ Some moment → moment < 253_402_300_800
since_epoch-lt utc moment e =
    elim (cases_lt utc 62_167_219_200) [
      | inl early ↦ absurd (let none : None ≡ Some moment = sym (before_epoch utc early) ∙ e in cc)
      | inr late ↦ elim (cases_lt (utc - 62_167_219_200) 253_402_300_800) [
        | inl small ↦ let same : Some (utc - 62_167_219_200) ≡ Some moment = sym (from_epoch utc late small) ∙ e in
            let value : utc - 62_167_219_200 ≡ moment = cc in omega arith
        | inr past ↦ absurd (let none : None ≡ Some moment = sym (past_end utc past) ∙ e in cc)
      ]
    ]

if_none : {A : Type 0} (b : Bool) → (let none : Option A = None in (if b then none else none) ≡ none)
if_none true = refl
if_none false = refl

-- a text of fewer than 19 characters is no time
pub short_none : (text : List ℕ) → length text < 19 → read_time_of text ≡ None
unfolding read_time_of local_of
short_none text short =
    let len : length (take 19 text) ≢ 19 = grind (arith, common_steps) in
    let off : has_form local_form (take 19 text) ≡ false = form_other_length local_form (take 19 text) len in
    rw off (if_none _)
