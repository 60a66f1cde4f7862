-- The text of a time is 19 ASCII characters.
use Rattle.std.proofs.Common.{◌≡◌, ℕ, ◌/◌, ◌%◌, ◌<◌, List, [], ◌∷◌, length, refl, arith}
use Rattle.std.specs.Str.{IsAscii}
use Rattle.std.specs.Prelude.{IsUtf8, ◌++◌, codes}
use Rattle.std.proofs.lemmas.Str.{IsUtf8-from_ascii}
use Rattle.std.proofs.lemmas.Str.Ascii.{IsAscii-nil, IsAscii-cons}
use Rattle.kms_text.specs.declared.calendar.Civil.{Civil}
use Rattle.kms_text.specs.Calendar.{date_of}
use Rattle.kms_text.specs.Time.{time_text_of, date_text, clock_text}
use Rattle.kms_text.proofs.CalendarLemmas.{date_of_is}

pub length-time_text_of : (moment : ℕ) → length (time_text_of moment) ≡ 19
unfolding time_text_of
length-time_text_of moment = refl

-- each character is below 128
abbrev IsSmall : List ℕ → Type 0
IsSmall [] = Unit {0}
IsSmall (c ∷ text) = (c < 128) × IsSmall text

small_ascii : (text : List ℕ) → IsSmall text → IsAscii text
small_ascii [] small = IsAscii-nil
small_ascii (c ∷ text) small = IsAscii-cons c text small.0 (small_ascii text small.1)

shown_ascii : (date : Civil) (second : ℕ) → date.year < 10000 → date.month < 100 → date.day < 100 → second < 86400
    → IsAscii (date_text date ++ codes "T" ++ clock_text second)
shown_ascii date second year month day clock =
    small_ascii (date_text date ++ codes "T" ++ clock_text second) (omega arith, (omega arith, (omega arith, (omega arith, (omega arith, (omega arith, (omega arith, (omega arith, (omega arith, (omega arith, (omega arith, (omega arith, (omega arith, (omega arith, (omega arith, (omega arith, (omega arith, (omega arith, (omega arith, tt)))))))))))))))))))

pub IsAscii-time_text_of : (moment : ℕ) → moment < 253_402_300_800 → IsAscii (time_text_of moment)
unfolding time_text_of
IsAscii-time_text_of moment small =
    let d = date_of_is (moment / 86400) (omega arith) in
    shown_ascii (date_of (moment / 86400)) (moment % 86400)
    (omega (arith, d.year_high)) (omega (arith, d.civil.month_high)) (omega (arith, d.short)) (omega arith)

pub IsUtf8-time_text_of : (moment : ℕ) → moment < 253_402_300_800 → IsUtf8 (time_text_of moment)
IsUtf8-time_text_of moment small = IsUtf8-from_ascii (time_text_of moment) (IsAscii-time_text_of moment small)
