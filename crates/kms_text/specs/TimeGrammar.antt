-- The grammar of the times that are read (a profile of RFC 3339 section 5.6), as what the parts of a time are written as.
use Rattle.std.specs.Prelude.{◌≡◌, ◌⊎◌, ℕ, ◌+◌, ◌*◌, ◌<◌, List, [], ◌∷◌, ◌++◌, codes, true, Some}
use Rattle.kms_text.specs.declared.calendar.Civil.{Civil}
use Rattle.kms_text.specs.declared.offset.Offset.{Offset}
use Rattle.kms_text.specs.declared.offset.Offset.TheVariants.{Ahead, Behind}
use Rattle.kms_text.specs.Calendar.{is_date, day_number}
use Rattle.kms_text.specs.Time.{two_digits, date_text, clock_text}
use Rattle.kms_text.specs.TimeForms.{is_fraction, utc_of, since_epoch}

-- a sign, hours to 23 and minutes to 59
pub record IsSigned (sign : ℕ) (direction : ℕ → Offset) (text : List ℕ) (offset : Offset) : Type 0 where
  pub hour : ℕ
  pub minute : ℕ
  pub hours : hour < 24
  pub minutes : minute < 60
  pub shown : text ≡ sign ∷ two_digits hour ++ codes ":" ++ two_digits minute
  pub amount : offset ≡ direction (hour * 3600 + minute * 60)

-- nothing or Z for UTC, or + for a local time ahead of it, or - for one behind it
abbrev pub IsOffset : List ℕ → Offset → Type 0
IsOffset text offset =
    (((text ≡ []) ⊎ (text ≡ codes "Z")) × (offset ≡ Ahead 0))
    ⊎ (IsSigned 43 Ahead text offset ⊎ IsSigned 45 Behind text offset)

-- the text shows this moment, in seconds since 1970-01-01T00:00:00 in UTC
pub record IsTime (text : List ℕ) (moment : ℕ) : Type 0 where
  pub date : Civil
  pub second : ℕ
  pub fraction : List ℕ
  pub zone : List ℕ
  pub offset : Offset
  pub year : date.year < 10000
  pub dated : is_date date.year date.month date.day ≡ true
  pub clock : second < 86400
  pub dropped : is_fraction fraction ≡ true
  pub zoned : IsOffset zone offset
  pub shown : text ≡ (date_text date ++ codes "T" ++ clock_text second) ++ (fraction ++ zone)
  pub counted : since_epoch (utc_of (day_number date.year date.month date.day * 86400 + second) offset) ≡ Some moment
