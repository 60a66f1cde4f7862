-- What is read as a time is one by the grammar, and each one by the grammar is read.
use Rattle.std.proofs.Common.{◌≡◌, ◌≢◌, ◌⊎◌, ℕ, zero, suc, ◌+◌, ◌-◌, ◌*◌, ◌/◌, ◌%◌, ◌<◌, ◌≤◌, List, [], ◌∷◌, ◌++◌, length, length-append, append-nil, length-drop, take, drop, slice_index, get_or, true, false, ◌&&◌, ◌||◌, ◌==◌, nat_eq, nat_lt, nat_le, IsTrue, Option, Some, None, MatchOption, option_and_then, inl, inr, refl, sym, ap, ◌∙◌, arith}
use Rattle.std.specs.Prelude.{codes}
use Rattle.std.specs.Option.{option_map}
use Rattle.std.specs.Char.{is_ascii_digit}
use Rattle.std.specs.Str.{bytes_eq}
use Rattle.std.specs.List.{ends_with, list_all}
use Rattle.std.proofs.lemmas.Bool.{cases_Bool, cases_lt}
use Rattle.std.proofs.lemmas.Bool.Decides.{Decides-eqb}
use Rattle.std.proofs.lemmas.List.{take-append-drop, take_at, drop_at, drop_more, nil_from_length, get_or_at, get_or-append-add}
use Rattle.std.proofs.lemmas.List.Folds.{list_all_at}
use Rattle.std.proofs.lemmas.Slice.Eq.{ends_is, bytes_eq-Decides}
use Rattle.kms_text.specs.declared.calendar.Civil.{Civil}
use Rattle.kms_text.specs.declared.offset.Offset.{Offset}
use Rattle.kms_text.specs.declared.offset.Offset.TheVariants.{Ahead, Behind}
use Rattle.kms_text.specs.Calendar.{is_date, day_of, day_number}
use Rattle.kms_text.specs.Time.{two_digits, clock_text}
use Rattle.kms_text.specs.TimeForms.{fits, has_form, local_form, two_at, second_of, local_of, is_fraction, offset_of, offset_start, utc_of, since_epoch, moment_of, read_time_of}
use Rattle.kms_text.specs.TimeGrammar.{IsSigned, IsOffset, IsTime}
use Rattle.kms_text.proofs.CalendarLemmas.{IsCivil, month_short}
use Rattle.kms_text.proofs.FormLemmas.{form_length, form_digit, form_mark, and_false}
use Rattle.kms_text.proofs.MomentLemmas.{since_epoch-lt}
use Rattle.kms_text.proofs.TimeRoundLemmas.{all_fit, digit_fits, two_shown, local_shown, shown}

-- ---- a text by its places

abbrev from_places : ℕ → ℕ → List ℕ → List ℕ
from_places zero k text = []
from_places (suc n) k text = slice_index text k ∷ from_places n (suc k) text

places_are : (n k : ℕ) (text : List ℕ) → k + n ≡ length text → drop k text ≡ from_places n k text
places_are zero k text e = nil_from_length (drop k text) (omega (arith, length-drop k text))
places_are (suc n) k text e =
    let there : k < length text = omega arith in
    let next : k + 1 ≡ suc k = omega arith in
    drop_more text k 0 there ∙ rw next (ap (λ xs. get_or text k 0 ∷ xs) (places_are n (suc k) text (omega arith)))

-- two lists with the same elements
abbrev Same : List ℕ → List ℕ → Type 0
Same [] [] = Unit {0}
Same [] (y ∷ ys) = ⊥
Same (x ∷ xs) [] = ⊥
Same (x ∷ xs) (y ∷ ys) = (x ≡ y) × Same xs ys

same_lists : (xs ys : List ℕ) → Same xs ys → xs ≡ ys
same_lists [] [] s = refl
same_lists [] (y ∷ ys) s = absurd s
same_lists (x ∷ xs) [] s = absurd s
same_lists (x ∷ xs) (y ∷ ys) s = let here = s.0 in let rest = same_lists xs ys s.1 in cc

-- a digit of a form
pub record IsDigit (c : ℕ) : Type 0 where
  low : 48 ≤ c
  high : c ≤ 57

digit_is : (c : ℕ) → IsTrue (is_ascii_digit c) → IsDigit c
digit_is c digit = record { low = grind arith; high = grind arith }

digit_of : (form text : List ℕ) (k : ℕ) → has_form form text ≡ true → slice_index form k ≡ 48 → IsDigit (slice_index text k)
digit_of form text k h zero_there = digit_is (slice_index text k) (form_digit form text k h zero_there)

tens : (t u : ℕ) → IsDigit t → IsDigit u → t ≡ 48 + ((t - 48) * 10 + (u - 48)) / 10
tens t u a b = omega (arith, a.low, a.high, b.low, b.high)

ones : (t u : ℕ) → IsDigit t → IsDigit u → u ≡ 48 + ((t - 48) * 10 + (u - 48)) % 10
ones t u a b = omega (arith, a.low, a.high, b.low, b.high)

abbrev four_of : ℕ → ℕ → ℕ → ℕ → ℕ
four_of a b c d = ((a - 48) * 10 + (b - 48)) * 100 + ((c - 48) * 10 + (d - 48))

record AreFour (a b c d : ℕ) : Type 0 where
  first : a ≡ 48 + four_of a b c d / 1000
  second : b ≡ 48 + four_of a b c d / 100 % 10
  third : c ≡ 48 + four_of a b c d / 10 % 10
  fourth : d ≡ 48 + four_of a b c d % 10
  small : four_of a b c d < 10000

four : (a b c d : ℕ) → IsDigit a → IsDigit b → IsDigit c → IsDigit d → AreFour a b c d
four a b c d p q r s = record {
  first = omega (arith, p.low, p.high, q.low, q.high, r.low, r.high, s.low, s.high);
  second = omega (arith, p.low, p.high, q.low, q.high, r.low, r.high, s.low, s.high);
  third = omega (arith, p.low, p.high, q.low, q.high, r.low, r.high, s.low, s.high);
  fourth = omega (arith, p.low, p.high, q.low, q.high, r.low, r.high, s.low, s.high);
  small = omega (arith, p.low, p.high, q.low, q.high, r.low, r.high, s.low, s.high);
}

-- ---- the date and the time of day

clock_is : (h m s : ℕ) → h < 24 → m < 60 → s < 60
    → clock_text (h * 3600 + m * 60 + s) ≡ two_digits h ++ codes ":" ++ two_digits m ++ codes ":" ++ two_digits s
clock_is h m s a b c =
    let hour : (h * 3600 + m * 60 + s) / 3600 ≡ h = omega arith in
    let minute : (h * 3600 + m * 60 + s) / 60 % 60 ≡ m = omega arith in
    let second : (h * 3600 + m * 60 + s) % 60 ≡ s = omega arith in
    rw (hour, minute, second) refl

pub record IsClock (h m s : ℕ) : Type 0 where
  hour : h < 24
  minute : m < 60
  second : s < 60
  counted : second_of h m s ≡ Some (h * 3600 + m * 60 + s)

clock_cases : (h m s : ℕ) → (second_of h m s ≡ None) ⊎ IsClock h m s
clock_cases h m s =
    elim (cases_Bool (nat_lt h 24 && nat_lt m 60 && nat_lt s 60)) [
      | inl good ↦ inr (record { hour = grind arith; minute = grind arith; second = grind arith; counted = rw good refl })
      | inr bad ↦ inl (rw bad refl)
    ]

day_cases : (y m d : ℕ) → (day_of y m d ≡ None) ⊎ ((is_date y m d ≡ true) × (day_of y m d ≡ Some (day_number y m d)))
day_cases y m d =
    elim (cases_Bool (is_date y m d)) [
      | inl good ↦ inr (good, rw good refl)
      | inr bad ↦ inl (rw bad refl)
    ]

none_some : {A : Type 0} (a : A) → None ≡ Some a → ⊥
none_some a e = cc

and_then_some : {A B : Type 0} (f : A → Option B) (o : Option A) (b : B) → option_and_then f o ≡ Some b → (a : A) × (o ≡ Some a) × (f a ≡ Some b)
and_then_some f None b e = absurd (none_some b e)
and_then_some f (Some a) b e = (a, refl, e)

map_some : {A B : Type 0} (f : A → B) (o : Option A) (b : B) → option_map f o ≡ Some b → (a : A) × (o ≡ Some a) × (f a ≡ b)
map_some f None b e = absurd (none_some b e)
map_some f (Some a) b e = (a, refl, cc)

abbrev date_at : List ℕ → Civil
date_at text = record { year = two_at text 0 * 100 + two_at text 2; month = two_at text 5; day = two_at text 8 }

local_text : (text : List ℕ) → has_form local_form text ≡ true → IsClock (two_at text 11) (two_at text 14) (two_at text 17)
    → text ≡ shown (date_at text) (two_at text 11 * 3600 + two_at text 14 * 60 + two_at text 17)
local_text text form clock =
    let long = form_length local_form text form in
    let d : (k : ℕ) → slice_index local_form k ≡ 48 → IsDigit (slice_index text k) = λ k z. digit_of local_form text k form z in
    let m : (k : ℕ) → slice_index local_form k ≢ 48 → k < 19 → slice_index text k ≡ slice_index local_form k = λ k z lt. form_mark local_form text k form z lt in
    let y = four (slice_index text 0) (slice_index text 1) (slice_index text 2) (slice_index text 3) (d 0 refl) (d 1 refl) (d 2 refl) (d 3 refl) in
    let written = clock_is (two_at text 11) (two_at text 14) (two_at text 17) clock.hour clock.minute clock.second in
    rw written (places_are 19 0 text (sym long) ∙ same_lists (from_places 19 0 text) _ (
      y.first,
      (
        y.second,
        (
          y.third,
          (
            y.fourth,
            (
              m 4 (grind arith) (grind arith),
              (
                tens _ _ (d 5 refl) (d 6 refl),
                (
                  ones _ _ (d 5 refl) (d 6 refl),
                  (
                    m 7 (grind arith) (grind arith),
                    (
                      tens _ _ (d 8 refl) (d 9 refl),
                      (
                        ones _ _ (d 8 refl) (d 9 refl),
                        (
                          m 10 (grind arith) (grind arith),
                          (
                            tens _ _ (d 11 refl) (d 12 refl),
                            (
                              ones _ _ (d 11 refl) (d 12 refl),
                              (
                                m 13 (grind arith) (grind arith),
                                (
                                  tens _ _ (d 14 refl) (d 15 refl),
                                  (
                                    ones _ _ (d 14 refl) (d 15 refl),
                                    (
                                      m 16 (grind arith) (grind arith),
                                      (tens _ _ (d 17 refl) (d 18 refl), (ones _ _ (d 17 refl) (d 18 refl), tt)),
                                    ),
                                  ),
                                ),
                              ),
                            ),
                          ),
                        ),
                      ),
                    ),
                  ),
                ),
              ),
            ),
          ),
        ),
      ),
    ))

pub record IsLocal (text : List ℕ) (local : ℕ) : Type 0 where
  date : Civil
  second : ℕ
  year : date.year < 10000
  dated : is_date date.year date.month date.day ≡ true
  clock : second < 86400
  written : text ≡ shown date second
  counted : local ≡ day_number date.year date.month date.day * 86400 + second

local_parts : (text : List ℕ) (local : ℕ) → local_of text ≡ Some local → IsLocal text local
unfolding local_of
local_parts text local e =
    elim (cases_Bool (has_form local_form text)) [
      | inr off ↦ absurd (none_some local (rw off at e))
      | inl form ↦
          let y = four (slice_index text 0) (slice_index text 1) (slice_index text 2) (slice_index text 3)
          (digit_of local_form text 0 form refl) (digit_of local_form text 1 form refl) (digit_of local_form text 2 form refl) (digit_of local_form text 3 form refl) in
          elim (day_cases (two_at text 0 * 100 + two_at text 2) (two_at text 5) (two_at text 8)) [
            | inl none ↦ absurd (none_some local (rw (form, none) at e))
            | inr day ↦ elim (clock_cases (two_at text 11) (two_at text 14) (two_at text 17)) [
              | inl none ↦ absurd (none_some local (rw (form, day.1, none) at e))
              | inr clock ↦
                  let sum = rw (form, day.1, clock.counted) at e in
                  record {
                    date = date_at text;
                    second = two_at text 11 * 3600 + two_at text 14 * 60 + two_at text 17;
                    year = y.small;
                    dated = day.0;
                    clock = omega (arith, clock.hour, clock.minute, clock.second);
                    written = local_text text form clock;
                    counted = cc;
                  }
            ]
          ]
    ]

-- ---- offsets

signed_text : (sign : ℕ) (zone : List ℕ) → sign ≢ 48 → has_form (sign ∷ codes "00:00") zone ≡ true
    → zone ≡ sign ∷ two_digits (two_at zone 1) ++ codes ":" ++ two_digits (two_at zone 4)
signed_text sign zone other form =
    let f = sign ∷ codes "00:00" in
    let long = form_length f zone form in
    let d : (k : ℕ) → slice_index f k ≡ 48 → IsDigit (slice_index zone k) = λ k z. digit_of f zone k form z in
    places_are 6 0 zone (sym long) ∙ same_lists (from_places 6 0 zone) _ (
      form_mark f zone 0 form other (grind arith),
      (
        tens _ _ (d 1 refl) (d 2 refl),
        (
          ones _ _ (d 1 refl) (d 2 refl),
          (
            form_mark f zone 3 form (grind arith) (grind arith),
            (tens _ _ (d 4 refl) (d 5 refl), (ones _ _ (d 4 refl) (d 5 refl), tt)),
          ),
        ),
      ),
    )

signed_parts : (sign : ℕ) (direction : ℕ → Offset) (zone : List ℕ) (offset : Offset) → sign ≢ 48 → has_form (sign ∷ codes "00:00") zone ≡ true
    → option_map direction (second_of (two_at zone 1) (two_at zone 4) 0) ≡ Some offset → IsSigned sign direction zone offset
signed_parts sign direction zone offset other form e =
    elim (clock_cases (two_at zone 1) (two_at zone 4) 0) [
      | inl none ↦ absurd (none_some offset (rw none at e))
      | inr clock ↦
          let found = map_some direction _ offset e in
          let both : Some (two_at zone 1 * 3600 + two_at zone 4 * 60 + 0) ≡ Some found.0 = sym clock.counted ∙ found.1 in
          let same : two_at zone 1 * 3600 + two_at zone 4 * 60 ≡ found.0 = (let sum : two_at zone 1 * 3600 + two_at zone 4 * 60 + 0 ≡ found.0 = cc in omega arith) in
          record {
            hour = two_at zone 1;
            minute = two_at zone 4;
            hours = clock.hour;
            minutes = clock.minute;
            shown = signed_text sign zone other form;
            amount = sym found.2 ∙ ap direction (sym same);
          }
    ]

offset_parts : (zone : List ℕ) (offset : Offset) → offset_of zone ≡ Some offset → IsOffset zone offset
unfolding offset_of
offset_parts zone offset e =
    elim (cases_Bool (length zone == 0)) [
      | inl empty ↦
          let none : zone ≡ [] = nil_from_length zone (grind arith) in
          inl (inl none, (let utc : Some (Ahead 0) ≡ Some offset = rw empty at e in cc))
      | inr some ↦ elim (cases_Bool (bytes_eq zone (codes "Z"))) [
        | inl zulu ↦
            inl (inr ((bytes_eq-Decides zone (codes "Z")).0 zulu), (let utc : Some (Ahead 0) ≡ Some offset = rw (some, zulu) at e in cc))
        | inr other ↦ elim (cases_Bool (has_form (codes "+00:00") zone)) [
          | inl plus ↦ inr (inl (signed_parts 43 Ahead zone offset (grind arith) plus (rw (some, other, plus) at e)))
          | inr no_plus ↦ elim (cases_Bool (has_form (codes "-00:00") zone)) [
            | inl minus ↦ inr (inr (signed_parts 45 Behind zone offset (grind arith) minus (rw (some, other, no_plus, minus) at e)))
            | inr no_minus ↦ absurd (none_some offset (rw (some, other, no_plus, no_minus) at e))
          ]
        ]
      ]
    ]

abbrev signed_zone : ℕ → ℕ → ℕ → List ℕ
signed_zone sign h m = sign ∷ two_digits h ++ codes ":" ++ two_digits m

zone_form : (sign h m : ℕ) → sign ≢ 48 → h < 100 → m < 100 → has_form (sign ∷ codes "00:00") (signed_zone sign h m) ≡ true
zone_form sign h m other a b =
    let here : fits sign sign ≡ true = grind arith in
    all_fit (sign ∷ codes "00:00") (signed_zone sign h m)
    (here, (digit_fits (h / 10) (omega arith), (digit_fits (h % 10) (omega arith), (refl, (digit_fits (m / 10) (omega arith), (digit_fits (m % 10) (omega arith), tt))))))

amount_is : (h m : ℕ) → h < 24 → m < 60 → second_of h m 0 ≡ Some (h * 3600 + m * 60)
amount_is h m a b =
    elim (clock_cases h m 0) [
      | inl none ↦ (let hour : nat_lt h 24 ≡ true = grind arith in let minute : nat_lt m 60 ≡ true = grind arith in rw (hour, minute) (ap Some (omega arith)))
      | inr clock ↦ clock.counted ∙ ap Some (omega arith)
    ]

ahead_made : (h m : ℕ) → h < 24 → m < 60 → offset_of (signed_zone 43 h m) ≡ Some (Ahead (h * 3600 + m * 60))
unfolding offset_of
ahead_made h m a b =
    rw (zone_form 43 h m (grind arith) (omega arith) (omega arith), two_shown h, two_shown m, amount_is h m a b) refl

behind_made : (h m : ℕ) → h < 24 → m < 60 → offset_of (signed_zone 45 h m) ≡ Some (Behind (h * 3600 + m * 60))
unfolding offset_of
behind_made h m a b =
    rw (zone_form 45 h m (grind arith) (omega arith) (omega arith), two_shown h, two_shown m, amount_is h m a b) refl

nothing_made : offset_of [] ≡ Some (Ahead 0)
unfolding offset_of
nothing_made = refl

zulu_made : offset_of (codes "Z") ≡ Some (Ahead 0)
unfolding offset_of
zulu_made = refl

offset_made : (zone : List ℕ) (offset : Offset) → IsOffset zone offset → offset_of zone ≡ Some offset
offset_made zone offset (inl (inl none, utc)) = rw (none, utc) nothing_made
offset_made zone offset (inl (inr zulu, utc)) = rw (zulu, utc) zulu_made
offset_made zone offset (inr (inl s)) = rw (s.shown, s.amount) (ahead_made s.hour s.minute s.hours s.minutes)
offset_made zone offset (inr (inr s)) = rw (s.shown, s.amount) (behind_made s.hour s.minute s.hours s.minutes)

-- ---- where the offset begins

-- no sign and no Z
record IsPlain (c : ℕ) : Type 0 where
  no_plus : c ≢ 43
  no_minus : c ≢ 45
  no_zulu : c ≢ 90

plain_digit : (c : ℕ) → is_ascii_digit c ≡ true → IsPlain c
plain_digit c digit = record { no_plus = grind arith; no_minus = grind arith; no_zulu = grind arith }

plain_point : (c : ℕ) → c ≡ 46 → IsPlain c
plain_point c point = record { no_plus = omega arith; no_minus = omega arith; no_zulu = omega arith }

all_plain : (text : List ℕ) (k : ℕ) → list_all is_ascii_digit text ≡ true → k < length text → IsPlain (slice_index text k)
all_plain text k all there =
    elim (cases_Bool (is_ascii_digit (slice_index text k))) [
      | inl digit ↦ plain_digit (slice_index text k) digit
      | inr other ↦ absurd (let no_all = list_all_at is_ascii_digit text k 0 there other in let both : true ≡ false = sym all ∙ no_all in cc)
    ]

fraction_plain : (fraction : List ℕ) (k : ℕ) → is_fraction fraction ≡ true → k < length fraction → IsPlain (slice_index fraction k)
fraction_plain [] k few there = absurd (omega arith)
fraction_plain (c ∷ text) zero few there = plain_point c (grind arith)
fraction_plain (c ∷ text) (suc k) few there = all_plain text k (grind arith) (omega arith)

ends_zulu : (s : List ℕ) → ends_with nat_eq s (codes "Z") ≡ true → (0 < length s) × (slice_index s (length s - 1) ≡ 90)
ends_zulu s ends =
    let split : s ≡ take (length s - 1) s ++ codes "Z" = (ends_is Decides-eqb s (codes "Z") (ends_with nat_eq s (codes "Z")) refl).0 ends in
    let count : length s ≡ length (take (length s - 1) s) + 1 = ap length split ∙ length-append (take (length s - 1) s) (codes "Z") in
    let front : length (take (length s - 1) s) ≡ length s - 1 = omega arith in
    (omega arith, ap (λ xs. slice_index xs (length s - 1)) split ∙ get_or_at (take (length s - 1) s) 90 [] 0 (length s - 1) front)

start_absent : (fraction : List ℕ) → is_fraction fraction ≡ true → offset_start fraction ≡ length fraction
unfolding offset_start
start_absent fraction few =
    elim (cases_Bool (ends_with nat_eq fraction (codes "Z"))) [
      | inl ends ↦ absurd (let last = ends_zulu fraction ends in (fraction_plain fraction (length fraction - 1) few (omega (arith, last.0))).no_zulu last.1)
      | inr no_end ↦ elim (cases_lt (length fraction) 6) [
        | inl short ↦ let test : nat_le 6 (length fraction) ≡ false = grind arith in rw (no_end, test) refl
        | inr long ↦
            let plain = fraction_plain fraction (length fraction - 6) few (omega arith) in
            let a : (slice_index fraction (length fraction - 6) == 43) ≡ false = (let p = plain.no_plus in grind arith) in
            let b : (slice_index fraction (length fraction - 6) == 45) ≡ false = (let p = plain.no_minus in grind arith) in
            rw (no_end, a, b, and_false (nat_le 6 (length fraction))) refl
      ]
    ]

start_zulu : (fraction : List ℕ) → offset_start (fraction ++ codes "Z") ≡ length fraction
unfolding offset_start
start_zulu fraction =
    let s = fraction ++ codes "Z" in
    let ends : ends_with nat_eq s (codes "Z") ≡ true = (ends_is Decides-eqb s (codes "Z") (ends_with nat_eq s (codes "Z")) refl).1 fraction refl in
    let count : length s ≡ length fraction + 1 = length-append fraction (codes "Z") in
    rw ends (omega arith)

start_signed : (fraction : List ℕ) (sign h m : ℕ) → ((sign == 43) || (sign == 45)) ≡ true → m < 60
    → offset_start (fraction ++ signed_zone sign h m) ≡ length fraction
unfolding offset_start
start_signed fraction sign h m is_sign small =
    let zone = signed_zone sign h m in
    let s = fraction ++ zone in
    let count : length s ≡ length fraction + 6 = length-append fraction zone in
    let last : slice_index s (length s - 1) ≡ 48 + m % 10 =
    ap (λ k. slice_index s k) (let k : length s - 1 ≡ length fraction + 5 = omega arith in k) ∙ get_or-append-add fraction zone 5 0 in
    elim (cases_Bool (ends_with nat_eq s (codes "Z"))) [
      | inl ends ↦ absurd (let z = (ends_zulu s ends).1 in omega arith)
      | inr no_end ↦
          let at : length s - 6 ≡ length fraction = omega arith in
          let long : nat_le 6 (length s) ≡ true = grind arith in
          let here : slice_index s (length fraction) ≡ sign = get_or_at fraction sign (two_digits h ++ codes ":" ++ two_digits m) 0 (length fraction) refl in
          rw (no_end, long, at, here, is_sign) refl
    ]

start_is : (fraction zone : List ℕ) (offset : Offset) → is_fraction fraction ≡ true → IsOffset zone offset → offset_start (fraction ++ zone) ≡ length fraction
start_is fraction zone offset few (inl (inl none, utc)) = rw (none, append-nil fraction) (start_absent fraction few)
start_is fraction zone offset few (inl (inr zulu, utc)) = rw zulu (start_zulu fraction)
start_is fraction zone offset few (inr (inl s)) = rw s.shown (start_signed fraction 43 s.hour s.minute refl s.minutes)
start_is fraction zone offset few (inr (inr s)) = rw s.shown (start_signed fraction 45 s.hour s.minute refl s.minutes)

-- ---- times

civil_is : (date : Civil) → is_date date.year date.month date.day ≡ true → IsCivil date
civil_is date dated = record { month_low = grind arith; month_high = grind arith; day_low = grind arith; day_high = grind arith }

made_time : (text front fraction zone : List ℕ) (local : ℕ) (offset : Offset) (moment : ℕ) → text ≡ front ++ (fraction ++ zone)
    → IsLocal front local → is_fraction fraction ≡ true → IsOffset zone offset → since_epoch (utc_of local offset) ≡ Some moment → IsTime text moment
made_time text front fraction zone local offset moment cut l few zoned counted = record {
  date = l.date;
  second = l.second;
  fraction = fraction;
  zone = zone;
  offset = offset;
  year = l.year;
  dated = l.dated;
  clock = l.clock;
  dropped = few;
  zoned = zoned;
  shown = cut ∙ ap (λ xs. xs ++ (fraction ++ zone)) l.written;
  counted = rw l.counted at counted;
}

pub time_parts : (text : List ℕ) (moment : ℕ) → read_time_of text ≡ Some moment → IsTime text moment
unfolding read_time_of
time_parts text moment e =
    let rest = drop 19 text in
    let start = offset_start rest in
    elim (cases_Bool (is_fraction (take start rest))) [
      | inr off ↦ absurd (none_some moment (rw off at e))
      | inl few ↦
          let one = and_then_some _ (local_of (take 19 text)) moment (rw few at e) in
          let two = and_then_some (moment_of one.0) (offset_of (drop start rest)) moment one.2 in
          let cut : text ≡ take 19 text ++ (take start rest ++ drop start rest) =
          sym (take-append-drop 19 text) ∙ ap (λ xs. take 19 text ++ xs) (sym (take-append-drop start rest)) in
          made_time text (take 19 text) (take start rest) (drop start rest) one.0 two.0 moment cut (local_parts (take 19 text) one.0 one.1) few (offset_parts (drop start rest) two.0 two.1) two.2
    ]

time_made : (date : Civil) (second : ℕ) (fraction zone : List ℕ) (offset : Offset) (moment : ℕ) → date.year < 10000
    → is_date date.year date.month date.day ≡ true → second < 86400 → is_fraction fraction ≡ true → IsOffset zone offset
    → since_epoch (utc_of (day_number date.year date.month date.day * 86400 + second) offset) ≡ Some moment
    → read_time_of (shown date second ++ (fraction ++ zone)) ≡ Some moment
unfolding read_time_of
time_made date second fraction zone offset moment year dated clock few zoned counted =
    let civil = civil_is date dated in
    let short : date.day < 100 = omega (arith, civil.day_high, month_short date.year date.month) in
    rw (
      take_at (shown date second) (fraction ++ zone) 19 refl,
      drop_at (shown date second) (fraction ++ zone) 19 refl,
      start_is fraction zone offset few zoned,
      take_at fraction zone (length fraction) refl,
      drop_at fraction zone (length fraction) refl,
      few,
      local_shown date second civil year short clock,
      offset_made zone offset zoned,
    ) counted

pub time_written : (text : List ℕ) (moment : ℕ) → IsTime text moment → read_time_of text ≡ Some moment
time_written text moment t =
    rw t.shown (time_made t.date t.second t.fraction t.zone t.offset moment t.year t.dated t.clock t.dropped t.zoned t.counted)

-- so what is no time by the grammar isn't read
time_cases : (text : List ℕ) (result : Option ℕ) → result ≡ read_time_of text → MatchOption result ((moment : ℕ) → ¬ IsTime text moment) (IsTime text)
time_cases text None e = λ moment t. none_some moment (e ∙ time_written text moment t)
time_cases text (Some moment) e = time_parts text moment (sym e)

pub time_grammar : (text : List ℕ) → MatchOption (read_time_of text) ((moment : ℕ) → ¬ IsTime text moment) (IsTime text)
time_grammar text = time_cases text (read_time_of text) refl

-- a time that is read is before the year 10000
pub read_time_of-lt : (text : List ℕ) (moment : ℕ) → read_time_of text ≡ Some moment → moment < 253_402_300_800
read_time_of-lt text moment e = let t = time_parts text moment e in since_epoch-lt _ moment t.counted
