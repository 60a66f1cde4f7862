-- Numbers in queries, as they are parsed and printed.
use Rattle.std.proofs.Common.{◌≡◌, ℕ, ◌^◌, ◌<◌, ◌≤◌, ◌==◌, true, false, List, length, Option, Some, None, Result, Ok, Err, min, refl, ap, ◌∙◌, arith, rules, inl, inr}
use Rattle.std.specs.Prelude.{decimal, unwrap_or}
use Rattle.std.specs.Char.{is_ascii_digit}
use Rattle.std.specs.List.{list_all}
use Rattle.std.specs.Option.{option_and_then}
use Rattle.std.specs.Result.{OkIff, result_ok}
use Rattle.std.specs.Str.Parse.{digits_value}
use Rattle.std.proofs.lemmas.Bool.{lt-ltb, ltb-true, and_parts, false_from_ne_true, ne_eqb, cases_Bool, eqb-false}
use Rattle.std.proofs.lemmas.Fmt.{digits_decimal, digits_value-decimal, decimal_nonempty}
use Rattle.std.proofs.lemmas.Str.Parse.{IsNumeralModel, numerals_by_value}
use Rattle.kms_page.specs.Number.{is_number, number_of, limit_from, limit_of}

pub own : IsNumeralModel (λ ds. list_all is_ascii_digit ds ≡ true) (digits_value 10)
own = numerals_by_value _ (search rules)

is_one : (text : List ℕ) → list_all is_ascii_digit text ≡ true → 0 < length text → digits_value 10 text < 2 ^ 32 → is_number text ≡ true
is_one text digits some small =
    rw (lt-ltb 0 (length text) some, digits, lt-ltb (digits_value 10 text) (2 ^ 32) small) refl

is_none : (text : List ℕ) → list_all is_ascii_digit text ≡ true → ¬ ((0 < length text) × (digits_value 10 text < 2 ^ 32)) → is_number text ≡ false
is_none text digits off = false_from_ne_true (is_number text) (λ e.
    let parts = and_parts _ _ e in
    let front = and_parts _ _ parts.0 in
    off (ltb-true _ _ front.0, ltb-true _ _ parts.1))

-- what `parse` gives of digits
pub number_parsed : {E : Type 0} (text : List ℕ) (r : Result ℕ E) → list_all is_ascii_digit text ≡ true → OkIff r ((0 < length text) × (digits_value 10 text < 2 ^ 32)) (digits_value 10 text) → result_ok r ≡ number_of text
number_parsed text (Ok n) digits h = rw (is_one text digits h.0.0 h.0.1) (ap Some h.1)
number_parsed text (Err e) digits h = rw (is_none text digits h) refl

-- a number that is printed is read again
pub number_of-decimal : (n : ℕ) → n < 2 ^ 32 → number_of (decimal n) ≡ Some n
number_of-decimal n small =
    let wide : n < 2 ^ 64 = omega arith in
    let value : digits_value 10 (decimal n) ≡ n = digits_value-decimal own n wide in
    rw (is_one (decimal n) (digits_decimal own n wide) (decimal_nonempty n wide) (rw value small)) (ap Some value)

pub limit_of-decimal : (n : ℕ) → 1 ≤ n → n ≤ 100 → limit_of (decimal n) ≡ Some n
limit_of-decimal n low high =
    let some : (n == 0) ≡ false = ne_eqb n 0 (λ e. omega arith) in
    let least : min n 100 ≡ n = omega arith in
    ap (option_and_then limit_from) (number_of-decimal n (omega arith)) ∙ rw some (ap Some least)

limit_in_range : (n : Option ℕ) → (1 ≤ unwrap_or (option_and_then limit_from n) 10) × (unwrap_or (option_and_then limit_from n) 10 ≤ 100)
limit_in_range None = (omega arith, omega arith)
limit_in_range (Some n) = elim (cases_Bool (n == 0)) [
  | inl none ↦ rw none (omega arith, omega arith)
  | inr some ↦
      let other : ¬ (n ≡ 0) = eqb-false n 0 some in
      rw some (omega arith, omega arith)
]

-- a limit in force is from 1 to 100
pub limit_range : (value : Option (List ℕ)) → (1 ≤ unwrap_or (option_and_then limit_of value) 10) × (unwrap_or (option_and_then limit_of value) 10 ≤ 100)
limit_range None = (omega arith, omega arith)
limit_range (Some text) = limit_in_range (number_of text)
