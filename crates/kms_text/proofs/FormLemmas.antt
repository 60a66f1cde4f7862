-- Forms, place by place.
use Rattle.std.proofs.Common.{◌≡◌, ◌≢◌, ℕ, zero, suc, ◌<◌, List, [], ◌∷◌, length, slice_index, Bool, true, false, ◌&&◌, IsTrue, inl, inr, refl, sym, ap, arith}
use Rattle.std.specs.Bool.{MatchBool}
use Rattle.std.specs.Char.{is_ascii_digit}
use Rattle.std.proofs.lemmas.Bool.{cases_Bool, false≢true}
use Rattle.kms_text.specs.TimeForms.{fits, has_form, local_form}

-- a text of a form has its length
pub form_length : (form text : List ℕ) → has_form form text ≡ true → length text ≡ length form
form_length [] [] h = refl
form_length [] (c ∷ text) h = absurd (false≢true h)
form_length (f ∷ form) [] h = absurd (false≢true h)
form_length (f ∷ form) (c ∷ text) h = let rest : has_form form text ≡ true = grind arith in ap suc (form_length form text rest)

pub form_other_length : (form text : List ℕ) → length text ≢ length form → has_form form text ≡ false
form_other_length form text other =
    elim (cases_Bool (has_form form text)) [
      | inl good ↦ absurd (other (form_length form text good))
      | inr bad ↦ bad
    ]

-- and a digit where the form has a 0
pub form_digit : (form text : List ℕ) (k : ℕ) → has_form form text ≡ true → slice_index form k ≡ 48 → IsTrue (is_ascii_digit (slice_index text k))
form_digit [] [] k h zero_there = absurd (omega arith)
form_digit [] (c ∷ text) k h zero_there = absurd (false≢true h)
form_digit (f ∷ form) [] k h zero_there = absurd (false≢true h)
form_digit (f ∷ form) (c ∷ text) zero h zero_there = grind arith
form_digit (f ∷ form) (c ∷ text) (suc k) h zero_there =
    let rest : has_form form text ≡ true = grind arith in form_digit form text k rest zero_there

-- and the same character where the form has another
pub form_mark : (form text : List ℕ) (k : ℕ) → has_form form text ≡ true → slice_index form k ≢ 48 → k < length form → slice_index text k ≡ slice_index form k
form_mark [] text k h mark there = absurd (omega arith)
form_mark (f ∷ form) [] k h mark there = absurd (false≢true h)
form_mark (f ∷ form) (c ∷ text) zero h mark there = grind arith
form_mark (f ∷ form) (c ∷ text) (suc k) h mark there =
    let rest : has_form form text ≡ true = grind arith in form_mark form text k rest mark (omega arith)

form_all : (form text : List ℕ) → length form ≡ length text
    → ((k : ℕ) → k < length form → fits (slice_index form k) (slice_index text k) ≡ true) → has_form form text ≡ true
form_all [] [] len all = refl
form_all [] (c ∷ text) len all = absurd (omega arith)
form_all (f ∷ form) [] len all = absurd (omega arith)
form_all (f ∷ form) (c ∷ text) len all =
    let here : fits f c ≡ true = all 0 (omega arith) in
    rw here (form_all form text (omega arith) (λ k h. all (suc k) (omega arith)))

-- a test that ends in false
pub and_false : (b : Bool) → (b && false) ≡ false
and_false true = refl
and_false false = refl

form_not : (form text : List ℕ) (k : ℕ) → k < length form → fits (slice_index form k) (slice_index text k) ≡ false → length form ≡ length text
    → has_form form text ≡ false
form_not [] text k lt off len = absurd (omega arith)
form_not (f ∷ form) [] k lt off len = refl
form_not (f ∷ form) (c ∷ text) zero lt off len = rw off refl
form_not (f ∷ form) (c ∷ text) (suc k) lt off len =
    let rest : has_form form text ≡ false = form_not form text k (omega arith) off (omega arith) in
    rw rest (and_false (fits f c))

pub is_form : (b : Bool) (form text : List ℕ) → length form ≡ length text
    → MatchBool b ((k : ℕ) → k < length form → fits (slice_index form k) (slice_index text k) ≡ true)
    ((k : ℕ) × (k < length form) × (fits (slice_index form k) (slice_index text k) ≡ false))
    → b ≡ has_form form text
is_form true form text len all = sym (form_all form text len all)
is_form false form text len (k, lt, off) = sym (form_not form text k lt off len)

-- a date and time of day has 19 characters
pub local_there : (text : List ℕ) (k : ℕ) → has_form local_form text ≡ true → k < 19 → k < length text
local_there text k form small = let long = form_length local_form text form in omega arith

-- and digits where its form has a 0
pub local_digit : (text : List ℕ) (k : ℕ) → has_form local_form text ≡ true → slice_index local_form k ≡ 48 → IsTrue (is_ascii_digit (slice_index text k))
local_digit text k form zero_there = form_digit local_form text k form zero_there
