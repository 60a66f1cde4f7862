-- Where each part of a printed head ends.
use Rattle.std.proofs.Common.{◌≡◌, ℕ, zero, suc, ◌<◌, Bool, true, false, List, [], ◌∷◌, ◌++◌, length, drop, refl, ap, ◌∙◌, arith, append_assoc, length-append}
use Rattle.std.specs.Prelude.{All, IsTrue}
use Rattle.std.specs.List.{flat_map}
use Rattle.std.proofs.lemmas.List.Elements.{All-head, All-tail, All-cons, All-nil}
use Rattle.httparse.specs.Grammar.{LineEnd, crlf, lf, print_end, print_blank, Field, IsField, print_field, print_section, AllPass, is_token_byte, is_value_byte}
use Rattle.httparse.specs.Pieces.{Stops, is_newline}
use Rattle.httparse.proofs.PieceLemmas.{colon_ends_token, Stops_value, Stops_token, print_field-append}
use Rattle.kms_http.specs.Heads.{run, after_run, ends_in, end_at, after_end, value_at, field_at, after_field, is_last, fields_at, last_at}

-- bytes that pass, and one that stops them
pub run-stops : (test : ℕ → Bool) (w r : List ℕ) → AllPass test w → Stops test r → (run test (w ++ r) ≡ w) × (after_run test (w ++ r) ≡ r)
run-stops test [] [] all s = absurd s
run-stops test [] (x ∷ r) all s = (rw s refl, rw s refl)
run-stops test (x ∷ w) r all s =
    let passes : test x ≡ true = All-head (λ b. IsTrue (test b)) x w all in
    let rest = run-stops test w r (All-tail (λ b. IsTrue (test b)) x w all) s in
    (rw (passes, rest.0) refl, rw (passes, rest.1) refl)

pub blank-ends : (es : List LineEnd) → ends_in (print_blank es) ≡ es
blank-ends [] = refl
blank-ends (crlf ∷ es) = rw (blank-ends es) refl
blank-ends (lf ∷ es) = rw (blank-ends es) refl

pub blank-newlines : (es : List LineEnd) → AllPass is_newline (print_blank es)
blank-newlines [] = All-nil (λ b. IsTrue (is_newline b))
blank-newlines (crlf ∷ es) =
    All-cons (λ b. IsTrue (is_newline b)) 13 (10 ∷ print_blank es) refl (All-cons (λ b. IsTrue (is_newline b)) 10 (print_blank es) refl (blank-newlines es))
blank-newlines (lf ∷ es) = All-cons (λ b. IsTrue (is_newline b)) 10 (print_blank es) refl (blank-newlines es)

pub end-at : (e : LineEnd) (r : List ℕ) → (end_at (print_end e ++ r) ≡ e) × (after_end (print_end e ++ r) ≡ r)
end-at crlf r = (refl, refl)
end-at lf r = (refl, refl)

-- a field line
pub field-first : (f : Field) (r : List ℕ) → IsField f → (field_at (print_field f ++ r) ≡ f) × (after_field (print_field f ++ r) ≡ r)
field-first f r valid =
    let value = f.raw ++ (print_end f.end ++ r) in
    let name = run-stops is_token_byte f.name (58 ∷ value) valid.name.1 colon_ends_token in
    let raw = run-stops is_value_byte f.raw (print_end f.end ++ r) valid.raw (Stops_value f.end r) in
    let end = end-at f.end r in
    let text : print_field f ++ r ≡ f.name ++ 58 ∷ value = print_field-append f r in
    let name_is : run is_token_byte (print_field f ++ r) ≡ f.name = ap (run is_token_byte) text ∙ name.0 in
    let value_is : value_at (print_field f ++ r) ≡ value = ap (λ t. drop 1 (after_run is_token_byte t)) text ∙ ap (drop 1) name.1 in
    let raw_is : run is_value_byte (value_at (print_field f ++ r)) ≡ f.raw = ap (run is_value_byte) value_is ∙ raw.0 in
    let rest_is : after_run is_value_byte (value_at (print_field f ++ r)) ≡ print_end f.end ++ r = ap (after_run is_value_byte) value_is ∙ raw.1 in
    let end_is : end_at (after_run is_value_byte (value_at (print_field f ++ r))) ≡ f.end = ap end_at rest_is ∙ end.0 in
    (λ i. record { name = name_is i; raw = raw_is i; end = end_is i }, ap after_end rest_is ∙ end.1)

stopped-last : (t : List ℕ) → Stops is_newline t → is_last t ≡ false
stopped-last [] s = absurd s
stopped-last (b ∷ t) s = s

field-not-last : (f : Field) (r : List ℕ) → IsField f → is_last (print_field f ++ r) ≡ false
field-not-last f r valid =
    ap is_last (print_field-append f r) ∙ stopped-last (f.name ++ 58 ∷ (f.raw ++ (print_end f.end ++ r))) (Stops_token f.name (58 ∷ (f.raw ++ (print_end f.end ++ r))) valid.name.0 valid.name.1)

section-cons : (f : Field) (fs : List Field) (last : LineEnd) → print_section (f ∷ fs) last ≡ print_field f ++ print_section fs last
section-cons f fs last = append_assoc (print_field f) (flat_map print_field fs) (print_end last)

pub section-length : (fs : List Field) (last : LineEnd) → length fs < length (print_section fs last)
section-length [] crlf = omega arith
section-length [] lf = omega arith
section-length (f ∷ fs) last =
    let rest = print_section fs last in
    omega (
      arith,
      ap length (section-cons f fs last ∙ print_field-append f rest),
      length-append f.name (58 ∷ (f.raw ++ (print_end f.end ++ rest))),
      length-append f.raw (print_end f.end ++ rest),
      length-append (print_end f.end) rest,
      section-length fs last,
    )

pub section-read : (most : ℕ) (fs : List Field) (last : LineEnd) → All IsField fs → length fs < most
    → (fields_at most (print_section fs last) ≡ fs) × (last_at most (print_section fs last) ≡ last)
unfolding fields_at last_at
section-read zero fs last all few = absurd (omega arith)
section-read (suc most) [] crlf all few = (refl, refl)
section-read (suc most) [] lf all few = (refl, refl)
section-read (suc most) (f ∷ fs) last all few =
    let valid = All-head IsField f fs all in
    let first = field-first f (print_section fs last) valid in
    let rest = section-read most fs last (All-tail IsField f fs all) (omega arith) in
    let text = section-cons f fs last in
    let here = field-not-last f (print_section fs last) valid in
    (rw (text, here, first.0, first.1, rest.0) refl, rw (text, here, first.1, rest.1) refl)
