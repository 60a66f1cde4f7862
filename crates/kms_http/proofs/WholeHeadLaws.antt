-- The reading of a head is httparse's grammar.
use Rattle.std.proofs.Common.{◌≡◌, ℕ, ◌+◌, ◌-◌, ◌<◌, Bool, true, false, ◌&&◌, nat_lt, nat_le, List, [], ◌∷◌, ◌++◌, length, drop, get_or, Option, Some, None, cond, refl, sym, ap, ◌∙◌, arith, append-nil}
use Rattle.std.specs.Prelude.{All, IsTrue}
use Rattle.std.specs.List.{list_all}
use Rattle.std.specs.Str.{is_utf8, bytes_eq}
use Rattle.std.proofs.lemmas.Str.{IsUtf8-from_is_utf8, is_utf8-from_IsUtf8}
use Rattle.std.proofs.lemmas.Slice.Eq.{bytes_eq-Decides}
use Rattle.std.proofs.lemmas.Bool.Decides.{nat_tests, Decides-ltb}
use Rattle.std.proofs.lemmas.List.Elements.{All-head, All-tail, All-cons, All-nil}
use Rattle.httparse.specs.Grammar.{print_end, print_blank, print_version, Field, IsField, print_section, AllPass, IsToken, is_token, is_token_byte, is_uri_byte, is_value_byte, RequestHead, IsRequestHead, print_request, ReadsRequest}
use Rattle.httparse.specs.Pieces.{is_newline}
use Rattle.httparse.proofs.PieceLemmas.{space_ends_token, Stops_token}
use Rattle.httparse.proofs.GrammarLemmas.{print_request-append}
use Rattle.kms_http.specs.Heads.{run, after_run, ends_in, end_at, after_end, fields_at, last_at, at_method, at_target, at_version, at_fields, parts_of, is_field, is_head, if_head, whole_head}
use Rattle.kms_http.proofs.StepLaws.{both}
use Rattle.kms_http.proofs.PastLaws.{some_same}
use Rattle.kms_http.proofs.RunLaws.{run-stops, blank-ends, blank-newlines, end-at, section-length, section-read}

-- the parts of a valid head that was printed
pub parts-read : (h : RequestHead) → IsRequestHead h → (bytes : List ℕ) → bytes ≡ print_request h ++ [] → parts_of bytes ≡ h
unfolding parts_of
parts-read h valid bytes text =
    let section = print_section h.fields h.last in
    let lined = print_end h.line_end ++ section in
    let versioned = print_version h.minor ++ lined in
    let targeted = h.target ++ 32 ∷ versioned in
    let headed = h.method ++ 32 ∷ targeted in
    let whole : bytes ≡ print_blank h.blank ++ headed =
    text ∙ print_request-append h []
    ∙ ap (λ s. print_blank h.blank ++ (h.method ++ 32 ∷ (h.target ++ 32 ∷ (print_version h.minor ++ (print_end h.line_end ++ s))))) (append-nil section) in
    let blank = run-stops is_newline (print_blank h.blank) headed (blank-newlines h.blank) (Stops_token h.method (32 ∷ targeted) valid.method.0 valid.method.1) in
    let method = run-stops is_token_byte h.method (32 ∷ targeted) valid.method.1 space_ends_token in
    let target = run-stops is_uri_byte h.target (32 ∷ versioned) valid.target.1 refl in
    let end = end-at h.line_end section in
    let m : at_method bytes ≡ headed = ap (after_run is_newline) whole ∙ blank.1 in
    let t : at_target bytes ≡ targeted = ap (λ s. drop 1 (after_run is_token_byte s)) m ∙ ap (drop 1) method.1 in
    let v : at_version bytes ≡ versioned = ap (λ s. drop 1 (after_run is_uri_byte s)) t ∙ ap (drop 1) target.1 in
    let f : at_fields bytes ≡ section = ap (λ s. after_end (drop 8 s)) v ∙ end.1 in
    let fields = section-read (length section) h.fields h.last valid.fields (section-length h.fields h.last) in
    let blank_is : ends_in (run is_newline bytes) ≡ h.blank = ap ends_in (ap (run is_newline) whole ∙ blank.0) ∙ blank-ends h.blank in
    let method_is : run is_token_byte (at_method bytes) ≡ h.method = ap (run is_token_byte) m ∙ method.0 in
    let target_is : run is_uri_byte (at_target bytes) ≡ h.target = ap (run is_uri_byte) t ∙ target.0 in
    let digit : 48 + h.minor - 48 ≡ h.minor = omega arith in
    let minor_is : get_or (at_version bytes) 7 0 - 48 ≡ h.minor = ap (λ s. get_or s 7 0 - 48) v ∙ digit in
    let end_is : end_at (drop 8 (at_version bytes)) ≡ h.line_end = ap (λ s. end_at (drop 8 s)) v ∙ end.0 in
    let fields_is : fields_at (length (at_fields bytes)) (at_fields bytes) ≡ h.fields = ap (λ s. fields_at (length s) s) f ∙ fields.0 in
    let last_is : last_at (length (at_fields bytes)) (at_fields bytes) ≡ h.last = ap (λ s. last_at (length s) s) f ∙ fields.1 in
    λ i. record {
      blank = blank_is i;
      method = method_is i;
      target = target_is i;
      minor = minor_is i;
      line_end = end_is i;
      fields = fields_is i;
      last = last_is i;
    }

of-both : (a b : Bool) → a ≡ true → b ≡ true → (a && b) ≡ true
of-both a b p q = rw (p, q) refl

passing : (test : ℕ → Bool) (xs : List ℕ) → list_all test xs ≡ true → AllPass test xs
passing test [] e = All-nil (λ b. IsTrue (test b))
passing test (x ∷ xs) e =
    let parts = both (test x) (list_all test xs) e in
    All-cons (λ b. IsTrue (test b)) x xs parts.0 (passing test xs parts.1)

passed : (test : ℕ → Bool) (xs : List ℕ) → AllPass test xs → list_all test xs ≡ true
passed test [] all = refl
passed test (x ∷ xs) all =
    of-both (test x) (list_all test xs) (All-head (λ b. IsTrue (test b)) x xs all) (passed test xs (All-tail (λ b. IsTrue (test b)) x xs all))

some : (xs : List ℕ) → nat_lt 0 (length xs) ≡ true → 0 < length xs
some xs e = (Decides-ltb 0 (length xs)).0 e

is_some_of : (xs : List ℕ) → 0 < length xs → nat_lt 0 (length xs) ≡ true
is_some_of xs l = (Decides-ltb 0 (length xs)).1 l

token-sound : (xs : List ℕ) → is_token xs ≡ true → IsToken xs
token-sound xs e =
    let parts = both (nat_lt 0 (length xs)) (list_all is_token_byte xs) e in
    (some xs parts.0, passing is_token_byte xs parts.1)

token-complete : (xs : List ℕ) → IsToken xs → is_token xs ≡ true
token-complete xs t = of-both (nat_lt 0 (length xs)) (list_all is_token_byte xs) (is_some_of xs t.0) (passed is_token_byte xs t.1)

fields-sound : (fs : List Field) → list_all is_field fs ≡ true → All IsField fs
fields-sound [] e = All-nil IsField
fields-sound (f ∷ fs) e =
    let parts = both (is_field f) (list_all is_field fs) e in
    let own = both (is_token f.name) (list_all is_value_byte f.raw) parts.0 in
    All-cons IsField f fs (record { name = token-sound f.name own.0; raw = passing is_value_byte f.raw own.1 }) (fields-sound fs parts.1)

fields-complete : (fs : List Field) → All IsField fs → list_all is_field fs ≡ true
fields-complete [] all = refl
fields-complete (f ∷ fs) all =
    let valid = All-head IsField f fs all in
    of-both (is_field f) (list_all is_field fs)
    (of-both (is_token f.name) (list_all is_value_byte f.raw) (token-complete f.name valid.name) (passed is_value_byte f.raw valid.raw))
    (fields-complete fs (All-tail IsField f fs all))

head-sound : (h : RequestHead) → is_head h ≡ true → IsRequestHead h
unfolding is_head
head-sound h e =
    let minor_ok = nat_le h.minor 1 in
    let fields_ok = list_all is_field h.fields in
    let target_ok = nat_lt 0 (length h.target) && list_all is_uri_byte h.target in
    let a = both (is_token h.method) (target_ok && (is_utf8 h.target && (minor_ok && fields_ok))) e in
    let b = both target_ok (is_utf8 h.target && (minor_ok && fields_ok)) a.1 in
    let c = both (is_utf8 h.target) (minor_ok && fields_ok) b.1 in
    let d = both minor_ok fields_ok c.1 in
    let t = both (nat_lt 0 (length h.target)) (list_all is_uri_byte h.target) b.0 in
    record {
      method = token-sound h.method a.0;
      target = (some h.target t.0, passing is_uri_byte h.target t.1);
      target_text = IsUtf8-from_is_utf8 h.target c.0;
      minor = grind (arith, nat_tests, d.0);
      fields = fields-sound h.fields d.1;
    }

head-complete : (h : RequestHead) → IsRequestHead h → is_head h ≡ true
unfolding is_head
head-complete h valid =
    let minor_ok : nat_le h.minor 1 ≡ true = grind (arith, nat_tests, valid.minor) in
    rw (
      token-complete h.method valid.method,
      is_some_of h.target valid.target.0,
      passed is_uri_byte h.target valid.target.1,
      is_utf8-from_IsUtf8 h.target valid.target_text,
      minor_ok,
      fields-complete h.fields valid.fields,
    ) refl

checked : (p h : RequestHead) (bytes : List ℕ) → if_head p bytes ≡ Some h → ReadsRequest bytes h []
checked p h bytes e = step (is_head p && bytes_eq (print_request p) bytes) refl e
  where
    step : (b : Bool) → (is_head p && bytes_eq (print_request p) bytes) ≡ b → cond b (Some p) None ≡ Some h → ReadsRequest bytes h []
    step false test k = absurd (cc)
    step true test k =
        let same : p ≡ h = some_same p h k in
        let parts = both (is_head p) (bytes_eq (print_request p) bytes) test in
        let text : print_request p ≡ bytes = (bytes_eq-Decides (print_request p) bytes).0 parts.1 in
        (head-sound h (ap is_head (sym same) ∙ parts.0), sym text ∙ ap print_request same ∙ sym (append-nil (print_request h)))

pub head-is-read : (bytes : List ℕ) (h : RequestHead) → whole_head bytes ≡ Some h → ReadsRequest bytes h []
unfolding whole_head
head-is-read bytes h e = checked (parts_of bytes) h bytes e

pub read-is-head : (bytes : List ℕ) (h : RequestHead) → ReadsRequest bytes h [] → whole_head bytes ≡ Some h
unfolding whole_head
read-is-head bytes h reads =
    let same = parts-read h reads.0 bytes reads.1 in
    let text : print_request h ≡ bytes = sym (append-nil (print_request h)) ∙ sym reads.1 in
    let test : (is_head h && bytes_eq (print_request h) bytes) ≡ true =
    of-both (is_head h) (bytes_eq (print_request h) bytes) (head-complete h reads.0) ((bytes_eq-Decides (print_request h) bytes).1 text) in
    ap (λ p. if_head p bytes) same ∙ ap (λ b. cond b (Some h) None) test

-- where no head is read, the bytes are none
pub no-head : (bytes : List ℕ) → ((h : RequestHead) → ReadsRequest bytes h [] → ⊥) → whole_head bytes ≡ None
no-head bytes never = step (whole_head bytes) refl
  where
    step : (o : Option RequestHead) → whole_head bytes ≡ o → whole_head bytes ≡ None
    step None e = e
    step (Some h) e = absurd (never h (head-is-read bytes h e))
