-- A head has a line feed for each field, one for its first line and one for its last.
use Rattle.std.proofs.Common.{◌≡◌, ℕ, ◌+◌, ◌≤◌, List, [], ◌∷◌, ◌++◌, length, ◌==◌, cond, arith}
use Rattle.std.proofs.lemmas.List.Sums.{sum_by-append}
use Rattle.std.specs.List.{flat_map}
use Rattle.httparse.specs.Grammar.{LineEnd, crlf, lf, print_end, print_blank, print_version, Field, print_field, print_section, RequestHead, print_request}
use Rattle.kms_http.specs.Messages.{line_feeds}

feeds-append : (a b : List ℕ) → line_feeds (a ++ b) ≡ line_feeds a + line_feeds b
feeds-append a b = sum_by-append (λ x. cond (x == 10) 1 0) a b

feeds-end : (e : LineEnd) → 1 ≤ line_feeds (print_end e)
feeds-end crlf = omega arith
feeds-end lf = omega arith

feeds-field : (f : Field) → 1 ≤ line_feeds (print_field f)
feeds-field f =
    omega (arith, feeds-append (f.name ++ 58 ∷ f.raw) (print_end f.end), feeds-end f.end)

feeds-fields : (fs : List Field) → length fs ≤ line_feeds (flat_map print_field fs)
feeds-fields [] = omega arith
feeds-fields (f ∷ fs) =
    omega (arith, feeds-append (print_field f) (flat_map print_field fs), feeds-field f, feeds-fields fs)

feeds-section : (fs : List Field) (last : LineEnd) → length fs + 1 ≤ line_feeds (print_section fs last)
feeds-section fs last =
    omega (arith, feeds-append (flat_map print_field fs) (print_end last), feeds-fields fs, feeds-end last)

pub feeds-request : (h : RequestHead) → length h.fields + 2 ≤ line_feeds (print_request h)
unfolding print_request
feeds-request h =
    let section = print_section h.fields h.last in
    let version = print_version h.minor in
    omega (
      arith,
      feeds-section h.fields h.last,
      feeds-append (((print_blank h.blank ++ h.method) ++ (32 ∷ h.target)) ++ (32 ∷ version) ++ print_end h.line_end) section,
      feeds-append (((print_blank h.blank ++ h.method) ++ (32 ∷ h.target)) ++ (32 ∷ version)) (print_end h.line_end),
      feeds-end h.line_end,
    )
