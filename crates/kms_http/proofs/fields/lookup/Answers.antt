use Rattle.std.proofs.Common.{◌≡◌, ◌+◌, length, [], ◌∷◌, ◌++◌, get_or, true, false, sym, ap, ◌∙◌, arith, take, length-append}
use Rattle.std.specs.Str.{str_eq_ignore_ascii_case}
use Rattle.kms_http.specs.Fields.{Pair, values_of}
use Rattle.kms_http.proofs.FieldLaws.{listed, unfound, found-length, more-no, more-yes, at-least}
use Rattle.kms_http.proofs.fields.lookup.Goals as goal

pub loop-place-preserved-then-not-is_same_name : goal.loop-place-preserved-then-not-is_same_name
loop-place-preserved-then-not-is_same_name c =
    let i = c.loop-place.place in
    let d : Pair = ([], []) in
    let here = c.at.ensures d in
    let differs : str_eq_ignore_ascii_case (get_or c.args.fields.now i d).0 c.args.name.now ≡ false =
    ap (λ (p : Pair). str_eq_ignore_ascii_case p.0 c.args.name.now) here ∙ sym c.is_same_name.ensures ∙ c.if-not-is_same_name.true in
    more-no c.args.name.now c.args.fields.now i d (omega arith) differs ∙ c.loop-place.invariant

pub loop-place-preserved : goal.loop-place-preserved
loop-place-preserved c =
    let i = c.loop-place.place in
    let d : Pair = ([], []) in
    let here = c.at.ensures d in
    let same : str_eq_ignore_ascii_case (get_or c.args.fields.now i d).0 c.args.name.now ≡ true =
    ap (λ (p : Pair). str_eq_ignore_ascii_case p.0 c.args.name.now) here ∙ sym c.is_same_name.ensures ∙ c.if-not-is_same_name.false in
    let none : listed c.loop-place.found ≡ [] = unfound c.loop-place.found (sym c.is_some.ensures ∙ c.if-is_some.false) in
    more-yes c.args.name.now c.args.fields.now i d (omega arith) same
    ∙ ap (λ t. t ++ (get_or c.args.fields.now i d).1 ∷ []) (c.loop-place.invariant ∙ none)
    ∙ ap (λ (p : Pair). p.1 ∷ []) here

pub returns-then-is_some : goal.returns-then-is_some
returns-then-is_some c =
    let i = c.loop-place.place in
    let d : Pair = ([], []) in
    let here = c.at.ensures d in
    let same : str_eq_ignore_ascii_case (get_or c.args.fields.now i d).0 c.args.name.now ≡ true =
    ap (λ (p : Pair). str_eq_ignore_ascii_case p.0 c.args.name.now) here ∙ sym c.is_same_name.ensures ∙ c.if-not-is_same_name.false in
    let one : length (listed c.loop-place.found) ≡ 1 = found-length c.loop-place.found (sym c.is_some.ensures ∙ c.if-is_some.true) in
    let two = more-yes c.args.name.now c.args.fields.now i d (omega arith) same in
    omega (
      arith,
      ap length two,
      length-append (values_of c.args.name.now (take i c.args.fields.now)) ((get_or c.args.fields.now i d).1 ∷ []),
      ap length c.loop-place.invariant,
      one,
      at-least c.args.name.now c.args.fields.now (i + 1),
    )
