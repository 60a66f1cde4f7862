use Rattle.std.proofs.Common.{◌≡◌, [], get_or, true, false, ◌||◌, sym, ap, ◌∙◌, arith}
use Rattle.std.proofs.lemmas.List.Folds.{list_any_at, list_any_more}
use Rattle.kms_http.specs.Fields.{Pair}
use Rattle.kms_http.specs.Framing.{is_closing}
use Rattle.kms_http.proofs.close.any_closes.Goals as goal

pub loop-place-preserved : goal.loop-place-preserved
loop-place-preserved c =
    let d : Pair = ([], []) in
    let i = c.loop-place.place in
    let test : is_closing (get_or c.args.fields.now i d) ≡ false = ap is_closing (c.at.ensures d) ∙ sym c.is_closing.ensures ∙ c.if-is_closing.false in
    list_any_more is_closing c.args.fields.now i d (omega arith)
    ∙ ap (λ b. b || is_closing (get_or c.args.fields.now i d)) c.loop-place.invariant ∙ test

pub returns-then-is_closing : goal.returns-then-is_closing
returns-then-is_closing c =
    let d : Pair = ([], []) in
    let i = c.loop-place.place in
    let test : is_closing (get_or c.args.fields.now i d) ≡ true = ap is_closing (c.at.ensures d) ∙ sym c.is_closing.ensures ∙ c.if-is_closing.true in
    sym (list_any_at is_closing c.args.fields.now i d (omega arith) test)
