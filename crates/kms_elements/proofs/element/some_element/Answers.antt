use Rattle.std.proofs.Common.{◌≡◌, ◌<◌, length, take, true, false, sym, ap, ◌∙◌, arith}
use Rattle.std.specs.List.{list_any}
use Rattle.kms_elements.specs.Elements.{elements}
use Rattle.kms_elements.proofs.ElementLaws.{first_passes, last_fails, others_decide}
use Rattle.kms_elements.proofs.element.some_element.Goals as goal

pub returns-then-passes : goal.returns-then-passes
returns-then-passes g c =
    let admits = g.T.ElementTest.admits c.args.test.now in
    let test : admits (take c.length_before-end.result c.loop-rest.rest.now) ≡ true = ap admits (sym c.split_at.ensures.front) ∙ sym c.passes.ensures ∙ c.if-passes.true in
    sym (c.loop-rest.invariant.value ∙ first_passes admits c.loop-rest.rest.now c.length_before-end.result c.length_before-end.ensures.value c.length_before-end.ensures.bound test)

pub returns-then-end-rest : goal.returns-then-end-rest
returns-then-end-rest g c =
    let admits = g.T.ElementTest.admits c.args.test.now in
    let test : admits (take c.length_before-end.result c.loop-rest.rest.now) ≡ false = ap admits (sym c.split_at.ensures.front) ∙ sym c.passes.ensures ∙ c.if-passes.false in
    sym (c.loop-rest.invariant.value ∙ last_fails admits c.loop-rest.rest.now c.length_before-end.result c.length_before-end.ensures.value c.if-end-rest.true test)

pub loop-rest-preserved : goal.loop-rest-preserved
loop-rest-preserved g c =
    let admits = g.T.ElementTest.admits c.args.test.now in
    let test : admits (take c.length_before-end.result c.loop-rest.rest.now) ≡ false = ap admits (sym c.split_at.ensures.front) ∙ sym c.passes.ensures ∙ c.if-passes.false in
    let below : c.length_before-end.result < length c.loop-rest.rest.now = omega (arith, c.length_before-end.ensures.bound, c.if-end-rest.false) in
    record {
      value = c.loop-rest.invariant.value ∙ others_decide admits c.loop-rest.rest.now c.length_before-end.result c.length_before-end.ensures.value below test ∙ ap (λ t. list_any admits (elements t)) (sym c.split_at-in-loop-rest.ensures.back);
      bound = omega (arith, c.split_at-in-loop-rest.ensures.back_len, c.loop-rest.invariant.bound);
    }
