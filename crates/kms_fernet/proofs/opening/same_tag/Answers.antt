use Rattle.std.proofs.Common.{arith, sym, ◌∙◌}
use Rattle.std.proofs.lemmas.List.{take_all}
use Rattle.std.proofs.lemmas.Bool.{eqb-true, eq-eqb}
use Rattle.kms_fernet.proofs.PaddingLaws.{same_more, zero_more}
use Rattle.kms_fernet.proofs.opening.same_tag.Goals as goal

pub loop-i-preserved : goal.loop-i-preserved
loop-i-preserved c = record {
  same = same_more c.args.tag.now c.args.other.now c.loop-i.i c.loop-i.difference (omega arith) (omega arith) c.loop-i.invariant.same;
  none = zero_more c.args.tag.now c.args.other.now c.loop-i.i c.loop-i.difference (omega arith) (omega arith) c.loop-i.invariant.none;
}

pub returns : goal.returns
returns c =
    let size = c.requires in
    let tag = take_all c.loop-i.i c.args.tag.now (omega arith) in
    let other = take_all c.loop-i.i c.args.other.now (omega arith) in (
      λ t. sym tag ∙ c.loop-i.invariant.same (eqb-true c.loop-i.difference 0 t) ∙ other,
      λ e. eq-eqb c.loop-i.difference 0 (c.loop-i.invariant.none (tag ∙ e ∙ sym other)),
    )
