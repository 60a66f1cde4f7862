use Rattle.std.proofs.Common.{◌≡◌, None, rules, arith}
use Rattle.std.proofs.lemmas.Grind.{common_steps}
use Rattle.kms_text.specs.Link.{read_ref_of}
use Rattle.kms_text.proofs.LinkLemmas.{link_cases}
use Rattle.kms_text.proofs.link.read_ref.Goals as goal

pub returns-then-ends_with-clause-grammar : goal.returns-then-ends_with-clause-grammar
unfolding read_ref_of
returns-then-ends_with-clause-grammar c =
    let value : c.read_id.result ≡ read_ref_of c.args.kind c.args.text.now = first_of (search rules, grind (arith, common_steps)) in
    link_cases c.args.kind c.args.text.now c.read_id.result value

pub returns-else-ends_with-clause-grammar : goal.returns-else-ends_with-clause-grammar
unfolding read_ref_of
returns-else-ends_with-clause-grammar c =
    let value : None ≡ read_ref_of c.args.kind c.args.text.now = first_of (search rules, grind (arith, common_steps)) in
    link_cases c.args.kind c.args.text.now None value
