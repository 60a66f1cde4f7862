use Rattle.std.proofs.Common.{sym, ◌∙◌}
use Rattle.kms_words.specs.Views.{view}
use Rattle.kms_words.proofs.OptionLaws.{rest-joined, rest-unjoined}
use Rattle.kms_words.proofs.options.with_rest.Goals as goal

pub returns-in-Some : goal.returns-in-Some
returns-in-Some c =
    c.put_option.ensures ∙ sym (rest-joined (view c.args.options) c.args.name c.args.rest.now c.in-Some.value.now (sym c.in-Some.ensures))

pub returns-in-None : goal.returns-in-None
returns-in-None c =
    sym (rest-unjoined (view c.args.options) c.args.name c.args.rest.now (sym c.is_empty.ensures ∙ c.if-is_empty.false) (sym c.in-None.ensures))
