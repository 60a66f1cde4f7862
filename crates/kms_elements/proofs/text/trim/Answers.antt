use Rattle.std.proofs.Common.{reverse, sym, ap, ◌∙◌}
use Rattle.std.proofs.lemmas.List.{reverse-reverse}
use Rattle.httparse.specs.Grammar.{skip_ows, trim_ows}
use Rattle.kms_elements.proofs.text.trim.Goals as goal

pub returns : goal.returns
unfolding trim_ows
returns c =
    sym (reverse-reverse c.trim_end.result.now) ∙ ap reverse (c.trim_end.ensures ∙ ap (λ t. skip_ows (reverse t)) c.trim_start.ensures)
