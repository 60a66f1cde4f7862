use Rattle.std.proofs.Common.{Some, None, sym, ap, ◌∙◌, arith}
use Rattle.std.proofs.lemmas.Str.Pattern.{strip_suffix_char}
use Rattle.kms_http.specs.Targets.{drop_slash}
use Rattle.kms_http.proofs.TargetLaws.{slash-dropped, slash-kept}
use Rattle.kms_http.proofs.target.without_slash.Goals as goal

pub returns-in-Some : goal.returns-in-Some
returns-in-Some c =
    let text = strip_suffix_char 47 c.args.path.now (Some c.in-Some.front) c.in-Some.ensures.cases (omega arith) in
    sym (ap drop_slash text ∙ slash-dropped c.in-Some.front.now)

pub returns-in-None : goal.returns-in-None
returns-in-None c =
    sym (slash-kept c.args.path.now (strip_suffix_char 47 c.args.path.now None c.in-None.ensures.cases (omega arith)))
