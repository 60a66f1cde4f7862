use Rattle.std.proofs.Common.{◌≡◌, true, ◌∙◌, rules}
use Rattle.std.specs.Char.{is_ascii_digit}
use Rattle.std.specs.List.{list_all}
use Rattle.std.proofs.lemmas.Str.Parse.{parse_digits}
use Rattle.kms_page.proofs.NumberLaws.{own, number_parsed}
use Rattle.kms_page.proofs.number.number_of.Goals as goal

pub returns : goal.returns
returns c =
    let digits : list_all is_ascii_digit c.args.text.now ≡ true = search rules in
    c.ok.ensures.value
    ∙ number_parsed c.args.text.now c.parse.result digits
    (parse_digits own 32 c.args.text.now c.parse.result c.parse.ensures.value.0 digits)
