use Rattle.std.proofs.Common.{◌≡◌, map, ap, ◌∙◌, codes, []}
use Rattle.std.specs.Prelude.{unwrap_or, string_bytes}
use Rattle.std.proofs.lemmas.Result.{IfOk-weaker}
use Rattle.clap.specs.Words.{found_of, app_of, first_value, first_of}
use Rattle.kms_words.specs.Clap.{init_rows}
use Rattle.kms_words.proofs.ClapLaws.{init_found}
use Rattle.kms_words.proofs.by_clap.init_matched.Goals as goal

pub returns-in-Ok : goal.returns-in-Ok
returns-in-Ok c =
    let same = init_found (app_of c.in_ok-command.command) (codes "store") (map string_bytes c.args.words.now) c.in-Ok.matches c.in_ok-command.ensures c.in-Ok.ensures.matches in
    IfOk-weaker c.text_of.result (λ text. string_bytes text ≡ unwrap_or (first_value (found_of c.in-Ok.matches) (codes "store")) [])
    (λ text. string_bytes text ≡ unwrap_or (first_of (codes "store") (init_rows (map string_bytes c.args.words.now))) [])
    (λ text e. e ∙ ap (λ o. unwrap_or o []) same)
    c.text_of.ensures
