use Rattle.std.proofs.Common.{◌≡◌, map, ◌∙◌}
use Rattle.std.specs.Prelude.{string_bytes}
use Rattle.std.proofs.lemmas.Result.{IfOk-weaker}
use Rattle.clap.specs.Words.{found_of, app_of}
use Rattle.kms_words.specs.Clap.{pipe_rows, pipe_texts, found_texts, row_texts}
use Rattle.kms_words.proofs.ClapLaws.{pipe_found}
use Rattle.kms_words.proofs.by_clap.pipe_matched.Goals as goal

pub returns-in-Ok : goal.returns-in-Ok
returns-in-Ok c =
    let same = pipe_found (app_of c.in_ok-command.command) (map string_bytes c.args.words.now) c.in-Ok.matches c.in_ok-command.ensures c.in-Ok.ensures.matches in
    IfOk-weaker c.read_matches.result (λ pipe. pipe_texts pipe ≡ found_texts (found_of c.in-Ok.matches)) (λ pipe. pipe_texts pipe ≡ row_texts (pipe_rows (map string_bytes c.args.words.now)))
    (λ pipe e. e ∙ same)
    c.read_matches.ensures
