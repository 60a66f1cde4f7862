use Rattle.std.proofs.Common.{◌≡◌, map, ap, ◌∙◌}
use Rattle.std.specs.Prelude.{string_bytes}
use Rattle.std.proofs.lemmas.Result.{IfOk-weaker}
use Rattle.kms_words.specs.Clap.{pipe_rows, pipe_texts, row_texts}
use Rattle.kms_words.proofs.ClapLaws.{pipe_read}
use Rattle.kms_words.proofs.by_clap.clap_reads_pipe.Goals as goal

pub returns : goal.returns
returns c =
    let words = ap (map string_bytes) c.deref.ensures.value ∙ c.in_ok-words.ensures in
    IfOk-weaker c.pipe_matched.result (λ pipe. pipe_texts pipe ≡ row_texts (pipe_rows (map string_bytes c.deref.result.now)))
    (λ pipe. pipe_texts pipe ≡ record { store = c.args.store.now; keys = c.args.keys.now; endpoint = c.args.endpoint.now })
    (λ pipe e. e ∙ ap (λ ws. row_texts (pipe_rows ws)) words ∙ pipe_read c.args.store.now c.args.keys.now c.args.endpoint.now)
    c.pipe_matched.ensures
