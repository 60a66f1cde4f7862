use Rattle.std.proofs.Common.{◌≡◌, map, ap, ◌∙◌, codes, []}
use Rattle.std.specs.Prelude.{unwrap_or, string_bytes}
use Rattle.std.proofs.lemmas.Result.{IfOk-weaker}
use Rattle.clap.specs.Words.{first_of}
use Rattle.kms_words.specs.Clap.{init_rows}
use Rattle.kms_words.proofs.ClapLaws.{init_read}
use Rattle.kms_words.proofs.by_clap.clap_reads_init.Goals as goal

pub returns : goal.returns
returns c =
    let words = ap (map string_bytes) c.deref.ensures.value ∙ c.in_ok-words.ensures in
    IfOk-weaker c.init_matched.result (λ text. string_bytes text ≡ unwrap_or (first_of (codes "store") (init_rows (map string_bytes c.deref.result.now))) [])
    (λ text. string_bytes text ≡ c.args.store.now)
    (λ text e. e ∙ ap (λ ws. unwrap_or (first_of (codes "store") (init_rows ws)) []) words ∙ ap (λ o. unwrap_or o []) (init_read c.args.store.now))
    c.init_matched.ensures
