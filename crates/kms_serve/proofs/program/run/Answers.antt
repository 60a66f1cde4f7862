use Rattle.std.proofs.Common.{ℕ, List, sym, ap, ◌∙◌}
use Rattle.std.specs.Prelude.{Option}
use Rattle.std.specs.Option.{option_or}
use Rattle.kms_serve.specs.Words.{pipe_of, store_of, texts}
use Rattle.kms_serve.proofs.ServeLaws.{no_words_init, answers_pipe}
use Rattle.kms_serve.proofs.program.run.Goals as goal

pub returns-in-Some-clause-answers : goal.returns-in-Some-clause-answers
returns-in-Some-clause-answers g c =
    rw (← c.in-Some.ensures) (no_words_init c.init_store.result c.init_store.ensures.ends, c.init_store.ensures.made)

pub returns-in-Some-Some-Some-clause-answers : goal.returns-in-Some-Some-Some-clause-answers
returns-in-Some-Some-Some-clause-answers g c =
    answers_pipe _ (texts c.args.words.now) c.in-Some-Some-Some.store.now c.in-Some-Some-Some.key_file.now c.in-Some-Some-Some.endpoint.now c.serve_store.result c.in-None.ensures
    c.in-Some-Some-Some.ensures c.in-Some-Some-Some.ensures' c.in-Some-Some-Some.ensures'' c.serve_store.ensures.ends c.serve_store.ensures.carries

pub init_store-requires : goal.init_store-requires
init_store-requires g c = c.requires.store c.in-Some.store.now (ap (λ (o : Option (List ℕ)). option_or o (store_of (pipe_of (texts c.args.words.now)))) (sym c.in-Some.ensures))

pub serve_store-requires-clause-store : goal.serve_store-requires-clause-store
serve_store-requires-clause-store g c =
    c.requires.store c.in-Some-Some-Some.store.now (ap (λ (o : Option (List ℕ)). option_or o (store_of (pipe_of (texts c.args.words.now)))) (sym c.in-None.ensures) ∙ sym c.in-Some-Some-Some.ensures)
