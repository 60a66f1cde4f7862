-- What `clap` finds in the words in one form.
use Rattle.std.proofs.Common.{◌≡◌, List, true, Some, refl, ap, ◌∙◌, codes, []}
use Rattle.std.specs.Prelude.{unwrap_or}
use Rattle.clap.proofs.OnLiterals.{clap_on_literals}
use Rattle.clap.proofs.WalkLemmas.{first_value-rows}
use Rattle.clap.specs.Words.{App, Text, first_of, first_value, found_of, is_simple, matches_of, HasMatchesOf}
use Rattle.clap.specs.declared.ArgMatches.{ArgMatches}
use Rattle.kms_words.specs.Clap.{init_app, init_rows, init_words, pipe_app, pipe_rows, pipe_words, texts_by, found_texts, row_texts}

-- `get_str` after a parse by a simple command
value_is : (a b : App) (id : Text) (words : List Text) (m : ArgMatches) → a ≡ b → is_simple b ≡ true → HasMatchesOf a words m
    → first_value (found_of m) id ≡ first_of id (matches_of b words)
value_is a b id words m same simple has =
    first_value-rows (found_of m) id ∙ ap (first_of id) ((has (ap is_simple same ∙ simple)).0 ∙ ap (λ x. matches_of x words) same)

is_simple_init : is_simple init_app ≡ true
is_simple_init = refl

is_simple_pipe : is_simple pipe_app ≡ true
is_simple_pipe = refl

pub init_found : (a : App) (id : Text) (words : List Text) (m : ArgMatches) → a ≡ init_app → HasMatchesOf a words m
    → first_value (found_of m) id ≡ first_of id (init_rows words)
unfolding init_rows
init_found a id words m same has = value_is a init_app id words m same is_simple_init has

pipe_value : (a : App) (id : Text) (words : List Text) (m : ArgMatches) → a ≡ pipe_app → HasMatchesOf a words m
    → first_value (found_of m) id ≡ first_of id (pipe_rows words)
unfolding pipe_rows
pipe_value a id words m same has = value_is a pipe_app id words m same is_simple_pipe has

pub pipe_found : (a : App) (words : List Text) (m : ArgMatches) → a ≡ pipe_app → HasMatchesOf a words m → found_texts (found_of m) ≡ row_texts (pipe_rows words)
pipe_found a words m same has = λ i. texts_by (λ id. pipe_value a id words m same has i)

pub init_read : (s : Text) → first_of (codes "store") (init_rows (init_words s)) ≡ Some s
unfolding init_rows clap_on_literals
init_read s = refl

store_read : (s k e : Text) → first_of (codes "store") (pipe_rows (pipe_words s k e)) ≡ Some s
unfolding pipe_rows clap_on_literals
store_read s k e = refl

keys_read : (s k e : Text) → first_of (codes "keys") (pipe_rows (pipe_words s k e)) ≡ Some k
unfolding pipe_rows clap_on_literals
keys_read s k e = refl

endpoint_read : (s k e : Text) → first_of (codes "endpoint") (pipe_rows (pipe_words s k e)) ≡ Some e
unfolding pipe_rows clap_on_literals
endpoint_read s k e = refl

-- all options, as they were written
pub pipe_read : (s k e : Text) → row_texts (pipe_rows (pipe_words s k e)) ≡ record { store = s; keys = k; endpoint = e }
pipe_read s k e = λ i. record {
  store = unwrap_or (store_read s k e i) [];
  keys = unwrap_or (keys_read s k e i) [];
  endpoint = unwrap_or (endpoint_read s k e i) [];
}
