-- The words of each command in one form, as `clap` reads them.
use Rattle.std.specs.Prelude.{List, [], ◌∷◌, ◌++◌, true, Some, Option, unwrap_or, codes, string_bytes}
use Rattle.clap.specs.declared.parser.matches.Found.{Found}
use Rattle.clap.specs.Words.{App, Rule, Row, first_of, first_value, matches_of, new_app, new_rule, with_rule}
use Rattle.kms_words.specs.Options.{Text}
use Rattle.kms_words.specs.Commands.{Pipe}
use Rattle.kms_words.specs.declared.by_clap.Pipe as code

-- `--name value`, wanted
abbrev pub wanted : Text → Rule
wanted name = record (new_rule name) { long = Some name; required = true }

abbrev pub init_app : App
init_app = with_rule (new_app (codes "init")) (wanted (codes "store"))

abbrev pub pipe_app : App
pipe_app = with_rule (with_rule (with_rule (new_app (codes "pipe")) (wanted (codes "store"))) (wanted (codes "keys"))) (wanted (codes "endpoint"))

abbrev pub init_words : Text → List Text
init_words s = codes "init" ∷ (codes "--store=" ++ s) ∷ []

abbrev pub pipe_words : (s k e : Text) → List Text
pipe_words s k e = codes "pipe" ∷ (codes "--store=" ++ s) ∷ (codes "--keys=" ++ k) ∷ (codes "--endpoint=" ++ e) ∷ []

-- what `clap` finds in words; not opened in goals
unfoldable pub init_rows : List Text → List Row
init_rows words = matches_of init_app words

unfoldable pub pipe_rows : List Text → List Row
pipe_rows words = matches_of pipe_app words

abbrev pub pipe_texts : code.Pipe → Pipe
pipe_texts p = record { store = string_bytes p.store; keys = string_bytes p.keys; endpoint = string_bytes p.endpoint }

-- what a look-up finds for each option
abbrev pub texts_by : (Text → Option Text) → Pipe
texts_by get = record {
  store = unwrap_or (get (codes "store")) [];
  keys = unwrap_or (get (codes "keys")) [];
  endpoint = unwrap_or (get (codes "endpoint")) [];
}

abbrev pub found_texts : Found → Pipe
found_texts found = texts_by (first_value found)

abbrev pub row_texts : List Row → Pipe
row_texts rows = texts_by (λ id. first_of id rows)
