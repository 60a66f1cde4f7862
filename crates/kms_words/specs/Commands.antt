-- The words of each command: the command, and behind it its options, each once and no others.
use Rattle.std.specs.Prelude.{List, [], ◌∷◌, Option, Some, None, if◌then◌else◌, codes}
use Rattle.std.specs.Option.{option_and_then}
use Rattle.std.specs.Str.{bytes_eq}
use Rattle.kms_words.specs.Options.{Text, Options, options_in}

-- the options behind a command
abbrev pub options_of : (command : Text) → List Text → Option Options
options_of command [] = None
options_of command (word ∷ words) = if bytes_eq word command then options_in words else None

-- a store, and nothing else
abbrev pub alone : (store keys endpoint : Option Text) → Option Text
alone store None None = store
alone store (Some keys) endpoint = None
alone store None (Some endpoint) = None

abbrev pub store_alone : Options → Option Text
store_alone o = alone o.store o.keys o.endpoint

-- the store that the words create: `init --store NAME`
abbrev pub init_of : List Text → Option Text
init_of words = option_and_then store_alone (options_of (codes "init") words)

-- what a store is served with: its name, the name of the file of its master keys, and the text before each link
pub record Pipe : Type 0 where
  pub store : Text
  pub keys : Text
  pub endpoint : Text

abbrev pub all_three : Option Text → Option Text → Option Text → Option Pipe
all_three (Some s) (Some k) (Some e) = Some (record { store = s; keys = k; endpoint = e })
all_three (Some s) (Some k) None = None
all_three (Some s) None endpoint = None
all_three None keys endpoint = None

abbrev pub pipe_options : Options → Option Pipe
pipe_options o = all_three o.store o.keys o.endpoint

-- what the words serve a store with: `pipe --store NAME --keys NAME --endpoint TEXT`
abbrev pub pipe_of : List Text → Option Pipe
pipe_of words = option_and_then pipe_options (options_of (codes "pipe") words)
