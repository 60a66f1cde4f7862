-- The words behind a command: options in any order, each at most once, as `--name value` or `--name=value`.
use Rattle.std.specs.Prelude.{ℕ, List, [], ◌∷◌, Bool, false, not, ◌&&◌, ◌==◌, Option, Some, None, is_some, option_map, if◌then◌else◌, codes}
use Rattle.std.specs.Option.{option_and_then, option_or}
use Rattle.kms_words.specs.declared.options.Name.{Name}
use Rattle.kms_words.specs.declared.options.Name.TheVariants as name

abbrev pub Text : Type 0
Text = List ℕ

-- how an option is written
abbrev pub dashed : Name → Text
dashed name.Store = codes "--store"
dashed name.Keys = codes "--keys"
dashed name.Endpoint = codes "--endpoint"

-- a value isn't empty and doesn't begin with a dash
abbrev pub is_value : Text → Bool
is_value [] = false
is_value (b ∷ bytes) = not (b == 45)

-- the bytes behind a text, where they begin with it
unfoldable pub past : Text → Text → Option Text
past [] bytes = Some bytes
past (x ∷ xs) [] = None
past (x ∷ xs) (y ∷ ys) = if x == y then past xs ys else None

-- the options that were read
pub record Options : Type 0 where
  pub store : Option Text
  pub keys : Option Text
  pub endpoint : Option Text

abbrev pub no_options : Options
no_options = record { store = None; keys = None; endpoint = None }

abbrev pub value_of : Name → Options → Option Text
value_of name.Store o = o.store
value_of name.Keys o = o.keys
value_of name.Endpoint o = o.endpoint

abbrev pub with_value : Name → Text → Options → Options
with_value name.Store v o = record o { store = Some v }
with_value name.Keys v o = record o { keys = Some v }
with_value name.Endpoint v o = record o { endpoint = Some v }

-- a value that is good, of an option that isn't there yet
abbrev pub put : Name → Text → Options → Option Options
put name v o = if is_value v && not (is_some (value_of name o)) then Some (with_value name v o) else None

abbrev pub if_named : Name → Text → Option (Name × Text)
if_named name word = option_map (λ rest. (name, rest)) (past (dashed name) word)

-- the option that a word begins with, and what follows it in the word
unfoldable pub named : Text → Option (Name × Text)
named word = option_or (if_named name.Store word) (option_or (if_named name.Keys word) (if_named name.Endpoint word))

-- what was read so far: the option that waits for its value in the next word, and the options
pub record State : Type 0 where
  pub waiting : Option Name
  pub options : Options

abbrev pub start : State
start = record { waiting = None; options = no_options }

abbrev pub read_option : Options → Option State
read_option o = Some (record { waiting = None; options = o })

abbrev pub put_option : Name → Text → Options → Option State
put_option name v o = option_and_then read_option (put name v o)

-- an option, with what follows its name in the word
abbrev pub with_named : Options → Option (Name × Text) → Option State
with_named o None = None
with_named o (Some (name, [])) = Some (record { waiting = Some name; options = o })
with_named o (Some (name, b ∷ v)) = if 61 == b then put_option name v o else None

abbrev pub step_by : Option Name → Options → Text → Option State
step_by None o word = with_named o (named word)
step_by (Some name) o word = put_option name word o

-- one word more
abbrev pub step : State → Text → Option State
step s word = step_by s.waiting s.options word

-- all the words, from a state on
unfoldable pub steps : State → List Text → Option State
steps s [] = Some s
steps s (word ∷ words) = option_and_then (λ t. steps t words) (step s word)

abbrev pub complete : State → Option Options
complete s = if is_some s.waiting then None else Some s.options

-- the options that the words give
unfoldable pub options_in : List Text → Option Options
options_in words = option_and_then complete (steps start words)
