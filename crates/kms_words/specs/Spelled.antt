-- What the words of a command are, in any order.
use Rattle.std.specs.Prelude.{◌≡◌, ◌⊎◌, List, [], ◌∷◌, ◌++◌, true, if◌then◌else◌, Some, codes}
use Rattle.std.specs.Str.{bytes_eq}
use Rattle.kms_words.specs.Options.{Text, dashed, is_value}
use Rattle.kms_words.specs.Commands.{Pipe, init_of, pipe_of}
use Rattle.kms_words.specs.declared.options.Name.{Name}
use Rattle.kms_words.specs.declared.options.Name.TheVariants as name

-- options with their values, spelled one after the other, each as `--name value` or as `--name=value`
abbrev pub AreSpelled : List (Name × Text) → List Text → Type 0
AreSpelled [] words = words ≡ []
AreSpelled ((n, v) ∷ given) words = (rest : List Text) × ((words ≡ dashed n ∷ v ∷ rest) ⊎ (words ≡ (dashed n ++ (codes "=" ++ v)) ∷ rest)) × AreSpelled given rest

-- no value is empty or begins with a dash
abbrev pub AreValues : List (Name × Text) → Type 0
AreValues [] = Unit {0}
AreValues ((n, v) ∷ given) = (is_value v ≡ true) × AreValues given

-- the values that are given to an option, in their order
abbrev pub values_of : Name → List (Name × Text) → List Text
values_of name [] = []
values_of name ((n, v) ∷ given) = if bytes_eq (dashed n) (dashed name) then v ∷ values_of name given else values_of name given

-- the words are the command and the options given behind it
pub record IsGiven (command : Text) (given : List (Name × Text)) (words : List Text) : Type 0 where
  pub rest : List Text
  pub begins : words ≡ command ∷ rest
  pub spelled : AreSpelled given rest
  pub values : AreValues given

-- `init`, with one value for --store and no other option
abbrev pub IsInit : (store : Text) → List Text → Type 0
IsInit store words = (given : List (Name × Text)) × IsGiven (codes "init") given words
    × (values_of name.Store given ≡ store ∷ []) × (values_of name.Keys given ≡ []) × (values_of name.Endpoint given ≡ [])

-- `pipe`, with one value for each option
abbrev pub IsPipe : Pipe → List Text → Type 0
IsPipe pipe words = (given : List (Name × Text)) × IsGiven (codes "pipe") given words
    × (values_of name.Store given ≡ pipe.store ∷ []) × (values_of name.Keys given ≡ pipe.keys ∷ []) × (values_of name.Endpoint given ≡ pipe.endpoint ∷ [])

-- the words are read exactly where they are such words, and as what they say
abbrev pub ReadsWhatIsSpelled : Type 0
ReadsWhatIsSpelled =
    ((words : List Text) (store : Text) → init_of words ≡ Some store → IsInit store words)
    × ((words : List Text) (store : Text) → IsInit store words → init_of words ≡ Some store)
    × ((words : List Text) (pipe : Pipe) → pipe_of words ≡ Some pipe → IsPipe pipe words)
    × ((words : List Text) (pipe : Pipe) → IsPipe pipe words → pipe_of words ≡ Some pipe)
