-- The words of each command are read exactly where they are such words.
use Rattle.std.proofs.Common.{◌≡◌, List, [], ◌∷◌, Bool, true, false, cond, Option, Some, None, refl, ap, ◌∙◌, codes}
use Rattle.std.specs.Str.{bytes_eq}
use Rattle.std.specs.Option.{option_and_then}
use Rattle.std.proofs.lemmas.Slice.Eq.{bytes_eq-Decides}
use Rattle.kms_words.specs.Options.{Text, Options, no_options, options_in}
use Rattle.kms_words.specs.Commands.{Pipe, options_of, alone, all_three, init_of, store_alone, pipe_of, pipe_options}
use Rattle.kms_words.specs.Spelled.{IsGiven, IsInit, IsPipe, ReadsWhatIsSpelled}
use Rattle.kms_words.specs.declared.options.Name.TheVariants as name
use Rattle.kms_words.proofs.GivenLaws.{Given, listed, HasValues, same_some, put_values, values_put}
use Rattle.kms_words.proofs.SpellingLaws.{reads-spelled, spelled-reads}

-- the options that are read behind a command are given there, and have these values
abbrev IsFound : Text → List Text → Options → Type 0
IsFound command words p = (given : Given) × IsGiven command given words × HasValues given no_options p

options-found : (command : Text) (words : List Text) (p : Options) → options_of command words ≡ Some p → IsFound command words p
unfolding options_in
options-found command [] p e = absurd (cc)
options-found command (word ∷ words) p e = at (bytes_eq word command) refl e
  where
    at : (t : Bool) → bytes_eq word command ≡ t → cond t (options_in words) None ≡ Some p → IsFound command (word ∷ words) p
    at false same h = absurd (cc)
    at true same h =
        let (given, spelled, put) = reads-spelled words None no_options p h in
        let (good, has) = put_values given no_options p put in
        (given, record { rest = words; begins = ap (λ w. w ∷ words) ((bytes_eq-Decides word command).0 same); spelled = spelled; values = good }, has)

found-options : (command : Text) (words : List Text) (p : Options) → IsFound command words p → options_of command words ≡ Some p
unfolding options_in
found-options command words p (given, is, has) =
    ap (options_of command) is.begins
    ∙ ap (λ t. cond t (options_in is.rest) None) ((bytes_eq-Decides command command).1 refl)
    ∙ spelled-reads given is.rest no_options p is.spelled (values_put given no_options p is.values has)

-- what is made of options that are there
abbrev IsMadeOf : {A : Type 0} → (Options → Option A) → Option Options → A → Type 0
IsMadeOf f o x = (p : Options) × (o ≡ Some p) × (f p ≡ Some x)

made-of : {A : Type 0} (f : Options → Option A) (o : Option Options) (x : A) → option_and_then f o ≡ Some x → IsMadeOf f o x
made-of f None x e = absurd (cc)
made-of f (Some p) x e = (p, refl, e)

alone-is : (s k e : Option Text) (store : Text) → alone s k e ≡ Some store → (s ≡ Some store) × (k ≡ None) × (e ≡ None)
alone-is s None None store h = (h, refl, refl)
alone-is s (Some k) e store h = absurd (cc)
alone-is s None (Some e) store h = absurd (cc)

init-found : (words : List Text) (store : Text) → init_of words ≡ Some store → IsInit store words
init-found words store h =
    let (p, read, made) = made-of store_alone (options_of (codes "init") words) store h in
    let (given, is, has) = options-found (codes "init") words p read in
    let (s, k, e) = alone-is p.store p.keys p.endpoint store made in
    (given, is, has name.Store ∙ ap listed s, has name.Keys ∙ ap listed k, has name.Endpoint ∙ ap listed e)

init-read : (words : List Text) (store : Text) → IsInit store words → init_of words ≡ Some store
init-read words store (given, is, s, k, e) = ap (option_and_then store_alone) (found-options (codes "init") words p (given, is, has))
  where
    p : Options
    p = record { store = Some store; keys = None; endpoint = None }

    has : HasValues given no_options p
    has name.Store = s
    has name.Keys = k
    has name.Endpoint = e

three-are : (s k e : Option Text) (pipe : Pipe) → all_three s k e ≡ Some pipe → (s ≡ Some pipe.store) × (k ≡ Some pipe.keys) × (e ≡ Some pipe.endpoint)
three-are (Some s) (Some k) (Some e) pipe h =
    let same : record { store = s; keys = k; endpoint = e } ≡ pipe = same_some _ pipe h in
    (ap (λ (p : Pipe). Some p.store) same, ap (λ (p : Pipe). Some p.keys) same, ap (λ (p : Pipe). Some p.endpoint) same)
three-are (Some s) (Some k) None pipe h = absurd (cc)
three-are (Some s) None e pipe h = absurd (cc)
three-are None k e pipe h = absurd (cc)

pipe-found : (words : List Text) (pipe : Pipe) → pipe_of words ≡ Some pipe → IsPipe pipe words
pipe-found words pipe h =
    let (p, read, made) = made-of pipe_options (options_of (codes "pipe") words) pipe h in
    let (given, is, has) = options-found (codes "pipe") words p read in
    let (s, k, e) = three-are p.store p.keys p.endpoint pipe made in
    (given, is, has name.Store ∙ ap listed s, has name.Keys ∙ ap listed k, has name.Endpoint ∙ ap listed e)

pipe-read : (words : List Text) (pipe : Pipe) → IsPipe pipe words → pipe_of words ≡ Some pipe
pipe-read words pipe (given, is, s, k, e) = ap (option_and_then pipe_options) (found-options (codes "pipe") words p (given, is, has))
  where
    p : Options
    p = record { store = Some pipe.store; keys = Some pipe.keys; endpoint = Some pipe.endpoint }

    has : HasValues given no_options p
    has name.Store = s
    has name.Keys = k
    has name.Endpoint = e

pub reads_what_is_spelled : ReadsWhatIsSpelled
reads_what_is_spelled = (init-found, init-read, pipe-found, pipe-read)
