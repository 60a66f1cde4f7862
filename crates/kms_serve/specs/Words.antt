-- The words of the command line: `init --store NAME`, or `pipe --store NAME --keys NAME --endpoint TEXT`, in this order.
use Rattle.std.specs.Prelude.{ℕ, List, [], ◌∷◌, Bool, false, not, ◌&&◌, ◌==◌, Option, Some, None, if◌then◌else◌, codes, map, string_bytes, String}
use Rattle.std.specs.Option.{option_or}
use Rattle.std.specs.Str.{bytes_eq}
use Rattle.std.specs.declared.alloc.Global.{Global}
use Rattle.kms_serve.specs.Plan.{Plan, pipe_plan}

-- a value isn't empty and doesn't begin with a dash
abbrev pub is_value : List ℕ → Bool
is_value [] = false
is_value (b ∷ bytes) = not (b == 45)

abbrev pub is_init : (command store_word store : List ℕ) → Bool
is_init command store_word store = bytes_eq command (codes "init") && bytes_eq store_word (codes "--store") && is_value store

-- the name of the store that is to be created, where the words are these
abbrev pub init_of : List (List ℕ) → Option (List ℕ)
init_of (a ∷ b ∷ c ∷ []) = if is_init a b c then Some c else None
init_of _ = None

abbrev pub is_pipe : (command store_word store keys_word keys endpoint_word endpoint : List ℕ) → Bool
is_pipe command store_word store keys_word keys endpoint_word endpoint =
    bytes_eq command (codes "pipe") && bytes_eq store_word (codes "--store") && is_value store
    && bytes_eq keys_word (codes "--keys") && is_value keys
    && bytes_eq endpoint_word (codes "--endpoint") && is_value endpoint

-- what the words ask for, where they serve line 0 over a store
abbrev pub pipe_of : List (List ℕ) → Option Plan
pipe_of (a ∷ b ∷ c ∷ d ∷ e ∷ f ∷ g ∷ []) = if is_pipe a b c d e f g then Some (pipe_plan c e g) else None
pipe_of _ = None

abbrev pub store_of : Option Plan → Option (List ℕ)
store_of None = None
store_of (Some plan) = Some plan.store

-- the store that the words create or serve
abbrev pub named_store : List (List ℕ) → Option (List ℕ)
named_store words = option_or (init_of words) (store_of (pipe_of words))

abbrev pub first_name : List (List ℕ) → Option (List ℕ)
first_name [] = None
first_name (name ∷ names) = Some name

-- the key file from which they have the master keys
abbrev pub key_file_of : Option Plan → Option (List ℕ)
key_file_of None = None
key_file_of (Some plan) = first_name plan.keys

abbrev pub endpoint_of : Option Plan → Option (List ℕ)
endpoint_of None = None
endpoint_of (Some plan) = Some plan.endpoint

abbrev pub texts : List (String Global) → List (List ℕ)
texts words = map string_bytes words
