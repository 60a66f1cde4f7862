-- The methods of a path, as the Allow field lists them (RFC 9110 section 10.2.1).
use Rattle.std.specs.Prelude.{ℕ, List, [], ◌∷◌, ◌++◌, Bool, if◌then◌else◌, codes}
use Rattle.kms_world.specs.declared.refusal.Allow.{Allow}

-- the words that are there
abbrev pub chosen : List (Bool × List ℕ) → List (List ℕ)
chosen [] = []
chosen (x ∷ xs) = if x.0 then x.1 ∷ chosen xs else chosen xs

abbrev pub methods : Allow → List (Bool × List ℕ)
methods a =
    (a.get, codes "GET") ∷ (a.post, codes "POST") ∷ (a.put, codes "PUT") ∷ (a.patch, codes "PATCH")
    ∷ (a.delete, codes "DELETE") ∷ []

-- with a comma and a space between
abbrev pub comma_list : List (List ℕ) → List ℕ
comma_list [] = []
comma_list (word ∷ []) = word
comma_list (word ∷ next ∷ words) = word ++ codes ", " ++ comma_list (next ∷ words)

unfoldable pub allow_text : Allow → List ℕ
allow_text a = comma_list (chosen (methods a))

-- one word of the list, where it is there
abbrev pub item : (is_first is_there : Bool) → List ℕ → List ℕ
item is_first is_there word = if is_there then (if is_first then word else codes ", " ++ word) else []
