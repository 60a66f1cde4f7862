-- What the words of `pipe` name.
use Rattle.std.proofs.Common.{Bool, List, None, Some, [], ap, cond, false, get_or, refl, true, ℕ, ◌∙◌, ◌∷◌, ◌≡◌}
use Rattle.std.specs.Prelude.{String, is_some, string_bytes}
use Rattle.std.specs.declared.alloc.Global.{Global}
use Rattle.kms_serve.specs.Plan.{pipe_plan}
use Rattle.kms_serve.specs.Words.{is_pipe, key_file_of, pipe_of, texts}

named : (t : Bool) (c e g : List ℕ) → is_some (cond t (Some (pipe_plan c e g)) None) ≡ true → Some e ≡ key_file_of (cond t (Some (pipe_plan c e g)) None)
named true c e g is = refl
named false c e g is = let no : false ≡ true = is in absurd (cc)

-- the fifth of them is the key file
pub key_named : (words : List (String Global)) (item : String Global) → item ≡ get_or words 4 item → is_some (pipe_of (texts words)) ≡ true → Some (string_bytes item) ≡ key_file_of (pipe_of (texts words))
key_named [] item is pipe = let no : false ≡ true = pipe in absurd (cc)
key_named (a ∷ []) item is pipe = let no : false ≡ true = pipe in absurd (cc)
key_named (a ∷ b ∷ []) item is pipe = let no : false ≡ true = pipe in absurd (cc)
key_named (a ∷ b ∷ c ∷ []) item is pipe = let no : false ≡ true = pipe in absurd (cc)
key_named (a ∷ b ∷ c ∷ d ∷ []) item is pipe = let no : false ≡ true = pipe in absurd (cc)
key_named (a ∷ b ∷ c ∷ d ∷ e ∷ []) item is pipe = let no : false ≡ true = pipe in absurd (cc)
key_named (a ∷ b ∷ c ∷ d ∷ e ∷ f ∷ []) item is pipe = let no : false ≡ true = pipe in absurd (cc)
key_named (a ∷ b ∷ c ∷ d ∷ e ∷ f ∷ g ∷ []) item is pipe =
    ap (λ (x : String Global). Some (string_bytes x)) is
    ∙ named (is_pipe (string_bytes a) (string_bytes b) (string_bytes c) (string_bytes d) (string_bytes e) (string_bytes f) (string_bytes g)) (string_bytes c) (string_bytes e) (string_bytes g) pipe
key_named (a ∷ b ∷ c ∷ d ∷ e ∷ f ∷ g ∷ h ∷ words) item is pipe = let no : false ≡ true = pipe in absurd (cc)
