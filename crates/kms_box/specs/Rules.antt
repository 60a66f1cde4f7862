-- The rules of a body stand in a row: each gives what it is to give, or refuses. The first that refuses is the refusal.
use Rattle.std.specs.Prelude.{ℕ, ◌&&◌, nat_le, List, length, Option, Some, None, Result, Ok, Err, if◌then◌else◌}
use Rattle.kms_world.specs.declared.refusal.Field.{Field}
use Rattle.kms_world.specs.declared.refusal.Refusal.{Refusal}
use Rattle.kms_world.specs.declared.refusal.Refusal.TheVariants.{BadBody}

-- the next rule, with what this one gave
infixl 10 ◌>>=◌
abbrev pub ◌>>=◌ : {A B : Type 0} → Result A Refusal → (A → Result B Refusal) → Result B Refusal
Ok x >>= f = f x
Err refusal >>= f = Err refusal

-- it goes on only where there is one
abbrev pub there : {A : Type 0} → Option A → Refusal → Result A Refusal
there None refusal = Err refusal
there (Some x) refusal = Ok x

-- where there is a text, it has at most 255 bytes
abbrev pub optional_text : Field → Option (List ℕ) → Result (Option (List ℕ)) Refusal
optional_text field None = Ok None
optional_text field (Some text) = if nat_le (length text) 255 then Ok (Some text) else Err (BadBody field)

-- there is a text, of 1 to 255 bytes
abbrev pub required_text : Field → Option (List ℕ) → Result (List ℕ) Refusal
required_text field None = Err (BadBody field)
required_text field (Some text) =
    if nat_le 1 (length text) && nat_le (length text) 255 then Ok text else Err (BadBody field)
