-- The parts of a request target (RFC 9112 section 3.2.1). Nothing is percent-decoded.
use Rattle.std.specs.Prelude.{ℕ, zero, suc, List, [], ◌∷◌, ◌==◌, if◌then◌else◌}
use Rattle.std.specs.List.{before_first, after_first}

-- without one slash at the end
unfoldable pub drop_slash : List ℕ → List ℕ
drop_slash [] = []
drop_slash (b ∷ []) = if b == 47 then [] else b ∷ []
drop_slash (b ∷ c ∷ bytes) = b ∷ drop_slash (c ∷ bytes)

-- the path of a target: up to `?`
abbrev pub path_text : List ℕ → List ℕ
path_text target = drop_slash (before_first (λ b. b == 63) target)

-- the query of a target: after `?`, empty where there is none
abbrev pub query_text : List ℕ → List ℕ
query_text target = after_first (λ b. b == 63) target

-- the segment of this number, from 0; the first stands before the first slash
abbrev pub segment : ℕ → List ℕ → List ℕ
segment zero bytes = before_first (λ b. b == 47) bytes
segment (suc n) bytes = segment n (after_first (λ b. b == 47) bytes)
