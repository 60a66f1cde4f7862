-- What the calls mean for random bytes.
use Rattle.std.specs.Prelude.{ℕ, ◌+◌, List, [], ◌∷◌, ◌++◌, Some, None, Bool, true, false, if◌then◌else◌}
use Rattle.kms_host.specs.declared.call.Call.{Call}
use Rattle.kms_host.specs.declared.call.Call.TheVariants.{Text, Listened, Came, Attached, Took, Gave, Shut, OnFile, Told, Drew}
use Rattle.kms_host.specs.declared.call.Purpose.{Purpose}
use Rattle.kms_host.specs.declared.call.Purpose.TheVariants.{Tag, Iv, ProjectKey, OrderKey}

abbrev pub is_for : Purpose → Purpose → Bool
is_for Tag Tag = true
is_for Iv Iv = true
is_for ProjectKey ProjectKey = true
is_for OrderKey OrderKey = true
is_for p q = false

-- the bytes that were drawn for a purpose, the oldest first
abbrev pub drawn : Purpose → List Call → List ℕ
drawn purpose [] = []
drawn purpose (Text name room bytes ∷ calls) = drawn purpose calls
drawn purpose (Listened address done ∷ calls) = drawn purpose calls
drawn purpose (Came line ∷ calls) = drawn purpose calls
drawn purpose (Attached name done ∷ calls) = drawn purpose calls
drawn purpose (Took l room bytes ∷ calls) = drawn purpose calls
drawn purpose (Gave l piece went ∷ calls) = drawn purpose calls
drawn purpose (Shut l ∷ calls) = drawn purpose calls
drawn purpose (OnFile file c ∷ calls) = drawn purpose calls
drawn purpose (Told t ∷ calls) = drawn purpose calls
drawn purpose (Drew p (Some bytes) ∷ calls) = if is_for p purpose then drawn purpose calls ++ bytes else drawn purpose calls
drawn purpose (Drew p None ∷ calls) = drawn purpose calls

-- how often drawing failed
abbrev pub failed_draws : List Call → ℕ
failed_draws [] = 0
failed_draws (Text name room bytes ∷ calls) = failed_draws calls
failed_draws (Listened address done ∷ calls) = failed_draws calls
failed_draws (Came line ∷ calls) = failed_draws calls
failed_draws (Attached name done ∷ calls) = failed_draws calls
failed_draws (Took l room bytes ∷ calls) = failed_draws calls
failed_draws (Gave l piece went ∷ calls) = failed_draws calls
failed_draws (Shut l ∷ calls) = failed_draws calls
failed_draws (OnFile file c ∷ calls) = failed_draws calls
failed_draws (Told t ∷ calls) = failed_draws calls
failed_draws (Drew p (Some bytes) ∷ calls) = failed_draws calls
failed_draws (Drew p None ∷ calls) = failed_draws calls + 1
