-- How often the files of a store were cut.
use Rattle.std.specs.Prelude.{ℕ, ◌+◌, List, [], ◌∷◌}
use Rattle.kms_host.specs.declared.call.Call.{Call}
use Rattle.kms_host.specs.declared.call.Call.TheVariants.{Text, Listened, Came, Attached, Took, Gave, Shut, OnFile, Told, Drew}
use Rattle.kms_host.specs.declared.call.FileCall.TheVariants.{Measured, Read, Wrote, CutTo, Synced}

-- how many cuts there were, done or failed
abbrev pub cuts : List Call → ℕ
cuts [] = 0
cuts (Text name room bytes ∷ calls) = cuts calls
cuts (Listened address done ∷ calls) = cuts calls
cuts (Came line ∷ calls) = cuts calls
cuts (Attached name done ∷ calls) = cuts calls
cuts (Took l room bytes ∷ calls) = cuts calls
cuts (Gave l piece went ∷ calls) = cuts calls
cuts (Shut l ∷ calls) = cuts calls
cuts (OnFile file (Measured size) ∷ calls) = cuts calls
cuts (OnFile file (Read at room bytes) ∷ calls) = cuts calls
cuts (OnFile file (Wrote at piece left) ∷ calls) = cuts calls
cuts (OnFile file (CutTo size left) ∷ calls) = cuts calls + 1
cuts (OnFile file (Synced done) ∷ calls) = cuts calls
cuts (Told t ∷ calls) = cuts calls
cuts (Drew purpose bytes ∷ calls) = cuts calls
