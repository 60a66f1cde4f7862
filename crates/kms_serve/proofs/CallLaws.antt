-- What passes over calls of a kind.
use Rattle.std.proofs.Common.{List, Option, [], refl, ℕ, ◌++◌, ◌∙◌, ◌∷◌, ◌≡◌}
use Rattle.kms_host.specs.Line.{OnlyGives}
use Rattle.kms_host.specs.declared.call.Call.{Call}
use Rattle.kms_host.specs.declared.call.Call.TheVariants.{Attached, Came, Drew, Gave, Listened, OnFile, Shut, Text, Told, Took}
use Rattle.kms_host.specs.declared.call.Purpose.{Purpose}
use Rattle.kms_serve.specs.Owed.{OnlyDraws}

-- a meaning that says nothing of giving
pub same_by_gives : {A : Type 0} (F : List Call → A) → ((l : ℕ) (piece : List ℕ) (went : Option ℕ) (calls : List Call) → F (Gave l piece went ∷ calls) ≡ F calls)
    → (line : ℕ) (gives early : List Call) → OnlyGives line gives → F (gives ++ early) ≡ F early
same_by_gives F skips line [] early only = refl
same_by_gives F skips line (Text name room bytes ∷ gives) early only = absurd only
same_by_gives F skips line (Listened address done ∷ gives) early only = absurd only
same_by_gives F skips line (Came next ∷ gives) early only = absurd only
same_by_gives F skips line (Attached name done ∷ gives) early only = absurd only
same_by_gives F skips line (Took l room bytes ∷ gives) early only = absurd only
same_by_gives F skips line (Gave l piece went ∷ gives) early only = skips l piece went (gives ++ early) ∙ same_by_gives F skips line gives early only.1
same_by_gives F skips line (Shut l ∷ gives) early only = absurd only
same_by_gives F skips line (OnFile file c ∷ gives) early only = absurd only
same_by_gives F skips line (Told t ∷ gives) early only = absurd only
same_by_gives F skips line (Drew purpose bytes ∷ gives) early only = absurd only

-- a meaning that says nothing of draws
pub same_by_draws : {A : Type 0} (F : List Call → A) → ((purpose : Purpose) (bytes : Option (List ℕ)) (calls : List Call) → F (Drew purpose bytes ∷ calls) ≡ F calls)
    → (draws early : List Call) → OnlyDraws draws → F (draws ++ early) ≡ F early
same_by_draws F skips [] early only = refl
same_by_draws F skips (Text name room bytes ∷ draws) early only = absurd only
same_by_draws F skips (Listened address done ∷ draws) early only = absurd only
same_by_draws F skips (Came next ∷ draws) early only = absurd only
same_by_draws F skips (Attached name done ∷ draws) early only = absurd only
same_by_draws F skips (Took line room bytes ∷ draws) early only = absurd only
same_by_draws F skips (Gave line piece went ∷ draws) early only = absurd only
same_by_draws F skips (Shut line ∷ draws) early only = absurd only
same_by_draws F skips (OnFile file c ∷ draws) early only = absurd only
same_by_draws F skips (Told t ∷ draws) early only = absurd only
same_by_draws F skips (Drew purpose bytes ∷ draws) early only = skips purpose bytes (draws ++ early) ∙ same_by_draws F skips draws early only.1
