-- What is drawn for a payload, as the host's calls have it, the newest first.
use Rattle.std.specs.Prelude.{◌≡◌, ◌⊎◌, ℕ, Bool, true, List, [], ◌∷◌, length, Option, Some, None, is_some, Result, Ok, Err}
use Rattle.kms_host.specs.declared.call.Call.{Call}
use Rattle.kms_host.specs.declared.call.Call.TheVariants.{Text, Listened, Came, Attached, Took, Gave, Shut, OnFile, Told, Drew}
use Rattle.kms_host.specs.declared.call.Failed.{Failed}
use Rattle.kms_host.specs.declared.call.Purpose.TheVariants.{Tag, Iv, ProjectKey, OrderKey}
use Rattle.kms_sealing.specs.declared.drawing.Drawn.{Drawn}
use Rattle.kms_sealing.specs.declared.drawing.KeyDraw.{KeyDraw}

-- a key, and then the vector that it is wrapped with
abbrev pub key_calls : Option KeyDraw → List Call
key_calls None = []
key_calls (Some key) = Drew Iv (Some key.iv) ∷ Drew ProjectKey (Some key.key) ∷ []

-- the one or the other failed
abbrev pub FailsKey : List Call → Type 0
FailsKey calls = (calls ≡ Drew ProjectKey None ∷ []) ⊎ ((key : List ℕ) × (calls ≡ Drew Iv None ∷ Drew ProjectKey (Some key) ∷ []))

abbrev pub DrawsKey : (needed : Bool) → Result (Option KeyDraw) Failed → List Call → Type 0
DrawsKey needed (Ok key) calls = calls ≡ key_calls key
DrawsKey needed (Err failed) calls = (needed ≡ true) × FailsKey calls

-- after that, the vector of the token
abbrev pub drawn_calls : Drawn → List Call
drawn_calls drawn = Drew Iv (Some drawn.iv) ∷ key_calls drawn.key

-- a key is needed or not: all was drawn, or the newest draw failed
abbrev pub Draws : (needed : Bool) → Result Drawn Failed → List Call → Type 0
Draws needed (Ok drawn) calls = calls ≡ drawn_calls drawn
Draws needed (Err failed) calls =
    ((needed ≡ true) × FailsKey calls) ⊎ ((key : Option KeyDraw) × (is_some key ≡ needed) × (calls ≡ Drew Iv None ∷ key_calls key))

-- Nothing is called but draws: 16 bytes for an initialization vector, 32 for a project key.
abbrev pub AreSealingDraws : List Call → Type 0
AreSealingDraws [] = Unit {0}
AreSealingDraws (Text name room bytes ∷ calls) = ⊥
AreSealingDraws (Listened address done ∷ calls) = ⊥
AreSealingDraws (Came line ∷ calls) = ⊥
AreSealingDraws (Attached name done ∷ calls) = ⊥
AreSealingDraws (Took line room bytes ∷ calls) = ⊥
AreSealingDraws (Gave line piece went ∷ calls) = ⊥
AreSealingDraws (Shut line ∷ calls) = ⊥
AreSealingDraws (OnFile file c ∷ calls) = ⊥
AreSealingDraws (Told t ∷ calls) = ⊥
AreSealingDraws (Drew Tag bytes ∷ calls) = ⊥
AreSealingDraws (Drew Iv None ∷ calls) = AreSealingDraws calls
AreSealingDraws (Drew Iv (Some bytes) ∷ calls) = (length bytes ≡ 16) × AreSealingDraws calls
AreSealingDraws (Drew ProjectKey None ∷ calls) = AreSealingDraws calls
AreSealingDraws (Drew ProjectKey (Some bytes) ∷ calls) = (length bytes ≡ 32) × AreSealingDraws calls
AreSealingDraws (Drew OrderKey bytes ∷ calls) = ⊥
