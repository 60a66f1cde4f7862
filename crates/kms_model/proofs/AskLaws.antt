-- What follows from the outcome of an operation.
use Rattle.std.proofs.Common.{◌≡◌, ◌≤◌, false, true≢false, List, [], ◌∷◌, Result, Err, refl, arith}
use Rattle.kms_world.specs.Effect.{Effect, after_effect, after_effects}
use Rattle.kms_world.specs.State.{State}
use Rattle.kms_world.specs.declared.answer.Answer.TheVariants as answers
use Rattle.kms_world.specs.declared.refusal.Refusal.{Refusal}
use Rattle.kms_world.proofs.EffectLaws.{ids_given}
use Rattle.kms_model.specs.Done.{Done, answer_by, effects_by, has_some}

pub refused_answer : (done : Result Done Refusal) (refusal : Refusal) → done ≡ Err refusal → answer_by done ≡ answers.Refused refusal
refused_answer done refusal is = rw is refl

pub refused_state : (done : Result Done Refusal) (refusal : Refusal) (s : State) → done ≡ Err refusal → after_effects (effects_by done) s ≡ s
refused_state done refusal s is = rw is refl

pub refused_stores : (done : Result Done Refusal) (refusal : Refusal) → done ≡ Err refusal → has_some (effects_by done) ≡ false
refused_stores done refusal is = rw is refl

pub unstored : (effects : List Effect) (s : State) → has_some effects ≡ false → after_effects effects s ≡ s
unstored [] s none = refl
unstored (effect ∷ effects) s none = absurd (true≢false none)

pub ids_stay : (effects : List Effect) (s : State) → s.ids ≤ (after_effects effects s).ids
ids_stay [] s = omega arith
ids_stay (effect ∷ effects) s =
    let first = (ids_given effect s).0 in
    let rest = ids_stay effects (after_effect effect s) in omega (arith, first, rest)
