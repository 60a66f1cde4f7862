-- Draws touch no file.
use Rattle.std.proofs.Common.{◌≡◌, ℕ, List, [], ◌∷◌, refl}
use Rattle.std.specs.Prelude.{Option, Some, None}
use Rattle.kms_host.specs.History.{History, WhereTold, then_call}
use Rattle.kms_host.specs.Moment.{Since, then_calls}
use Rattle.kms_host.specs.declared.call.Call.{Call}
use Rattle.kms_host.specs.declared.call.Call.TheVariants.{Text, Listened, Came, Attached, Took, Gave, Shut, OnFile, Told, Drew}
use Rattle.kms_host.specs.declared.call.Purpose.{Purpose}
use Rattle.kms_host.specs.declared.call.Purpose.TheVariants.{Tag, Iv, ProjectKey, OrderKey}
use Rattle.kms_host.proofs.Moments.{known_with}
use Rattle.kms_journal.specs.Position.{Position, IsPlaced}
use Rattle.kms_journal.specs.Standing.{Standing}
use Rattle.kms_journal.proofs.RestLaws.{placed_stays}
use Rattle.kms_sealing.specs.Drawing.{AreSealingDraws}

-- one draw more
drew : (p : Position) (h : History) (purpose : Purpose) (bytes : Option (List ℕ)) (s : Standing) → IsPlaced p h s → IsPlaced p (then_call h (Drew purpose bytes)) s
drew p h purpose bytes s placed = placed_stays p h (then_call h (Drew purpose bytes)) s (λ f. refl) (record { done = placed.attached.done }) placed

all_drew : (p : Position) (was : History) (s : Standing) → IsPlaced p was s → (calls : List Call) → AreSealingDraws calls → IsPlaced p (then_calls was calls) s
all_drew p was s placed [] sizes = placed
all_drew p was s placed (Text name room bytes ∷ calls) sizes = absurd sizes
all_drew p was s placed (Listened address done ∷ calls) sizes = absurd sizes
all_drew p was s placed (Came line ∷ calls) sizes = absurd sizes
all_drew p was s placed (Attached name done ∷ calls) sizes = absurd sizes
all_drew p was s placed (Took line room bytes ∷ calls) sizes = absurd sizes
all_drew p was s placed (Gave line piece went ∷ calls) sizes = absurd sizes
all_drew p was s placed (Shut line ∷ calls) sizes = absurd sizes
all_drew p was s placed (OnFile file c ∷ calls) sizes = absurd sizes
all_drew p was s placed (Told t ∷ calls) sizes = absurd sizes
all_drew p was s placed (Drew Tag bytes ∷ calls) sizes = absurd sizes
all_drew p was s placed (Drew Iv None ∷ calls) sizes = drew p _ Iv None s (all_drew p was s placed calls sizes)
all_drew p was s placed (Drew Iv (Some bytes) ∷ calls) sizes = drew p _ Iv (Some bytes) s (all_drew p was s placed calls sizes.1)
all_drew p was s placed (Drew ProjectKey None ∷ calls) sizes = drew p _ ProjectKey None s (all_drew p was s placed calls sizes)
all_drew p was s placed (Drew ProjectKey (Some bytes) ∷ calls) sizes = drew p _ ProjectKey (Some bytes) s (all_drew p was s placed calls sizes.1)
all_drew p was s placed (Drew OrderKey bytes ∷ calls) sizes = absurd sizes

-- a journal stays placed while bytes are drawn
pub placed_while_drawn : {a b : Option History} {P : History → List Call → Type 0} (p q : Position) → q ≡ p → WhereTold a (λ h. (s : Standing) × IsPlaced p h s) → Since a b P → ((was : History) (calls : List Call) → P was calls → AreSealingDraws calls)
    → WhereTold b (λ h. (s : Standing) × IsPlaced q h s)
placed_while_drawn p q same placed since sizes =
    rw same (known_with (λ h. (s : Standing) × IsPlaced p h s) placed since (λ was calls there drew. (there.0, all_drew p was there.0 there.1 calls (sizes was calls drew))))
