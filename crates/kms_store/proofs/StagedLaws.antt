-- One staged step more leads one step further.
use Rattle.std.proofs.Common.{◌≡◌, ℕ, ◌≤◌, List, [], ◌∷◌, ◌++◌, length, Some, refl, sym, ap, ◌∙◌, arith, length-append}
use Rattle.std.specs.List.{flat_map, AllByRecursion}
use Rattle.std.proofs.lemmas.Grind.{flat_map-append}
use Rattle.std.proofs.lemmas.List.{append-nil}
use Rattle.kms_record.specs.declared.change.Change.{Change}
use Rattle.kms_record.specs.Fields.{u16_bytes}
use Rattle.kms_record.specs.Grammar.{IsStep, step_bytes}
use Rattle.kms_kept.specs.Kept.{Kept, after_step}
use Rattle.kms_kept.proofs.KeptLaws.{record-append}
use Rattle.kms_store.specs.Staged.{Staging, StagingLeads, nothing_staged, with_staged}

-- no staged step leads nowhere else
pub nothing_leads : (kept : Kept) → StagingLeads nothing_staged kept kept
nothing_leads kept = record { steps = []; spells = record { count = refl; spelled = refl; admitted = tt }; leads = refl }

all_push : {A : Type 0} (P : A → Type 0) (xs : List A) (x : A) → AllByRecursion P xs → P x → AllByRecursion P (xs ++ x ∷ [])
all_push P [] x each last = (last, tt)
all_push P (y ∷ ys) x each last = (each.0, all_push P ys x each.1 last)

pub staged_leads : (staging : Staging) (settled kept next : Kept) (step : List Change) → staging.reserved ≡ step_bytes step → IsStep step → after_step step kept ≡ Some next
    → StagingLeads staging settled kept → StagingLeads (with_staged staging) settled next
staged_leads staging settled kept next step reserved is leads so_far =
    let steps = so_far.steps in
    let spells = so_far.spells in
    record {
      steps = steps ++ step ∷ [];
      spells = record {
        count = omega (arith, spells.count, length-append steps (step ∷ []));
        spelled = ap (λ (l : List ℕ). l ++ staging.reserved) spells.spelled ∙ ap (λ (l : List ℕ). flat_map step_bytes steps ++ l) (reserved ∙ sym (append-nil (step_bytes step)))
            ∙ sym (flat_map-append step_bytes steps (step ∷ []));
        admitted = all_push IsStep steps step spells.admitted is;
      };
      leads = record-append steps (step ∷ []) settled ∙ (rw (so_far.leads, leads) refl);
    }

-- a step is spelled with some bytes
pub step_is_some : (step : List Change) → 1 ≤ length (step_bytes step)
unfolding u16_bytes
step_is_some step = omega arith
