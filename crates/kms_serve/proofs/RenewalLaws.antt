-- The generations of a run's store, as calls are made.
use Rattle.std.proofs.Common.{◌≡◌, ℕ, ◌+◌, ◌<◌, List, [], ◌∷◌, ◌++◌, Bool, true, false, refl, sym, ap, subst, ◌∙◌, arith, cond}
use Rattle.kms_host.specs.Disk.{IsImage}
use Rattle.kms_host.specs.History.{History}
use Rattle.kms_host.specs.Line.{OnlyGives}
use Rattle.kms_host.specs.Moment.{then_calls}
use Rattle.kms_host.specs.declared.call.Call.{Call}
use Rattle.kms_host.specs.declared.call.Call.TheVariants.{Text, Listened, Came, Attached, Took, Gave, Shut, OnFile, Told, Drew}
use Rattle.kms_host.specs.declared.call.FileCall.TheVariants.{Measured, Read, Wrote, CutTo, Synced}
use Rattle.kms_host.proofs.Moments.{then_calls-append}
use Rattle.kms_journal.specs.Cuts.{cuts}
use Rattle.kms_journal.specs.Device.{IsQuietStore}
use Rattle.kms_journal.specs.Position.{Position}
use Rattle.kms_journal.specs.Raised.{IsRaised}
use Rattle.kms_journal.specs.Standing.{Standing}
use Rattle.kms_journal.proofs.OpeningLaws.{some_is}
use Rattle.kms_journal.proofs.RaisedLaws.{cuts_since}
use Rattle.kms_core.specs.Steps.{Held, IsSettled}
use Rattle.kms_serve.specs.Batches.{in_batch}
use Rattle.kms_serve.specs.Owing.{IsAbove}
use Rattle.kms_serve.specs.Renewals.{is_asked, renewals, IsRenewed, AllRenewed}
use Rattle.kms_world.specs.State.{State}
use Rattle.kms_serve.specs.RunStart.{RunStart, history}
use Rattle.kms_serve.specs.StoreCalls.{OnlyFiles}
use Rattle.kms_serve.proofs.CrashLaws.{Same, image_same, quiet_image}
use Rattle.kms_serve.proofs.StoreCallLaws.{same_by_files}

-- before the first time there are none
pub renewals-unasked : (calls : List Call) → is_asked calls ≡ false → renewals calls ≡ 0
renewals-unasked [] e = refl
renewals-unasked (Text name room bytes ∷ calls) e = renewals-unasked calls e
renewals-unasked (Listened address done ∷ calls) e = renewals-unasked calls e
renewals-unasked (Came line ∷ calls) e = renewals-unasked calls e
renewals-unasked (Attached name done ∷ calls) e = renewals-unasked calls e
renewals-unasked (Took l room bytes ∷ calls) e = renewals-unasked calls e
renewals-unasked (Gave l piece went ∷ calls) e = renewals-unasked calls e
renewals-unasked (Shut l ∷ calls) e = renewals-unasked calls e
renewals-unasked (OnFile file (Measured size) ∷ calls) e = renewals-unasked calls e
renewals-unasked (OnFile file (Read at room bytes) ∷ calls) e = renewals-unasked calls e
renewals-unasked (OnFile file (Wrote at piece left) ∷ calls) e = renewals-unasked calls e
renewals-unasked (OnFile file (CutTo size left) ∷ calls) e = ap (λ (t : Bool). cond t (renewals calls + 1) (renewals calls)) e ∙ renewals-unasked calls e
renewals-unasked (OnFile file (Synced done) ∷ calls) e = renewals-unasked calls e
renewals-unasked (Told t ∷ calls) e = absurd (cc)
renewals-unasked (Drew purpose bytes ∷ calls) e = renewals-unasked calls e

-- after it each cut is one
pub renewals-files : (on_files early : List Call) → OnlyFiles on_files → is_asked early ≡ true → renewals (on_files ++ early) ≡ cuts on_files + renewals early
renewals-files [] early only asked = omega arith
renewals-files (Text name room bytes ∷ on_files) early only asked = absurd only
renewals-files (Listened address done ∷ on_files) early only asked = absurd only
renewals-files (Came line ∷ on_files) early only asked = absurd only
renewals-files (Attached name done ∷ on_files) early only asked = absurd only
renewals-files (Took l room bytes ∷ on_files) early only asked = absurd only
renewals-files (Gave l piece went ∷ on_files) early only asked = absurd only
renewals-files (Shut l ∷ on_files) early only asked = absurd only
renewals-files (OnFile file (Measured size) ∷ on_files) early only asked = renewals-files on_files early only asked
renewals-files (OnFile file (Read at room bytes) ∷ on_files) early only asked = renewals-files on_files early only asked
renewals-files (OnFile file (Wrote at piece left) ∷ on_files) early only asked = renewals-files on_files early only asked
renewals-files (OnFile file (CutTo size left) ∷ on_files) early only asked =
    let n : ℕ = renewals (on_files ++ early) in
    let here : is_asked (on_files ++ early) ≡ true = same_by_files is_asked (λ f c calls. refl) on_files early only ∙ asked in
    let before : n ≡ cuts on_files + renewals early = renewals-files on_files early only asked in
    ap (λ (t : Bool). cond t (n + 1) n) here ∙ omega (arith, before)
renewals-files (OnFile file (Synced done) ∷ on_files) early only asked = renewals-files on_files early only asked
renewals-files (Told t ∷ on_files) early only asked = absurd only
renewals-files (Drew purpose bytes ∷ on_files) early only asked = absurd only

pub renewals-gives : (line : ℕ) (gives early : List Call) → OnlyGives line gives → renewals (gives ++ early) ≡ renewals early
renewals-gives line [] early only = refl
renewals-gives line (Text name room bytes ∷ gives) early only = absurd only
renewals-gives line (Listened address done ∷ gives) early only = absurd only
renewals-gives line (Came next ∷ gives) early only = absurd only
renewals-gives line (Attached name done ∷ gives) early only = absurd only
renewals-gives line (Took l room bytes ∷ gives) early only = absurd only
renewals-gives line (Gave l piece went ∷ gives) early only = renewals-gives line gives early only.1
renewals-gives line (Shut l ∷ gives) early only = absurd only
renewals-gives line (OnFile file c ∷ gives) early only = absurd only
renewals-gives line (Told t ∷ gives) early only = absurd only
renewals-gives line (Drew purpose bytes ∷ gives) early only = absurd only

-- where nothing was done to the store
pub renewed_on : (b : RunStart) (was now : List Call) → renewals now ≡ renewals was → Same (history b was) (history b now) → IsRenewed b was → IsRenewed b now
renewed_on b was now same calls r = record {
  images = λ quiet image is s t first there. rw same (r.images quiet image (image_same (history b was) (history b now) image calls is) s t first there);
}

pub above_on : (b : RunStart) (engine : Held) (was now : List Call) → renewals now ≡ renewals was → IsAbove b engine was → IsAbove b engine now
above_on b engine was now same above = λ quiet s first. above quiet s first ∙ ap (λ (n : ℕ). s.generation + n) (sym same)

-- where all is settled
module _ (b : RunStart) (engine : Held) (n : ℕ) (state : State) (calls : List Call) (above : IsAbove b engine calls) (settled : IsSettled b.masters engine n state (history b calls)) where
  pub all_renewed : AllRenewed b calls
  all_renewed quiet s t first now =
      let o = settled.opened.opened in
      let same : o.standing ≡ t = some_is o.standing t (sym o.placed.current ∙ now) in
      ap (λ (x : Standing). x.generation) (sym same) ∙ sym (ap (λ (p : Position). p.generation) o.placed.here) ∙ above quiet s first

  pub renewed_settled : (IsQuietStore b.was → IsQuietStore (history b calls)) → IsRenewed b calls
  renewed_settled quiet_then = record {
    images = λ quiet image is s t first now.
        let e = all_renewed quiet s t first (sym (quiet_image (history b calls) image (quiet_then quiet) is) ∙ now) in
        (omega (arith, e), omega (arith, e));
  }

-- a time was told for the batch that is being answered
pub batch_asked : (calls : List Call) → 0 < in_batch calls → is_asked calls ≡ true
batch_asked [] h = absurd (omega (arith, h))
batch_asked (Text name room bytes ∷ calls) h = absurd (omega (arith, h))
batch_asked (Listened address done ∷ calls) h = absurd (omega (arith, h))
batch_asked (Came next ∷ calls) h = absurd (omega (arith, h))
batch_asked (Attached name done ∷ calls) h = absurd (omega (arith, h))
batch_asked (Took l room bytes ∷ calls) h = absurd (omega (arith, h))
batch_asked (Gave l piece went ∷ calls) h = absurd (omega (arith, h))
batch_asked (Shut l ∷ calls) h = absurd (omega (arith, h))
batch_asked (OnFile file c ∷ calls) h = absurd (omega (arith, h))
batch_asked (Told t ∷ calls) h = refl
batch_asked (Drew purpose bytes ∷ calls) h = batch_asked calls h

-- while the steps of a batch are settled
module _ (b : RunStart) (engine : Held) (x on_files : List Call) (only : OnlyFiles on_files) (asked : is_asked x ≡ true) (above : IsAbove b engine x) where
  abbrev mid : History
  mid = history b x

  pub cuts_then : cuts (then_calls mid on_files).calls ≡ cuts on_files + cuts mid.calls
  cuts_then = cuts_since mid on_files

  pub renewals_then : renewals (on_files ++ x) ≡ cuts on_files + renewals x
  renewals_then = renewals-files on_files x only asked

  pub renewed_settling : (IsQuietStore b.was → IsQuietStore mid)
      → (IsQuietStore mid → (image : List ℕ × List ℕ) → IsImage (then_calls mid on_files) image → IsRaised engine.store.journal.generation mid (then_calls mid on_files) image) → IsRenewed b (on_files ++ x)
  renewed_settling quiet_then raised = record {
    images = λ quiet image is s t first now.
        let here : IsImage (then_calls mid on_files) image = subst (λ (h : History). IsImage h image) (then_calls-append b.was on_files x) is in
        let r = (raised (quiet_then quiet) image here).raised t now in
        (omega (arith, r.0, cuts_then, renewals_then, above quiet s first), omega (arith, r.1, cuts_then, renewals_then, above quiet s first));
  }

  pub above_settled : (after : Held) → after.store.journal.generation + cuts mid.calls ≡ engine.store.journal.generation + cuts (then_calls mid on_files).calls → IsAbove b after (on_files ++ x)
  above_settled after raised = λ quiet s first. omega (arith, raised, cuts_then, renewals_then, above quiet s first)
