-- The generation of a store rises with the cuts.
use Rattle.std.proofs.Common.{◌≡◌, ℕ, ◌+◌, ◌≤◌, List, [], ◌∷◌, ◌++◌, Some, sym, ap, ◌∙◌, subst, arith}
use Rattle.kms_host.specs.History.{History}
use Rattle.kms_host.specs.Moment.{then_calls}
use Rattle.kms_host.specs.declared.call.Call.{Call}
use Rattle.kms_host.specs.declared.call.Call.TheVariants.{Text, Listened, Came, Attached, Took, Gave, Shut, OnFile, Told, Drew}
use Rattle.kms_host.specs.declared.call.FileCall.TheVariants.{Measured, Read, Wrote, CutTo, Synced}
use Rattle.kms_host.proofs.Moments.{then_calls-calls}
use Rattle.kms_journal.specs.Cuts.{cuts}
use Rattle.kms_journal.specs.Raised.{IsRaised}
use Rattle.kms_journal.specs.Standing.{Standing, standing_of}
use Rattle.kms_journal.proofs.OpeningLaws.{some_is}

pub raised_by : (generation : ℕ) (was h : History) (two : List ℕ × List ℕ) (s : Standing) → standing_of two ≡ Some s
    → s.generation + cuts was.calls ≤ generation + cuts h.calls → generation + cuts h.calls ≤ s.generation + cuts was.calls + 1 → IsRaised generation was h two
raised_by generation was h two s is low high = record {
  raised = λ t e.
      subst (λ (x : Standing). (x.generation + cuts was.calls ≤ generation + cuts h.calls) × (generation + cuts h.calls ≤ x.generation + cuts was.calls + 1)) (some_is s t (sym is ∙ e)) (low, high);
}

-- from an earlier moment on, at which it was lower by the cuts in between
pub raised_since : (first generation : ℕ) (was mid h : History) (two : List ℕ × List ℕ) → generation + cuts was.calls ≡ first + cuts mid.calls → IsRaised generation mid h two → IsRaised first was h two
raised_since first generation was mid h two same k = record {
  raised = λ t e. let r = k.raised t e in (omega (arith, r.0, same), omega (arith, r.1, same));
}

-- The cuts of two spans of calls are those of the one and the other.
pub cuts-append : (late early : List Call) → cuts (late ++ early) ≡ cuts late + cuts early
cuts-append [] early = omega arith
cuts-append (Text name room bytes ∷ late) early = cuts-append late early
cuts-append (Listened address done ∷ late) early = cuts-append late early
cuts-append (Came line ∷ late) early = cuts-append late early
cuts-append (Attached name done ∷ late) early = cuts-append late early
cuts-append (Took l room bytes ∷ late) early = cuts-append late early
cuts-append (Gave l piece went ∷ late) early = cuts-append late early
cuts-append (Shut l ∷ late) early = cuts-append late early
cuts-append (OnFile file (Measured size) ∷ late) early = cuts-append late early
cuts-append (OnFile file (Read at room bytes) ∷ late) early = cuts-append late early
cuts-append (OnFile file (Wrote at piece left) ∷ late) early = cuts-append late early
cuts-append (OnFile file (CutTo size left) ∷ late) early = omega (arith, cuts-append late early)
cuts-append (OnFile file (Synced done) ∷ late) early = cuts-append late early
cuts-append (Told t ∷ late) early = cuts-append late early
cuts-append (Drew purpose bytes ∷ late) early = cuts-append late early

pub cuts_since : (was : History) (calls : List Call) → cuts (then_calls was calls).calls ≡ cuts calls + cuts was.calls
cuts_since was calls = ap cuts (then_calls-calls was calls) ∙ cuts-append calls was.calls
