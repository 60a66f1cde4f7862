use Rattle.std.proofs.Common.{◌∙◌, inl, inr, ap, sym, length, arith, false, ◌≡◌, ◌<◌, List, ℕ, take}
use Rattle.std.specs.Prelude.{None}
use Rattle.std.proofs.lemmas.Bool.{cases_lt}
use Rattle.kms_journal.specs.Header.{is_header}
use Rattle.kms_journal.specs.Standing.{standing}
use Rattle.kms_journal.proofs.CurrentLaws.{too_short, no_header}
use Rattle.kms_journal.proofs.header.header_in.Goals as goal
use Rattle.kms_journal.proofs.header.header_in.Goals.{then-size-le50-via-then-size-le50, then-size-le50-via-else-size-le50+then-not-is_header}

nothing : (file : ℕ) (bytes head : List ℕ) → (50 < length bytes → head ≡ take 50 bytes) → is_header head ≡ false → standing file bytes ≡ None
nothing file bytes head first not = elim (cases_lt 50 (length bytes)) [
  | inl long ↦ no_header file bytes (ap is_header (sym (first long)) ∙ not)
  | inr short ↦ too_short file bytes short
]

pub returns-then-size-le50-clause-told : goal.returns-then-size-le50-clause-told
returns-then-size-le50-clause-told c = λ bytes size first.
    elim c.then-size-le50.branch [
      | then-size-le50-via-then-size-le50 w ↦ too_short c.args.file bytes (omega (arith, size, w.if-size-le50.true))
      | then-size-le50-via-else-size-le50+then-not-is_header w ↦ nothing c.args.file bytes c.args.head.now first (sym w.is_header.ensures ∙ w.if-not-is_header.true)
    ]
