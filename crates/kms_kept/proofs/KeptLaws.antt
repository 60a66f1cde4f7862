-- What changes do, step by step.
use Rattle.std.proofs.Common.{◌≡◌, List, [], ◌∷◌, ◌++◌, Option, Some, None, refl}
use Rattle.std.specs.Prelude.{option_and_then}
use Rattle.kms_record.specs.declared.change.Change.{Change}
use Rattle.kms_kept.specs.Kept.{Kept, after_step, after_record}

pub onwards : {A : Type 0} (f g h : A → Option A) (o : Option A) → ((x : A) → f x ≡ option_and_then h (g x)) → option_and_then f o ≡ option_and_then h (option_and_then g o)
onwards {A} f g h None same = refl
onwards {A} f g h (Some x) same = same x

pub record-append : (a b : List (List Change)) (kept : Kept) → after_record (a ++ b) kept ≡ option_and_then (after_record b) (after_record a kept)
record-append [] b kept = refl
record-append (step ∷ steps) b kept = onwards (after_record (steps ++ b)) (after_record steps) (after_record b) (after_step step kept) (λ middle. record-append steps b middle)
