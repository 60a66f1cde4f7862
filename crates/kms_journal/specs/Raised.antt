-- How the generation of a store rises: each cut of a file begins a new one.
use Rattle.std.specs.Prelude.{◌≡◌, ℕ, ◌+◌, ◌≤◌, List, Some}
use Rattle.kms_host.specs.History.{History}
use Rattle.kms_journal.specs.Cuts.{cuts}
use Rattle.kms_journal.specs.Standing.{Standing, standing_of}

-- The files stand for a generation that is higher than this one by the cuts since then. The newest of these may be one whose
-- generation isn't there yet.
pub record IsRaised (generation : ℕ) (was h : History) (two : List ℕ × List ℕ) : Type 0 where
  pub raised : (s : Standing) → standing_of two ≡ Some s
      → (s.generation + cuts was.calls ≤ generation + cuts h.calls) × (generation + cuts h.calls ≤ s.generation + cuts was.calls + 1)
