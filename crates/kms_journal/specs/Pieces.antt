-- A snapshot that is given piece by piece.
use Rattle.std.specs.Prelude.{ℕ, List}

pub record Snapshot : Type 0 where
  -- how many ids were given
  pub ids : ℕ
  -- how many steps it stands for
  pub steps : ℕ
  pub bytes : List ℕ
