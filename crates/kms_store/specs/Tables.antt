-- What contracts see of tables.
use Rattle.std.specs.Prelude.{ℕ}
use Rattle.kms_kept.specs.Kept.{Kept}

-- what is kept, and for how many changes there is memory
pub record Tabled : Type 0 where
  pub kept : Kept
  pub spare : ℕ
