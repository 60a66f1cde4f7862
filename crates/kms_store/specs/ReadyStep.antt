-- Steps that are ready to be applied.
use Rattle.std.specs.Prelude.{ℕ, List}
use Rattle.kms_record.specs.declared.change.Change.{Change}

-- the changes of a step, under the store's tag
pub record TaggedStep : Type 0 where
  pub tag : ℕ
  pub changes : List Change
