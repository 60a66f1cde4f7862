-- Changes that are ready to be applied under a store's tag.
use Rattle.std.specs.Prelude.{ℕ, Bool, true, false}
use Rattle.kms_record.specs.declared.change.Change.{Change}
use Rattle.kms_record.specs.declared.change.Change.TheVariants.{ContainerPut}

abbrev pub puts_container : Change → Bool
puts_container (ContainerPut put) = true
puts_container change = false

pub record TaggedChange : Type 0 where
  pub tag : ℕ
  pub change : Change
