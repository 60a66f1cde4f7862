-- What holds of all that is kept after changes of the grammar that applied.
use Rattle.std.specs.Prelude.{◌≤◌, ◌^◌}
use Rattle.kms_kept.specs.Kept.{Kept}
use Rattle.kms_kept.specs.Rising.{IsRising}
use Rattle.kms_kept.specs.Apart.{AreIdsApart}
use Rattle.kms_kept.specs.Joined.{IsJoined}
use Rattle.kms_kept.specs.Once.{StandOnce}
use Rattle.kms_kept.specs.Orders.{AllNameApart}
use Rattle.kms_kept.specs.Named.{AreNamesGiven}
use Rattle.kms_kept.specs.KeyNumbers.{KeysAscend}
use Rattle.kms_kept.specs.Sealed.{AreUnderKeys}
use Rattle.kms_kept.specs.OfGrammar.{IsOfGrammar}

pub record IsSound (kept : Kept) : Type 0 where
  pub within : kept.state.ids ≤ 2 ^ 62
  pub rising : IsRising kept.state
  pub apart : AreIdsApart kept.state
  pub joined : IsJoined kept.state
  pub once : StandOnce kept.state
  pub orders : AllNameApart kept.state.orders
  pub named : AreNamesGiven kept.state
  pub keys : KeysAscend kept.keys
  pub sealed : AreUnderKeys kept
  pub grammar : IsOfGrammar kept
