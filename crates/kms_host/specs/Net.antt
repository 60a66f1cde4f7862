-- A host whose lines are connections.
use Rattle.std.specs.Prelude.{ℕ, Option}
use Rattle.kms_host.specs.Faults.{Faults}

-- how many calls of each kind failed, and the port that it listens on, where it listens
pub record NetState : Type 0 where
  pub faults : Faults
  pub port : Option ℕ
