-- What contracts see of a ring: its master keys, one at least.
use Rattle.std.specs.Prelude.{ℕ, ◌<◌, List, length}
use Rattle.kms_ring.specs.KeyFile.{AreKeys}
use Rattle.kms_ring.specs.declared.ring.Ring.TheInside.{Inside}

abbrev pub masters : Inside → List (List ℕ)
masters ring = ring.keys

pub record AreMasters (ring : Inside) : Type 0 where
  pub some : 0 < length ring.keys
  pub good : AreKeys ring.keys
