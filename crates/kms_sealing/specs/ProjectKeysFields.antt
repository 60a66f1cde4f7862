-- The fields of project keys.
use Rattle.std.specs.Prelude.{◌-◌, vec_len, vec_capacity}
use Rattle.kms_ring.specs.KeyFile.{AreKeys}
use Rattle.kms_sealing.specs.ProjectKeys.{Unwrapped}
use Rattle.kms_sealing.specs.declared.project_keys.ProjectKeys.TheInside.{Inside}

abbrev pub unwrapped : Inside → Unwrapped
unwrapped k = record { masters = k.ring; keys = k.keys.items; spare = vec_capacity k.keys - vec_len k.keys }

pub record HasMasters (k : Inside) : Type 0 where
  pub masters : AreKeys k.ring
