-- What contracts see of an engine.
use Rattle.std.specs.Prelude.{◌≤◌, ◌*◌, ◌^◌, length}
use Rattle.kms_kept.specs.Rising.{IsRising}
use Rattle.kms_sealing.specs.Opening.{IsOpen}
use Rattle.kms_sealing.specs.ProjectKeys.{AreOf}
use Rattle.kms_core.specs.Steps.{Held}
use Rattle.kms_core.specs.declared.engine.Engine.TheInside.{Inside}

abbrev pub held : Inside → Held
held e = record {
  masters = e.keys.masters;
  spare = e.keys.spare;
  store = record { journal = e.journal; stored = e.store };
}

-- Each staged step is short, the project keys are those of the wrapped keys, and what is kept opens to a state.
pub record IsSound (e : Inside) : Type 0 where
  pub short : length e.store.staging.steps ≤ 2 ^ 16 * e.store.staging.count
  pub keys : AreOf e.keys e.store.kept.keys
  pub opens : IsOpen e.keys.masters e.store.kept
  pub rising : IsRising e.store.kept.state
