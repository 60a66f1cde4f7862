-- A step whose changes are ready under one tag.
use Rattle.std.specs.Prelude.{◌≡◌, map}
use Rattle.std.specs.List.{AllByRecursion}
use Rattle.kms_store.specs.Ready.{TaggedChange}
use Rattle.kms_store.specs.ReadyStep.{TaggedStep}
use Rattle.kms_store.specs.declared.ready_step.ReadyStep.TheInside.{Inside}

abbrev pub tagged_step : Inside → TaggedStep
tagged_step r = record { tag = r.tag; changes = map (λ (ready : TaggedChange). ready.change) r.changes.items }

abbrev pub AreTagged : Inside → Type 0
AreTagged r = AllByRecursion (λ (ready : TaggedChange). ready.tag ≡ r.tag) r.changes.items
