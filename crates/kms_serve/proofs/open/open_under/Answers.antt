use Rattle.std.proofs.Common.{refl}
use Rattle.kms_host.specs.declared.call.NameFault.TheVariants as names
use Rattle.kms_serve.specs.declared.status.Status.TheVariants as status
use Rattle.kms_serve.proofs.OpeningLaws.{unnamed, opened_by, refused_opening, ready_opened}
use Rattle.kms_serve.proofs.open.open_under.Goals as goal

pub returns-in-Err-Failed-clause-opens : goal.returns-in-Err-Failed-clause-opens
returns-in-Err-Failed-clause-opens g c = unnamed c.args.store.now c.args.ring names.Failed status.StoreFault (rw c.in-Err-Failed.field-0-is at c.in-Err-Failed.ensures.told) (λ was. refl)

pub returns-in-Err-NoMemory-clause-opens : goal.returns-in-Err-NoMemory-clause-opens
returns-in-Err-NoMemory-clause-opens g c = unnamed c.args.store.now c.args.ring names.NoMemory status.NoMemory (rw c.in-Err-NoMemory.field-0-is at c.in-Err-NoMemory.ensures.told) (λ was. refl)

pub returns-in-Ok-start-clause-opens : goal.returns-in-Ok-start-clause-opens
returns-in-Ok-start-clause-opens g c = opened_by c.args.store.now c.args.ring c.in-Ok-start.engine c.in-Ok.ensures.told c.in-Ok-start.ensures.told c.in-Ok-start.ensures.failed

pub returns-in-Ok-start-clause-ready : goal.returns-in-Ok-start-clause-ready
returns-in-Ok-start-clause-ready g c = ready_opened c.args.store.now c.args.ring c.in-Ok-start.engine c.requires.line c.in-Ok.ensures.told c.in-Ok-start.ensures.told

pub returns-in-Err-clause-opens : goal.returns-in-Err-clause-opens
returns-in-Err-clause-opens g c = refused_opening c.args.store.now c.args.ring c.in-Err.fault c.refusal.result c.refusal.ensures c.in-Ok.ensures.told c.in-Err.ensures.told c.in-Err.ensures.failed
