use Rattle.kms_host.proofs.Moments.{tells_weaker}
use Rattle.kms_core.proofs.StartLaws.{refused}
use Rattle.kms_core.proofs.start.open.Goals as goal

pub returns-in-Err-clause-told : goal.returns-in-Err-clause-told
returns-in-Err-clause-told g c = tells_weaker _ c.in-Err.ensures.told (λ was now o. refused c.in-Err.fault c.refusal.result was now c.refusal.ensures o)
