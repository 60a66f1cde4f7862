use Rattle.std.proofs.Common.{◌∙◌, ap, List, ℕ}
use Rattle.kms_host.specs.Memory.{sent_on}
use Rattle.kms_host.proofs.memory.host.MemoryHost.sent.Goals as goal

pub returns-clause-told : goal.returns-clause-told
returns-clause-told c =
    rw (← c.self.view_is)
    (record { told = λ h is. c.sent_to.ensures ∙ ap (λ (l : List (ℕ × List ℕ)). sent_on c.args.line l) c.deref.ensures.value ∙ (c.self.invariant.told h is).sent_is c.args.line })
