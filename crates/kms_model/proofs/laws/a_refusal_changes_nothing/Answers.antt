use Rattle.kms_model.specs.Ask.{asked}
use Rattle.kms_model.proofs.AskLaws.{refused_answer, refused_state, refused_stores}
use Rattle.kms_model.proofs.laws.a_refusal_changes_nothing.Goals as goal

pub returns-clause-answer : goal.returns-clause-answer
returns-clause-answer c = λ s caller op t refusal is. refused_answer (asked s caller op t) refusal is

pub returns-clause-state : goal.returns-clause-state
returns-clause-state c = λ s caller op t refusal is. refused_state (asked s caller op t) refusal s is

pub returns-clause-stores : goal.returns-clause-stores
returns-clause-stores c = λ s caller op t refusal is. refused_stores (asked s caller op t) refusal is
