use Rattle.kms_sealing.proofs.UniqueLaws.{open_is_no_refusal, one_refusal}
use Rattle.kms_sealing.proofs.laws.an_opening_has_one_answer.Goals as goal

pub returns-clause-open : goal.returns-clause-open
returns-clause-open c = open_is_no_refusal

pub returns-clause-once : goal.returns-clause-once
returns-clause-once c = one_refusal
