use Rattle.kms_model.proofs.SecretLaws.{is_posted}
use Rattle.kms_model.proofs.laws.a_posted_secret_takes_the_next_id.Goals as goal

pub returns-clause-last : goal.returns-clause-last
returns-clause-last c = λ s caller body t done apart is. let p = is_posted s caller body t done is in (p.new, p.checked, p.last apart)

pub returns-clause-ids : goal.returns-clause-ids
returns-clause-ids c = λ s caller body t done is. (is_posted s caller body t done is).ids

pub returns-clause-left : goal.returns-clause-left
returns-clause-left c = λ s caller body t done is. (is_posted s caller body t done is).left
