use Rattle.kms_model.proofs.SecretLaws.{found_live, not_expired}
use Rattle.kms_model.proofs.laws.a_secret_is_found_before_it_expires.Goals as goal

pub returns-clause-id : goal.returns-clause-id
returns-clause-id c = λ s id t row is. (found_live s id t row is).named

pub returns-clause-live : goal.returns-clause-live
returns-clause-live c = λ s id t row expiration is at. not_expired t row.expiration expiration (found_live s id t row is).live at
