use Rattle.kms_model.proofs.AlikeLaws.{asked_alike, refused_alike, shown_by_both}
use Rattle.kms_model.proofs.alike_laws.operations_see_no_payload.Goals as goal

pub returns-clause-same : goal.returns-clause-same
returns-clause-same c = asked_alike

pub returns-clause-refused : goal.returns-clause-refused
returns-clause-refused c = refused_alike

pub returns-clause-shown : goal.returns-clause-shown
returns-clause-shown c = shown_by_both
