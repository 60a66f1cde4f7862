use Rattle.kms_text.proofs.FormLemmas.{is_form}
use Rattle.kms_text.proofs.form.is_of_form.Goals as goal

pub returns-then-form-text : goal.returns-then-form-text
returns-then-form-text c = is_form c.all_fit.result c.args.form.now c.args.text.now c.if-form-text.true c.all_fit.ensures
