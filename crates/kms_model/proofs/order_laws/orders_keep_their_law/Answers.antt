use Rattle.kms_model.specs.Course.{course_from}
use Rattle.kms_model.proofs.OrderRuns.{orderly, sound_first}
use Rattle.kms_model.proofs.order_laws.orders_keep_their_law.Goals as goal

pub returns : goal.returns
returns c = λ s workers old_keys es ms apart fit. orderly (course_from s workers old_keys) es ms (sound_first s workers old_keys apart) fit
