use Rattle.kms_model.specs.Course.{course_from}
use Rattle.kms_model.proofs.OrderRuns.{sound_first, sound_of}
use Rattle.kms_model.proofs.order_laws.workers_hold_pending_orders.Goals as goal

pub returns-clause-orders : goal.returns-clause-orders
returns-clause-orders c = λ s workers old_keys es ms apart fit. (sound_of (course_from s workers old_keys) es ms (sound_first s workers old_keys apart) fit).orders

pub returns-clause-pool : goal.returns-clause-pool
returns-clause-pool c = λ s workers old_keys es ms apart fit. (sound_of (course_from s workers old_keys) es ms (sound_first s workers old_keys apart) fit).pool
