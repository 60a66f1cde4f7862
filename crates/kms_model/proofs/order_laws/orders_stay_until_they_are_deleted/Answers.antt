use Rattle.kms_model.specs.Course.{course_from}
use Rattle.kms_model.proofs.OrderRuns.{sound_first, stays_of}
use Rattle.kms_model.proofs.order_laws.orders_stay_until_they_are_deleted.Goals as goal

pub returns : goal.returns
returns c = λ s workers old_keys es ms o apart fit is none.
    let last = stays_of (course_from s workers old_keys) es ms o (sound_first s workers old_keys apart) fit is none in
    (last.0, record { there = is; still = last.1; same = last.2 })
