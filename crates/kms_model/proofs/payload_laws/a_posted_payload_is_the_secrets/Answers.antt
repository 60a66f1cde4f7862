use Rattle.kms_world.specs.Effect.{with_payload}
use Rattle.kms_model.proofs.PayloadReading.{last_changed, same_id}
use Rattle.kms_model.proofs.payload_laws.a_posted_payload_is_the_secrets.Goals as goal

pub returns-clause-with : goal.returns-clause-with
returns-clause-with c = λ s row t payload apart. last_changed row.id (with_payload t payload) row s.secrets (same_id row.id) apart
