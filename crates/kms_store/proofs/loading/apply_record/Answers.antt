use Rattle.kms_store.proofs.StandsLaws.{broken_by}
use Rattle.kms_store.proofs.loading.apply_record.Goals as goal

pub returns-in-Some-clause-broken : goal.returns-in-Some-clause-broken
returns-in-Some-clause-broken c = λ broken. broken_by c.args.bytes.now c.in-Some.steps c.args.tables.now.kept (rw c.in-Some.is at c.in_ok-steps.ensures) (c.apply_steps.ensures.broken broken)
