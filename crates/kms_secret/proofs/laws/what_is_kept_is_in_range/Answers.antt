use Rattle.kms_secret.proofs.RangeLaws.{secret_in_range, payload_in_range, metadata_in_range, one_pair_in_range, order_in_range}
use Rattle.kms_secret.proofs.laws.what_is_kept_is_in_range.Goals as goal

pub returns-clause-secret : goal.returns-clause-secret
returns-clause-secret c = secret_in_range

pub returns-clause-payload : goal.returns-clause-payload
returns-clause-payload c = payload_in_range

pub returns-clause-metadata : goal.returns-clause-metadata
returns-clause-metadata c = metadata_in_range

pub returns-clause-pair : goal.returns-clause-pair
returns-clause-pair c = one_pair_in_range

pub returns-clause-order : goal.returns-clause-order
returns-clause-order c = order_in_range
