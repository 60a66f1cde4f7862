use Rattle.kms_box.proofs.RangeLaws.{container_in_range, member_in_range, consumer_in_range}
use Rattle.kms_box.proofs.laws.what_is_kept_is_in_range.Goals as goal

pub returns-clause-container : goal.returns-clause-container
returns-clause-container c = container_in_range

pub returns-clause-member : goal.returns-clause-member
returns-clause-member c = member_in_range

pub returns-clause-consumer : goal.returns-clause-consumer
returns-clause-consumer c = consumer_in_range
