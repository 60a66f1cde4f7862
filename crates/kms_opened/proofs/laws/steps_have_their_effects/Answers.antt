use Rattle.kms_opened.proofs.StepLaws.{delete_has, metadata_has, post_has, payload_has, key_first}
use Rattle.kms_opened.proofs.laws.steps_have_their_effects.Goals as goal

pub returns-clause-delete : goal.returns-clause-delete
returns-clause-delete c = delete_has

pub returns-clause-metadata : goal.returns-clause-metadata
returns-clause-metadata c = metadata_has

pub returns-clause-post : goal.returns-clause-post
returns-clause-post c = post_has

pub returns-clause-payload : goal.returns-clause-payload
returns-clause-payload c = payload_has

pub returns-clause-key : goal.returns-clause-key
returns-clause-key c = key_first
