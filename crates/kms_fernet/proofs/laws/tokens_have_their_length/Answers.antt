use Rattle.kms_fernet.proofs.LengthLaws.{token_length, within}
use Rattle.kms_fernet.proofs.laws.tokens_have_their_length.Goals as goal

pub returns-clause-length : goal.returns-clause-length
returns-clause-length c = token_length

pub returns-clause-within : goal.returns-clause-within
returns-clause-within c = within
