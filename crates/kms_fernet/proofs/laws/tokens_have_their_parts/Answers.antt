use Rattle.kms_fernet.proofs.Unique.{token_parts}
use Rattle.kms_fernet.proofs.laws.tokens_have_their_parts.Goals as goal

pub returns : goal.returns
returns c = λ key plain iv text moment is_key is_plain is_iv in_range is_token. token_parts key plain iv text moment is_key is_plain is_iv is_token
