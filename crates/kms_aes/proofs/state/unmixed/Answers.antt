use Rattle.kms_aes.specs.Cipher.{sum_of_four}
use Rattle.kms_aes.proofs.state.unmixed.Goals as goal

pub returns : goal.returns
unfolding sum_of_four
returns c = cc
