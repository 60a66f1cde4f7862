use Rattle.std.proofs.Common.{refl}
use Rattle.kms_aes.specs.Cipher.{shift_rows}
use Rattle.kms_aes.proofs.state.shifted_rows.Goals as goal

pub returns : goal.returns
unfolding shift_rows
returns c = refl
