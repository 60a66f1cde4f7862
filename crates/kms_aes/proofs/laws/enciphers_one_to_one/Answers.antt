use Rattle.kms_aes.proofs.ByteLists.{encrypt_block}
use Rattle.kms_aes.proofs.Uniqueness.{encrypt-apart}
use Rattle.kms_aes.proofs.Existence.{encrypt-made}
use Rattle.kms_aes.proofs.laws.enciphers_one_to_one.Goals as goal

pub returns : goal.returns
returns c = record { block = encrypt_block; apart = encrypt-apart; onto = encrypt-made }
