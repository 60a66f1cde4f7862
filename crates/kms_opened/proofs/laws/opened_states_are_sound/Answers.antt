use Rattle.kms_opened.proofs.StateLaws.{rising_opened, payloads_fit}
use Rattle.kms_opened.proofs.laws.opened_states_are_sound.Goals as goal

pub returns-clause-rising : goal.returns-clause-rising
returns-clause-rising c = rising_opened

pub returns-clause-payloads : goal.returns-clause-payloads
returns-clause-payloads c = payloads_fit
