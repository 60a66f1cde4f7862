use Rattle.kms_aes.proofs.States.{joined_words}
use Rattle.kms_aes.proofs.state.joined.Goals as goal

pub returns : goal.returns
returns c = joined_words c.args.a.now c.args.b.now c.args.c.now c.args.d.now c.told-a c.told-b c.told-c c.told-d
