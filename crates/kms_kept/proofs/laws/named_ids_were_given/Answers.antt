use Rattle.kms_kept.proofs.NamedLaws.{change_named}
use Rattle.kms_kept.proofs.laws.named_ids_were_given.Goals as goal

pub returns : goal.returns
returns c = change_named
