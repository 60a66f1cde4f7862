use Rattle.std.proofs.Common.{sym, ◌∙◌}
use Rattle.kms_record.proofs.Codec.{some_is}
use Rattle.kms_record.proofs.GrammarLaws.{snapshot_again}
use Rattle.kms_record.proofs.laws.snapshot_has_one_reading.Goals as goal

pub returns : goal.returns
returns c = λ bytes a b is_a is_b. some_is a b (sym (snapshot_again bytes a is_a) ∙ snapshot_again bytes b is_b)
