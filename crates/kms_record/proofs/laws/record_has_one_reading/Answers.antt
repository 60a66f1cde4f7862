use Rattle.std.proofs.Common.{sym, ◌∙◌}
use Rattle.kms_record.proofs.Codec.{some_is}
use Rattle.kms_record.proofs.GrammarLaws.{record_again}
use Rattle.kms_record.proofs.laws.record_has_one_reading.Goals as goal

pub returns : goal.returns
returns c = λ bytes a b is_a is_b. some_is a b (sym (record_again bytes a is_a) ∙ record_again bytes b is_b)
