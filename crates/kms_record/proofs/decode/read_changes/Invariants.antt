use Rattle.std.proofs.Common.{◌≡◌, ◌-◌}
use Rattle.kms_record.specs.GrammarReading.{change_at}
use Rattle.kms_record.specs.Reading.{many}
use Rattle.kms_record.proofs.ManyLaws.{with_front}
use Rattle.kms_record.proofs.decode.read_changes.Given as goal

abbrev pub invariant-loop : goal.invariant-loop
invariant-loop l = with_front l.step (many change_at (l.count - l.counter) l.cursor) ≡ many change_at l.count l.fn.cursor
