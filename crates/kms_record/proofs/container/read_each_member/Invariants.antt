use Rattle.std.proofs.Common.{◌≡◌, ◌-◌}
use Rattle.kms_record.specs.ContainerReading.{member_at}
use Rattle.kms_record.specs.Reading.{many}
use Rattle.kms_record.proofs.ManyLaws.{with_front}
use Rattle.kms_record.proofs.container.read_each_member.Given as goal

abbrev pub invariant-loop : goal.invariant-loop
invariant-loop l = with_front l.members (many member_at (l.count - l.counter) l.cursor) ≡ many member_at l.count l.fn.cursor
