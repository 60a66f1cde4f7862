use Rattle.std.proofs.Common.{ℕ, ◌-◌, List}
use Rattle.std.specs.Prelude.{not}
use Rattle.std.specs.Str.{bytes_eq}
use Rattle.kms_record.specs.AclReading.{are_apart}
use Rattle.kms_record.specs.Reading.{many, passing, name_at}
use Rattle.kms_record.proofs.PairwiseLaws.{IsTested}
use Rattle.kms_record.proofs.acl.read_apart.Given as goal

abbrev pub invariant-loop : goal.invariant-loop
invariant-loop l = IsTested (λ (a b : List ℕ). not (bytes_eq a b)) name_at l.users (l.count - l.counter) l.cursor (passing are_apart (many name_at l.count) l.fn.cursor)
