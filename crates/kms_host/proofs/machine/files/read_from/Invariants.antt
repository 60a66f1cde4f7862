use Rattle.std.proofs.Common.{◌≤◌, length}
use Rattle.kms_host.proofs.machine.files.read_from.Given as goal

abbrev pub invariant-loop : goal.invariant-loop
invariant-loop l = record { within : l.count ≤ length l.room }
