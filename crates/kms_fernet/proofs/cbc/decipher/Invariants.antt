use Rattle.std.proofs.Common.{◌≡◌, ◌+◌, ◌*◌, length, take, drop}
use Rattle.kms_fernet.proofs.CbcLaws.{Deciphered}
use Rattle.kms_fernet.proofs.cbc.decipher.Given as goal

abbrev pub invariant-loop-i : goal.invariant-loop-i
invariant-loop-i l = record {
  len : length l.room ≡ length l.fn.room;
  done : Deciphered l.key l.iv (drop l.from l.fn.room) l.before (take (16 * l.i) l.room) l.i;
  rest : drop (l.from + 16 * l.i) l.room ≡ drop (l.from + 16 * l.i) l.fn.room;
}
