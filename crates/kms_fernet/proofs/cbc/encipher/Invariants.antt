use Rattle.std.proofs.Common.{◌≡◌, ◌++◌, ◌*◌, ◌-◌, ◌/◌, length, take, drop}
use Rattle.kms_fernet.specs.Cbc.{cbc}
use Rattle.kms_fernet.proofs.CbcLaws.{chain}
use Rattle.kms_fernet.proofs.cbc.encipher.Given as goal

abbrev pub invariant-loop-i : goal.invariant-loop-i
invariant-loop-i l = record {
  len : length l.text ≡ length l.fn.text;
  done :
      take (16 * l.i) l.text ++ chain l.key l.before (length l.fn.text / 16 - l.i) (drop (16 * l.i) l.fn.text)
      ≡ cbc l.key l.iv l.fn.text;
  rest : drop (16 * l.i) l.text ≡ drop (16 * l.i) l.fn.text;
}
