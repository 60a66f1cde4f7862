use Rattle.std.proofs.Common.{◌≡◌, ◌+◌, ◌*◌, take, drop}
use Rattle.kms_fernet.specs.Key.{base64url}
use Rattle.kms_fernet.proofs.sealing.encode_in_place.Given as goal

abbrev pub invariant-loop-i : goal.invariant-loop-i
invariant-loop-i l = record {
  done : take (64 * l.i) l.text ≡ base64url (take (48 * l.i) (drop l.from l.fn.text));
  rest : drop (l.from + 48 * l.i) l.text ≡ drop (l.from + 48 * l.i) l.fn.text;
}
