use Rattle.std.proofs.Common.{refl, lit<}
use Rattle.kms_text.proofs.FormLemmas.{local_there, local_digit}
use Rattle.kms_text.proofs.time.read_second.Goals as goal

pub two_digits_at-requires-2 : goal.two_digits_at-requires-2
two_digits_at-requires-2 c = record {
  there = local_there c.args.text.now 15 c.requires (lit< tt);
  tens = local_digit c.args.text.now 14 c.requires refl;
  ones = local_digit c.args.text.now 15 c.requires refl;
}

pub two_digits_at-requires-3 : goal.two_digits_at-requires-3
two_digits_at-requires-3 c = record {
  there = local_there c.args.text.now 18 c.requires (lit< tt);
  tens = local_digit c.args.text.now 17 c.requires refl;
  ones = local_digit c.args.text.now 18 c.requires refl;
}
