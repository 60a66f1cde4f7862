use Rattle.std.proofs.Common.{arith, refl}
use Rattle.kms_aes.proofs.MixLaws.{mixed_column-unmixed}
use Rattle.kms_aes.proofs.state.unmixed_column.Goals as goal

pub returns : goal.returns
returns c =
    let rule = mixed_column-unmixed c.args.a c.args.b c.args.c c.args.d (omega arith) (omega arith) (omega arith) (omega arith) in
    (refl, rw (c.unmixed.ensures, c.unmixed-2.ensures, c.unmixed-3.ensures, c.unmixed-4.ensures) rule)
