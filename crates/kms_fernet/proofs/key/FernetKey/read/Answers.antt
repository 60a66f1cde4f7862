use Rattle.std.proofs.Common.{arith}
use Rattle.std.proofs.lemmas.List.{length-take}
use Rattle.kms_fernet.proofs.KeyLaws.{none_by_length, none_by_text, none_by_count}
use Rattle.kms_fernet.proofs.RoomLaws.{within_thirds}
use Rattle.kms_fernet.proofs.key.FernetKey.read.Goals as goal

pub decoded-requires : goal.decoded-requires
decoded-requires c = λ bytes is. omega (arith, within_thirds c.args.text.now bytes is, c.if-text-ne44.false)

pub returns-then-text-ne44 : goal.returns-then-text-ne44
returns-then-text-ne44 c = none_by_length c.args.text.now c.if-text-ne44.true

pub returns-in-None : goal.returns-in-None
returns-in-None c = none_by_text c.args.text.now c.in-None.ensures.spelled

pub returns-in-Some : goal.returns-in-Some
returns-in-Some c = none_by_count c.args.text.now _ c.in-Some.ensures.spelled
    (λ e. c.in-Some.field-0-test.1 (omega (arith, c.in-Some.ensures.within, e, length-take c.in-Some.field-0 c.decoded.new.room)))
