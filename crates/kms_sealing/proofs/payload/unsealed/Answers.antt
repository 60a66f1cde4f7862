use Rattle.kms_sealing.proofs.PayloadLaws.{fits_ok, fits_not}
use Rattle.kms_sealing.proofs.payload.unsealed.Goals as goal

pub returns-in-Ok : goal.returns-in-Ok
returns-in-Ok c = record {
  ok = fits_ok c.args.key.now c.args.token.now c.in-Ok.bytes c.fitting.result c.in-Ok.ensures.ok c.fitting.ensures.ok;
  err = fits_not c.args.key.now c.args.token.now c.in-Ok.bytes c.fitting.result c.in-Ok.ensures.only c.fitting.ensures.err;
}

pub returns-in-Err : goal.returns-in-Err
returns-in-Err c = record { ok = tt; err = λ apart bytes f. c.in-Err.ensures.none (c.fault_of.ensures apart) bytes f.opens }
