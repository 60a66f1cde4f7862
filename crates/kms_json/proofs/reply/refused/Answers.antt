use Rattle.std.proofs.Common.{refl}
use Rattle.kms_json.specs.Refused.{error_data}
use Rattle.kms_json.proofs.reply.refused.Goals as goal

pub returns : goal.returns
returns c = rw (c.status.ensures, c.allow.ensures, c.body.ensures (error_data c.args.refusal) c.in_ok-out.out c.in_ok-out.ensures.tokens c.in_ok-write_error.ensures) refl
