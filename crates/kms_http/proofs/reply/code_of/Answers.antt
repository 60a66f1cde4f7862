use Rattle.http.specs.StatusCode.{IsStatusCode}
use Rattle.kms_http.proofs.StatusLaws.{is_code, ok_when}
use Rattle.kms_http.proofs.reply.code_of.Goals as goal

pub unwrap-requires : goal.unwrap-requires
unwrap-requires c = ok_when c.from_u16.result (IsStatusCode c.args.status) c.args.status c.from_u16.ensures (is_code c.args.status c.requires)
