use Rattle.std.proofs.Common.{IsUtf8}
use Rattle.kms_text.proofs.IdLemmas.{ok_of}
use Rattle.kms_text.proofs.TimeLemmas.{IsUtf8-time_text_of}
use Rattle.kms_json.proofs.writing.put_time.Goals as goal

pub unwrap-requires : goal.unwrap-requires
unwrap-requires c =
    let utf8 : IsUtf8 c.time_text-text.result = rw c.time_text-text.ensures (IsUtf8-time_text_of c.args.moment c.requires) in
    ok_of _ _ c.from_utf8.result c.from_utf8.ensures.cases (λ e q. q.0 utf8)
