use Rattle.std.proofs.Common.{◌∙◌}
use Rattle.kms_http.proofs.DateLaws.{date_of_is}
use Rattle.kms_http.proofs.date.date_text.Goals as goal

pub returns : goal.returns
returns c =
    c.to_bytes.ensures
    ∙ date_of_is c.unwrap.result c.args.moment (rw c.unwrap.ensures at c.from_unix_secs.ensures.value) c.requires
