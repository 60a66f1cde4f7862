use Rattle.std.proofs.Common.{◌∙◌, ◌++◌, ap, codes}
use Rattle.kms_http.specs.Lines.{field}
use Rattle.kms_http.proofs.reply.put_media.Goals as goal

pub returns-in_ok-put_field : goal.returns-in_ok-put_field
returns-in_ok-put_field c =
    rw c.in-Some.is (c.in_ok-put_field.ensures ∙ ap (λ text. c.args.out.now ++ field (codes "Content-Type") text) c.media_text.ensures)
