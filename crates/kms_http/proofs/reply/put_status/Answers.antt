use Rattle.std.proofs.Common.{append_assoc}
use Rattle.kms_http.specs.Reply.{status_line}
use Rattle.kms_http.proofs.reply.put_status.Goals as goal

pub returns : goal.returns
unfolding status_line
returns c =
    rw (c.in_ok-push_all-5.ensures.ok, c.in_ok-push_all-4.ensures.ok, c.in_ok-push_all-3.ensures.ok, c.in_ok-push_all-2.ensures.ok, c.in_ok-push_all.ensures.ok, c.as_bytes.ensures.value, c.as_str.ensures, c.as_bytes-2.ensures.value, c.reason_of.ensures, c.code_of-code.ensures)
    (simp append_assoc)
