use Rattle.kms_http.proofs.AllowLaws.{put_items}
use Rattle.kms_http.proofs.allow.put_allow.Goals as goal

pub returns : goal.returns
returns c =
    put_items c.args.out.now c.args.allow c.in_ok-first.first c.in_ok-first-2.first c.in_ok-first-3.first c.in_ok-first-4.first
    c.in_ok-first.ensures.text c.in_ok-first.ensures.first
    c.in_ok-first-2.ensures.text c.in_ok-first-2.ensures.first
    c.in_ok-first-3.ensures.text c.in_ok-first-3.ensures.first
    c.in_ok-first-4.ensures.text c.in_ok-first-4.ensures.first
    c.in_ok-put_method.ensures.text
