use Rattle.std.proofs.Common.{length, take, sym, arith}
use Rattle.std.proofs.lemmas.List.{length-take}
use Rattle.std.proofs.lemmas.Result.{IfOk-weaker}
use Rattle.kms_http.specs.HeadEnd.{head_limit}
use Rattle.kms_http.specs.MessageFound.{IsFound, IsFoundAfter}
use Rattle.kms_http.specs.Messages.{with_head}
use Rattle.kms_http.proofs.HeadLaws.{head_len-bounds}
use Rattle.kms_http.proofs.MessageFrontLaws.{found-parted}
use Rattle.kms_http.proofs.message_front.read_front.Goals as goal

pub with_head-requires : goal.with_head-requires
with_head-requires c =
    let bounds = head_len-bounds (take head_limit c.args.bytes.now) c.in-Some.n (sym c.in-Some.ensures.value) in
    omega (arith, bounds.1, length-take head_limit c.args.bytes.now, c.split_at.ensures.front_len)

pub returns-in-Some : goal.returns-in-Some
returns-in-Some c =
    let head = c.split_at.result.0.now in
    let rest = c.split_at.result.1.now in
    IfOk-weaker c.with_head.result (λ f. IsFoundAfter f (length head) (with_head head) rest) (λ f. IsFound f c.args.bytes.now)
    (λ f h. found-parted f c.args.bytes.now head rest c.in-Some.n (sym c.in-Some.ensures.value) c.split_at.ensures.front c.split_at.ensures.back c.split_at.ensures.front_len h)
    c.with_head.ensures
