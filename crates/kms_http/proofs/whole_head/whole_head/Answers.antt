use Rattle.std.proofs.Common.{◌≡◌, ℕ, ◌<◌, ◌≤◌, List, [], length, drop, ap, ◌∙◌, arith, subst}
use Rattle.std.proofs.lemmas.List.{append-nil, length-drop, drop_all}
use Rattle.httparse.specs.Grammar.{ReadsRequest, print_request}
use Rattle.httparse.proofs.GrammarLemmas.{request_unique}
use Rattle.kms_http.specs.Messages.{line_feeds}
use Rattle.std.specs.Str.{IsUtf8}
use Rattle.httparse.specs.Spans.{span_bytes}
use Rattle.kms_http.proofs.TokenLaws.{token_is_text}
use Rattle.kms_http.proofs.FeedLaws.{feeds-request}
use Rattle.kms_http.proofs.WholeHeadLaws.{read-is-head, no-head}
use Rattle.kms_http.proofs.whole_head.whole_head.Goals as goal

pub returns-else-spans-bytes : goal.returns-else-spans-bytes
returns-else-spans-bytes c = no-head c.args.bytes.now λ head reads.
    let spans = c.in-Ok-Complete.spans in
    let found = rw c.in-Ok-Complete.field-0-is at c.in-Ok-Complete.ensures.complete in
    let same = request_unique c.args.bytes.now found.0 head (drop spans.len c.args.bytes.now) [] found.1.reads reads in
    let within = rw c.in-Ok-Complete.field-0-is at c.in-Ok-Complete.ensures.within in
    let le : spans.len ≤ length c.args.bytes.now = within.section.len_fits in
    let gone : length (drop spans.len c.args.bytes.now) ≡ 0 = ap length same.1 in
    let all : spans.len ≡ length c.args.bytes.now = omega (arith, length-drop spans.len c.args.bytes.now) in
    c.if-spans-bytes.false all

pub returns-then-spans-bytes : goal.returns-then-spans-bytes
returns-then-spans-bytes c =
    let spans = c.in-Ok-Complete.spans in
    let found = rw c.in-Ok-Complete.field-0-is at c.in-Ok-Complete.ensures.complete in
    let within = rw c.in-Ok-Complete.field-0-is at c.in-Ok-Complete.ensures.within in
    let rest : drop spans.len c.args.bytes.now ≡ [] = drop_all spans.len c.args.bytes.now (omega (arith, c.if-spans-bytes.true)) in
    let reads : ReadsRequest c.args.bytes.now found.0 [] = subst (λ (t : List ℕ). ReadsRequest c.args.bytes.now found.0 t) rest found.1.reads in
    let method : IsUtf8 (span_bytes c.args.bytes.now spans.method) = rw found.1.method (token_is_text found.0.method reads.0.method.1) in
    let target : IsUtf8 (span_bytes c.args.bytes.now spans.path) = rw found.1.path reads.0.target_text in
    (within, method, target, found.0, read-is-head c.args.bytes.now found.0 reads, found.1)

pub returns-in-Ok-Partial : goal.returns-in-Ok-Partial
returns-in-Ok-Partial c = no-head c.args.bytes.now λ head reads.
    let none = rw c.in-Ok-Partial.field-0-is at c.in-Ok-Partial.ensures.partial in
    none head [] reads

pub returns-in-Err : goal.returns-in-Err
returns-in-Err c = no-head c.args.bytes.now λ head reads.
    let over : length c.args.headers.now < length head.fields = c.in-Err.ensures.no_room [] head [] (rw (append-nil c.args.bytes.now) reads) in
    let text : c.args.bytes.now ≡ print_request head = reads.1 ∙ append-nil (print_request head) in
    let feeds : line_feeds c.args.bytes.now ≡ line_feeds (print_request head) = ap line_feeds text in
    absurd (omega (arith, feeds-request head, c.requires))
