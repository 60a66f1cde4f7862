use Rattle.std.proofs.Common.{◌≡◌, ◌<◌, [], length, take, refl, sym, ◌∙◌, arith}
use Rattle.std.proofs.lemmas.Bool.{eqb-true, eqb-false}
use Rattle.std.proofs.lemmas.List.{nil_from_length, length-take-le}
use Rattle.kms_host.specs.Line.{IsOpen}
use Rattle.kms_host.proofs.Moments.{since_add, since_two, known_weaker, known_with_told}
use Rattle.kms_serve.specs.declared.serving.Serving.{Serving}
use Rattle.kms_serve.specs.declared.status.Status.TheVariants as status
use Rattle.kms_serve.specs.Plan.{pipe_plan}
use Rattle.kms_serve.specs.RunStart.{FromStore}
use Rattle.kms_serve.specs.Owing.{GoodAt, EndedAt}
use Rattle.kms_serve.proofs.TakingLaws.{good_took, ended_took_out_of_memory, ended_took_fault, ended_clean, ended_rest, filled_take}
use Rattle.kms_serve.specs.Turns.{CanServe}
use Rattle.kms_serve.proofs.PrepareLaws.{ready_took}
use Rattle.kms_serve.proofs.TurnLaws.{fed_more}
use Rattle.kms_serve.proofs.line.take_more.Goals as goal

pub returns-in_default-clause-good : goal.returns-in_default-clause-good
returns-in_default-clause-good g c endpoint key_file store start good =
    let size : length c.take.new.room ≡ 65536 = omega (arith, c.take.auto.room, c.requires.room) in
    since_add (λ was calls. FromStore (pipe_plan store key_file endpoint) was (λ b. EndedAt b status.LinkFault calls)) good c.in_default.ensures.told
    (λ was calls h found stands. ended_took_fault endpoint key_file store was found c.args.s.now _ calls size c.requires.part (h found stands))

pub returns-then-is_empty-clause-good : goal.returns-then-is_empty-clause-good
returns-then-is_empty-clause-good g c endpoint key_file store start good =
    let size : length c.take.new.room ≡ 65536 = omega (arith, c.take.auto.room, c.requires.room) in
    let empty : c.args.s.now.reader.held ≡ [] = nil_from_length _ (eqb-true _ 0 (sym c.is_empty.ensures ∙ c.if-is_empty.true)) in
    since_two (λ was calls. FromStore (pipe_plan store key_file endpoint) was (λ b. EndedAt b status.Done calls)) good c.in-Ok.ensures.told c.shut.ensures.told
    (λ was x h found stands. ended_clean endpoint key_file store was found c.args.s.now _ _ x size (rw c.if-count-eq0.true refl) empty c.requires.part (h found stands))

pub returns-else-is_empty-clause-good : goal.returns-else-is_empty-clause-good
returns-else-is_empty-clause-good g c endpoint key_file store start good =
    let size : length c.take.new.room ≡ 65536 = omega (arith, c.take.auto.room, c.requires.room) in
    let filled = eqb-false _ 0 (sym c.is_empty.ensures ∙ c.if-is_empty.false) in
    let some : 0 < length c.args.s.now.reader.held = omega (arith, filled) in
    rw c.passed.ensures.value
    (since_two (λ was calls. FromStore (pipe_plan store key_file endpoint) was (λ b. EndedAt b (status.Rest c.args.s.now.reader.passed) calls)) good c.in-Ok.ensures.told c.shut.ensures.told
    (λ was x h found stands. ended_rest endpoint key_file store was found c.args.s.now _ _ x size (rw c.if-count-eq0.true refl) some c.requires.part (h found stands)))

pub returns-in-Ok-feed-clause-good : goal.returns-in-Ok-feed-clause-good
returns-in-Ok-feed-clause-good g c endpoint key_file store start good =
    let size : length c.take.new.room ≡ 65536 = omega (arith, c.take.auto.room, c.requires.room) in
    let after : Serving = record { engine = c.args.s.now.engine; reader = c.feed.new.self; routes = c.args.s.now.routes; count = c.args.s.now.count } in
    since_add (λ was calls. FromStore (pipe_plan store key_file endpoint) was (λ b. GoodAt b after calls)) good c.in-Ok.ensures.told
    (λ was x h found stands. good_took endpoint key_file store was found c.args.s.now after _ _ x size refl refl c.in-Ok-feed.ensures.ok c.requires.part (filled_take c.in-Ok.count c.take.new.room (omega (arith, c.if-count-eq0.false)) c.in-Ok.ensures.bound) (h found stands))

pub returns-in-Ok-feed-clause-goes : goal.returns-in-Ok-feed-clause-goes
returns-in-Ok-feed-clause-goes g c =
    let size : length c.take.new.room ≡ 65536 = omega (arith, c.take.auto.room, c.requires.room) in
    let taken : length (take c.in-Ok.count c.take.new.room) ≡ c.in-Ok.count = length-take-le c.in-Ok.count c.take.new.room c.in-Ok.ensures.bound in
    fed_more c.args.s.now _ _ refl c.in-Ok-feed.ensures.ok (omega (arith, taken, c.if-count-eq0.false)) (omega (arith, taken, size, c.in-Ok.ensures.bound)) c.requires.part c.requires.bounded

pub returns-in-Err-clause-good : goal.returns-in-Err-clause-good
returns-in-Err-clause-good g c endpoint key_file store start good =
    let size : length c.take.new.room ≡ 65536 = omega (arith, c.take.auto.room, c.requires.room) in
    since_add (λ was calls. FromStore (pipe_plan store key_file endpoint) was (λ b. EndedAt b status.NoMemory calls)) good c.in-Ok.ensures.told
    (λ was x h found stands. ended_took_out_of_memory endpoint key_file store was found c.args.s.now _ _ x size c.requires.part (filled_take c.in-Ok.count c.take.new.room (omega (arith, c.if-count-eq0.false)) c.in-Ok.ensures.bound) (h found stands))

pub take-requires-clause-open_line : goal.take-requires-clause-open_line
take-requires-clause-open_line g c = known_weaker (IsOpen 0) c.requires.ready (λ now k. k.unshut)

pub returns-in-Ok-feed-clause-ready : goal.returns-in-Ok-feed-clause-ready
returns-in-Ok-feed-clause-ready g c = λ went.
    known_with_told (CanServe c.args.s.now.engine) c.requires.ready c.in-Ok.ensures.told (λ was now k is. ready_took c.args.s.now.engine 0 _ _ was now k is)
