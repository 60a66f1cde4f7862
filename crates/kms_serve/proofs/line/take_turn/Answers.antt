use Rattle.std.proofs.Common.{refl}
use Rattle.kms_host.proofs.Moments.{since_weaker}
use Rattle.kms_serve.specs.Plan.{pipe_plan}
use Rattle.kms_serve.specs.RunStart.{FromStore}
use Rattle.kms_serve.specs.Owing.{EndedAt}
use Rattle.kms_serve.specs.declared.serving.Serving.{Serving}
use Rattle.kms_serve.specs.declared.status.Status.TheVariants as status
use Rattle.kms_serve.proofs.TakingLaws.{ended_out_of_memory}
use Rattle.kms_serve.proofs.TurnLaws.{taken_passed, taken_held}
use Rattle.kms_serve.proofs.line.take_turn.Goals as goal

pub serve_request-requires-clause-passed : goal.serve_request-requires-clause-passed
serve_request-requires-clause-passed g c =
    let reads = rw c.in-Ok-Message.field-0-is at c.in-Ok-Message.ensures.ok in
    let after : Serving = record { engine = c.args.s.now.engine; reader = c.next.new.self; routes = c.args.s.now.routes; count = c.args.s.now.count } in
    taken_passed c.args.s.now after c.in-Ok-Message.message reads.0 reads.1 refl c.requires.bounded

pub serve_request-requires-clause-held : goal.serve_request-requires-clause-held
serve_request-requires-clause-held g c =
    let reads = rw c.in-Ok-Message.field-0-is at c.in-Ok-Message.ensures.ok in
    let after : Serving = record { engine = c.args.s.now.engine; reader = c.next.new.self; routes = c.args.s.now.routes; count = c.args.s.now.count } in
    taken_held c.args.s.now after c.in-Ok-Message.message reads.0 c.requires.bounded

pub returns-in-Ok-Bad-clause-good : goal.returns-in-Ok-Bad-clause-good
returns-in-Ok-Bad-clause-good g c key_file store start good =
    let reads = rw c.in-Ok-Bad.field-0-is at c.in-Ok-Bad.ensures.ok in
    c.refuse.ensures.good key_file store start (rw reads.1 good)

pub returns-in-Ok-More-clause-good : goal.returns-in-Ok-More-clause-good
returns-in-Ok-More-clause-good g c key_file store start good =
    let reads = rw c.in-Ok-More.field-0-is at c.in-Ok-More.ensures.ok in
    c.take_more.ensures.good c.args.endpoint.now key_file store start (rw reads.1 good)

pub returns-in-Err-clause-good : goal.returns-in-Err-clause-good
returns-in-Err-clause-good g c key_file store start good =
    since_weaker (λ was calls. FromStore (pipe_plan store key_file c.args.endpoint.now) was (λ b. EndedAt b status.NoMemory calls)) good
    (λ was calls h found stands. ended_out_of_memory c.args.endpoint.now key_file store was found c.args.s.now calls (h found stands))
