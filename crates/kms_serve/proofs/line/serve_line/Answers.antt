use Rattle.std.proofs.Common.{refl, ap, arith, length}
use Rattle.kms_host.proofs.FaultLaws.{never_falls_same, never_falls_then, stops_same, stops_then}
use Rattle.kms_host.proofs.Moments.{since_weaker}
use Rattle.kms_serve.specs.Plan.{pipe_plan}
use Rattle.kms_serve.specs.RunStart.{FromStore}
use Rattle.kms_serve.specs.Owing.{EndedAt}
use Rattle.kms_serve.specs.Turns.{serving_of}
use Rattle.kms_serve.specs.declared.serving.Serving.{Serving}
use Rattle.kms_serve.specs.declared.status.Status.TheVariants as status
use Rattle.kms_serve.proofs.TakingLaws.{ended_out_of_memory}
use Rattle.kms_serve.proofs.TurnLaws.{bounded_first, buffer_length}
use Rattle.kms_serve.proofs.line.serve_line.Goals as goal

pub loop-status-init : goal.loop-status-init
loop-status-init g c =
    let s : Serving = record { engine = c.args.engine; reader = c.new-2.result; routes = tt; count = 0 } in
    record {
      good = λ key_file store start good. rw c.new-2.ensures good;
      idle = c.requires.idle;
      working = c.requires.working;
      ready = c.requires.ready;
      bounded = bounded_first s c.new-2.ensures refl;
      room = c.in-Ok.ensures;
      stops = stops_same _ _;
      later = never_falls_same _;
    }

pub returns-in_default-clause-ended : goal.returns-in_default-clause-ended
returns-in_default-clause-ended g c key_file store start good =
    since_weaker (λ was calls. FromStore (pipe_plan store key_file c.args.endpoint.now) was (λ b. EndedAt b status.NoMemory calls)) good
    (λ was calls h found stands. ended_out_of_memory c.args.endpoint.now key_file store was found (serving_of c.args.engine) calls (h found stands))

pub returns-in_default-new-clause-ended : goal.returns-in_default-new-clause-ended
returns-in_default-new-clause-ended g c key_file store start good =
    since_weaker (λ was calls. FromStore (pipe_plan store key_file c.args.endpoint.now) was (λ b. EndedAt b status.NoMemory calls)) good
    (λ was calls h found stands. ended_out_of_memory c.args.endpoint.now key_file store was found (serving_of c.args.engine) calls (h found stands))

pub loop-status-preserved : goal.loop-status-preserved
loop-status-preserved g c = record {
  good = λ key_file store start good. c.in-Went.ensures.good key_file store start (c.loop-status.invariant.good key_file store start good);
  idle = c.in-Went.ensures.idle refl;
  working = c.in-Went.ensures.working refl;
  ready = c.in-Went.ensures.ready refl;
  bounded = c.in-Went.ensures.goes.bounded;
  room =
      buffer_length c.loop-status.room.len c.take_turn.new.room c.loop-status.room.items (omega (arith, c.loop-status.room.ok))
      (omega (arith, c.take_turn.auto.room, ap length c.deref_mut.ensures.value)) c.loop-status.invariant.room;
  stops = stops_then c.loop-status.invariant.stops c.in-Went.ensures.stops;
  later = never_falls_then c.loop-status.invariant.later c.in-Went.ensures.causes.later;
}

pub returns-in-Ended-clause-stops : goal.returns-in-Ended-clause-stops
returns-in-Ended-clause-stops g c = stops_then c.loop-status.invariant.stops c.in-Ended.ensures.stops
