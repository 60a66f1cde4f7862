use Rattle.std.proofs.Common.{◌<◌, length, sym, ◌∙◌, arith}
use Rattle.std.proofs.lemmas.Bool.{eqb-false}
use Rattle.kms_host.proofs.FaultLaws.{never_falls_then, stops_then}
use Rattle.kms_host.proofs.Moments.{since_add, known_with_told}
use Rattle.kms_host.specs.Line.{IsOpen}
use Rattle.kms_serve.specs.Owed.{Gives}
use Rattle.kms_serve.proofs.GiveLaws.{Giving, giving_more, giving_failed, open_gave}
use Rattle.kms_serve.proofs.give.give_all.Goals as goal

pub returns-in_err-count-clause-given : goal.returns-in_err-count-clause-given
returns-in_err-count-clause-given g c =
    let left = eqb-false _ 0 (sym c.is_empty.ensures ∙ c.loop-rest-test.true) in
    let some : 0 < length c.loop-rest.rest.now = omega (arith, left) in
    since_add (λ was calls. Gives c.args.line c.args.bytes.now c.from_residual.result calls) c.loop-rest.invariant.given c.in_err-count.ensures.told
    (λ was calls h. giving_failed c.args.line c.args.bytes.now c.loop-rest.rest.now c.from_residual.result c.from_residual.ensures.0 some calls h)

pub loop-rest-preserved : goal.loop-rest-preserved
loop-rest-preserved g c =
    let left = eqb-false _ 0 (sym c.is_empty.ensures ∙ c.loop-rest-test.true) in
    let some : 0 < length c.loop-rest.rest.now = omega (arith, left) in
    record {
      given = rw c.split_at.ensures.back
          (since_add (λ was calls. Giving c.args.line c.args.bytes.now _ calls) c.loop-rest.invariant.given c.in_ok-count.ensures.told
          (λ was calls h. giving_more c.args.line c.in_ok-count.count c.args.bytes.now c.loop-rest.rest.now calls some h));
      unshut = known_with_told (IsOpen c.args.line) c.loop-rest.invariant.unshut c.in_ok-count.ensures.told
          (λ was now k is. open_gave c.args.line c.args.line c.loop-rest.rest.now was now _ is k);
      stops = stops_then c.loop-rest.invariant.stops c.in_ok-count.ensures.stops;
      later = never_falls_then c.loop-rest.invariant.later c.in_ok-count.ensures.cause.later;
    }
