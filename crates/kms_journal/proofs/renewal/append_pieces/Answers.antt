use Rattle.std.proofs.Common.{◌≡◌, ◌∙◌, ◌+◌, ℕ, List, length, take, drop, ap, sym, subst, arith, false}
use Rattle.std.specs.Prelude.{Ok}
use Rattle.std.proofs.lemmas.List.{length-take-le}
use Rattle.std.proofs.lemmas.Result.{err_from_is_err_and}
use Rattle.kms_host.proofs.FaultLaws.{stops_then, never_falls_then}
use Rattle.kms_host.proofs.Moments.{tells_then, known_with_told}
use Rattle.kms_journal.specs.Renewal.{IsEnd, Appends}
use Rattle.kms_journal.specs.declared.fault.StoreFault.{StoreFault}
use Rattle.kms_journal.proofs.FaultLaws.{fails_then}
use Rattle.kms_journal.proofs.GrowingLaws.{grown_then, appended_then, appended_end, next_piece}
use Rattle.kms_journal.proofs.renewal.append_pieces.Goals as goal

pub returns-in_err-append-clause-told : goal.returns-in_err-append-clause-told
returns-in_err-append-clause-told g c =
    let r = err_from_is_err_and c.from_residual.result c.from_residual.ensures.1 in
    rw (r.1)
    (tells_then _ c.loop-done.invariant.told c.in_err-append.ensures.told
    (λ was mid now a b. record { throughout = grown_then c.args.file was mid now a.throughout b.throughout; done = tt }))

pub loop-done-preserved : goal.loop-done-preserved
loop-done-preserved g c =
    let file = c.args.file in
    let all = g.P.Pieces.left c.args.pieces.now in
    let done = c.loop-done.done in
    let n = c.piece-count.result in
    let front = take n c.piece-count.new.room in
    let size : length front ≡ n = length-take-le n c.piece-count.new.room c.piece-count.ensures.bound in
    let next = next_piece all front (g.P.Pieces.left c.piece-count.new.self) done (c.piece-count.ensures.given ∙ c.loop-done.invariant.left) (omega (arith, c.loop-done.invariant.within, c.requires.size)) in
    record {
      told = tells_then _ c.loop-done.invariant.told c.in_ok-append.ensures.told
          (λ was mid now a b.
          subst (λ (l : List ℕ). Appends {T = Unit {0}} {E = StoreFault} file l (Ok tt) was now) (sym next.0 ∙ ap (λ (k : ℕ). take (done + k) all) size)
          (appended_then file (take done all) front tt (Ok tt) was mid now a b));
      left = next.1 ∙ ap (λ (k : ℕ). drop (done + k) all) size;
      end = known_with_told _ c.loop-done.invariant.end c.in_ok-append.ensures.told
          (λ was now here b.
          subst (λ (k : ℕ). IsEnd file k now) (omega (arith, size)) (appended_end file (c.args.end + done) front tt was now here b));
      within = omega (arith, next.2, size, c.requires.size);
      most = omega (arith, c.in_ok-append.ensures.bound, size);
      room = omega (arith, c.piece-count.auto.room, c.loop-done.invariant.room);
      later = never_falls_then c.loop-done.invariant.later c.in_ok-append.ensures.cause.later;
      failed = fails_then false c.loop-done.invariant.failed c.in_ok-append.ensures.failed;
      stops = stops_then c.loop-done.invariant.stops c.append.ensures.stops;
    }
