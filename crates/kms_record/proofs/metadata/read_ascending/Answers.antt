use Rattle.std.proofs.Common.{◌≡◌, ℕ, ◌-◌, List, true, false, arith, sym, ◌∙◌, ap, refl}
use Rattle.std.specs.List.{list_all}
use Rattle.kms_world.specs.Pairs.{is_below}
use Rattle.kms_record.specs.MetadataReading.{pair_at, are_ascending}
use Rattle.kms_record.specs.Reading.{many, passing}
use Rattle.kms_record.proofs.PairwiseLaws.{tested_begins, tested_goes_on, tested_ends, tested_refuses, tested_is_done}
use Rattle.std.proofs.lemmas.Result.{err_from_is_err_and}
use Rattle.kms_record.proofs.metadata.read_ascending.Goals as goal

pub loop-init : goal.loop-init
loop-init c =
    let e : c.args.count - 0 ≡ c.args.count = omega arith in
    rw (e, c.new-pairs.ensures) (record { passes = refl; so_far = tested_begins (λ (p q : List ℕ × List ℕ). is_below p.0 q.0) (many pair_at c.args.count c.args.cursor.now) })

pub returns-in_err-pair : goal.returns-in_err-pair
returns-in_err-pair c =
    let p = err_from_is_err_and c.from_residual.result c.from_residual.ensures.1 in
    rw (p.1, p.2) (tested_ends (λ (p q : List ℕ × List ℕ). is_below p.0 q.0) pair_at c.in_err-pair.field-0.0 c.loop.pairs c.args.count c.loop.counter c.loop.cursor (passing are_ascending (many pair_at c.args.count) c.args.cursor.now) c.loop-test.true c.in_err-pair.ensures c.loop.invariant)

pub returns-then-not-are_below : goal.returns-then-not-are_below
returns-then-not-are_below c =
    let fails : list_all (λ (p : List ℕ × List ℕ). is_below p.0 c.in_ok-pair.pair.0) c.loop.pairs ≡ false = ap (list_all (λ (p : List ℕ × List ℕ). is_below p.0 c.in_ok-pair.pair.0)) (sym c.as_slice.ensures.pairs) ∙ sym c.are_below.ensures ∙ c.if-not-are_below.true in
    tested_refuses (λ (p q : List ℕ × List ℕ). is_below p.0 q.0) pair_at c.loop.pairs c.args.count c.loop.counter c.loop.cursor c.in_ok-pair.pair c.read_pair.new.cursor (passing are_ascending (many pair_at c.args.count) c.args.cursor.now) c.loop-test.true c.in_ok-pair.ensures fails c.loop.invariant

pub loop-preserved : goal.loop-preserved
loop-preserved c =
    let all : list_all (λ (p : List ℕ × List ℕ). is_below p.0 c.in_ok-pair.pair.0) c.loop.pairs ≡ true = ap (list_all (λ (p : List ℕ × List ℕ). is_below p.0 c.in_ok-pair.pair.0)) (sym c.as_slice.ensures.pairs) ∙ sym c.are_below.ensures ∙ c.if-not-are_below.false in
    rw c.in_ok-push.ensures.ok (tested_goes_on (λ (p q : List ℕ × List ℕ). is_below p.0 q.0) pair_at c.loop.pairs c.args.count c.loop.counter c.loop.cursor c.in_ok-pair.pair c.read_pair.new.cursor (passing are_ascending (many pair_at c.args.count) c.args.cursor.now) c.loop-test.true c.in_ok-pair.ensures all c.loop.invariant)

pub returns : goal.returns
returns c = tested_is_done (λ (p q : List ℕ × List ℕ). is_below p.0 q.0) pair_at c.loop.pairs c.args.count c.loop.counter c.loop.cursor (passing are_ascending (many pair_at c.args.count) c.args.cursor.now) c.loop-test.false c.loop.invariant
