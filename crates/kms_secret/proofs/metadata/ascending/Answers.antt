use Rattle.std.proofs.Common.{◌≡◌, ◌++◌, ◌∷◌, [], true, false, refl, sym, ap, ◌∙◌, append_assoc, ℕ, List}
use Rattle.std.specs.Vec.Iter.{into_iter_items}
use Rattle.kms_secret.specs.Ascending.{ascend, is_next}
use Rattle.kms_secret.proofs.AscendingLaws.{ascend-push, not_ascending, all_below}
use Rattle.kms_secret.proofs.metadata.ascending.Goals as goal

pub returns-then-not-is_next : goal.returns-then-not-is_next
returns-then-not-is_next c =
    let off : is_next c.loop-pair.kept c.in-Some.pair ≡ false = cc in
    let whole : c.loop-pair.kept ++ c.in-Some.pair ∷ into_iter_items c.next.new.self ≡ c.args.pairs.items =
    ap (λ (t : List (List ℕ × List ℕ)). c.loop-pair.kept ++ t) (sym c.in-Some.ensures.steps.0) ∙ c.loop-pair.invariant.all in
    let not : ascend c.args.pairs.items ≡ false = sym (ap ascend whole) ∙ not_ascending c.loop-pair.kept c.in-Some.pair (into_iter_items c.next.new.self) off in
    rw not refl

pub push-requires : goal.push-requires
push-requires c =
    let next : is_next c.loop-pair.kept c.in-Some.pair ≡ true = cc in
    all_below c.loop-pair.kept c.in-Some.pair c.loop-pair.invariant.up next

pub loop-pair-preserved : goal.loop-pair-preserved
loop-pair-preserved c =
    let next : is_next c.loop-pair.kept c.in-Some.pair ≡ true = cc in
    let whole : c.loop-pair.kept ++ c.in-Some.pair ∷ into_iter_items c.next.new.self ≡ c.args.pairs.items =
    ap (λ (t : List (List ℕ × List ℕ)). c.loop-pair.kept ++ t) (sym c.in-Some.ensures.steps.0) ∙ c.loop-pair.invariant.all in
    let put : c.push.new.self ≡ c.loop-pair.kept ++ c.in-Some.pair ∷ [] = c.in_ok-push.ensures.ok in
    record {
      all = rw (put, append_assoc) whole;
      up = rw put (ascend-push c.loop-pair.kept c.in-Some.pair c.loop-pair.invariant.up next);
    }
