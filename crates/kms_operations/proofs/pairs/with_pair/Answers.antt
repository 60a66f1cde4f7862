use Rattle.std.proofs.Common.{◌++◌, ◌∷◌, [], List, ℕ, ap, append_assoc, sym, subst, ◌∙◌}
use Rattle.std.specs.Prelude.{filter}
use Rattle.kms_model.specs.Metadata.{with_pair}
use Rattle.kms_world.specs.Pairs.{is_below}
use Rattle.kms_operations.specs.Pairs.{AreAround, IsAfterAll}
use Rattle.kms_operations.proofs.PairLaws.{after_those, around}
use Rattle.kms_operations.proofs.pairs.with_pair.Goals as goal

pub push_copy-requires : goal.push_copy-requires
push_copy-requires c = subst (IsAfterAll c.args.pair.now) (sym c.in_ok-new.ensures) (after_those c.args.pair.now c.as_slice-old.result.now)

pub push_those_after-requires-clause-around : goal.push_those_after-requires-clause-around
push_those_after-requires-clause-around c =
    let pair = c.args.pair.now in
    subst (AreAround pair.0) (sym (c.in_ok-push_copy.ensures ∙ ap (λ (xs : List (List ℕ × List ℕ)). xs ++ pair ∷ []) c.in_ok-new.ensures)) (around pair c.as_slice-old.result.now)

pub returns : goal.returns
returns c =
    let pair = c.args.pair.now in
    let before = filter (λ (p : List ℕ × List ℕ). is_below p.0 pair.0) c.as_slice-old.result.now in
    let after = filter (λ (p : List ℕ × List ℕ). is_below pair.0 p.0) c.as_slice-old.result.now in
    c.in_ok-push_those_after.ensures
    ∙ ap (λ (xs : List (List ℕ × List ℕ)). xs ++ after) (c.in_ok-push_copy.ensures ∙ ap (λ (xs : List (List ℕ × List ℕ)). xs ++ pair ∷ []) c.in_ok-new.ensures)
    ∙ append_assoc before (pair ∷ []) after ∙ ap (with_pair pair) c.as_slice-old.ensures.pairs
