use Rattle.std.proofs.Common.{ℕ, List, sym, subst}
use Rattle.std.specs.List.Sorted.{IsStrictlyIncreasing}
use Rattle.kms_page.proofs.CreationLaws.{filtered_rises}
use Rattle.kms_page.proofs.PlainLaws.{ordered_by_none}
use Rattle.kms_page.proofs.laws.no_key_is_the_order_of_creation.Goals as goal

pub returns-clause-same : goal.returns-clause-same
returns-clause-same c = ordered_by_none c.args.rows.now c.args.shown.now c.args.query.now c.requires

pub returns-clause-rising : goal.returns-clause-rising
returns-clause-rising c = λ up. subst (λ (l : List ℕ). IsStrictlyIncreasing l)
    (sym (ordered_by_none c.args.rows.now c.args.shown.now c.args.query.now c.requires))
    (filtered_rises c.args.rows.now c.args.shown.now c.args.query.now up)
