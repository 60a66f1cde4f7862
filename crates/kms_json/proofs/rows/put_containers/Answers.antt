use Rattle.std.proofs.Common.{◌+◌, ◌∷◌, List, map, drop, ap, arith, subst, sym, ◌∙◌}
use Rattle.std.proofs.lemmas.List.{drop_more}
use Rattle.kms_world.specs.declared.answer.ContainerView.{ContainerView}
use Rattle.kms_json.proofs.TokenLaws.{next}
use Rattle.kms_json.specs.Container.{container_data}
use Rattle.kms_json.specs.Tokens.{IsLeft, data_tokens, items_tokens}
use Rattle.kms_json.proofs.rows.put_containers.Goals as goal

pub loop-row-preserved : goal.loop-row-preserved
loop-row-preserved c =
    let rows = c.args.rows.now in
    let i = c.loop-row.row-index in
    let item = c.row-item.result in
    let shown = container_data c.args.endpoint.now in
    let all = items_tokens (map shown rows) in
    let here = drop_more rows i item (omega (arith, c.loop-row-test.true, c.loop-row.auto.row-index-end)) ∙ ap (λ (v : ContainerView). v ∷ drop (i + 1) rows) (sym c.row-item.is) in
    let left = subst (λ (rest : List ContainerView). IsLeft c.args.out.now c.loop-row.out (items_tokens (map shown rest)) all) here c.loop-row.invariant in
    next {xs = data_tokens (shown item)} {rest = items_tokens (map shown (drop (i + 1) rows))} left c.in_ok-write_container.ensures
