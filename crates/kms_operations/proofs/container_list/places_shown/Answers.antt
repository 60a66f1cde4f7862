use Rattle.std.proofs.Common.{◌≡◌, ◌+◌, ◌<◌, List, length, true, false, ap, subst, sym, ◌∙◌, arith}
use Rattle.kms_model.specs.Lists.{shows_container}
use Rattle.kms_world.specs.declared.container.ContainerRow.{ContainerRow}
use Rattle.kms_operations.specs.Places.{AreThose}
use Rattle.kms_operations.proofs.ListLaws.{places_more, places_same}
use Rattle.kms_operations.proofs.container_list.places_shown.Goals as goal
use Rattle.kms_operations.proofs.container_list.places_shown.Goals.{then-is_shown+in_ok-push, else-is_shown}

pub loop-place-preserved : goal.loop-place-preserved
loop-place-preserved c =
    let test = shows_container c.args.rows.now.kept.state c.args.caller.now in
    let rows = c.containers-containers.result.now in
    let place = c.loop-place.place in
    let row = c.index-containers-place.result in
    let those : AreThose test rows place c.loop-place.places.items = subst (λ (l : List ContainerRow). AreThose test l place c.loop-place.places.items) (sym c.containers-containers.ensures) c.loop-place.invariant in
    let here : place < length rows = omega arith in
    elim c.if-is_shown.branch [
      | then-is_shown+in_ok-push w ↦
          let passes : test row ≡ true = sym c.is_shown.ensures ∙ w.if-is_shown.true in
          let items = ap (λ v. v.items) w.places-is ∙ w.in_ok-push.ensures.items in
          subst (λ (l : List ContainerRow). AreThose test l (place + 1) c.if-is_shown.places.items) c.containers-containers.ensures (subst (AreThose test rows (place + 1)) (sym items) (places_more test rows place c.loop-place.places.items row those here c.index-containers-place.is passes))
      | else-is_shown w ↦
          let fails : test row ≡ false = sym c.is_shown.ensures ∙ w.if-is_shown.false in
          let items = ap (λ v. v.items) w.places-is in
          subst (λ (l : List ContainerRow). AreThose test l (place + 1) c.if-is_shown.places.items) c.containers-containers.ensures (subst (AreThose test rows (place + 1)) (sym items) (places_same test rows place c.loop-place.places.items row those here c.index-containers-place.is fails))
    ]
