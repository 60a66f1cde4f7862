use Rattle.std.proofs.Common.{◌≡◌, ◌+◌, ◌<◌, length, true, false, ap, subst, sym, ◌∙◌, arith}
use Rattle.kms_world.specs.Id.{is_id}
use Rattle.kms_world.specs.declared.container.ConsumerRow.{ConsumerRow}
use Rattle.kms_operations.specs.Places.{AreThose}
use Rattle.kms_operations.proofs.ListLaws.{places_more, places_same}
use Rattle.kms_operations.proofs.consumer_list.places_of.Goals as goal
use Rattle.kms_operations.proofs.consumer_list.places_of.Goals.{then-is_of+in_ok-push, else-is_of}

pub loop-place-preserved : goal.loop-place-preserved
loop-place-preserved c =
    let test = λ (r : ConsumerRow). is_id c.args.id r.container in
    let rows = c.args.consumers.now in
    let place = c.loop-place.place in
    let row = c.index-consumers-place.result in
    let those : AreThose test rows place c.loop-place.places.items = c.loop-place.invariant in
    let here : place < length rows = omega arith in
    elim c.if-is_of.branch [
      | then-is_of+in_ok-push w ↦
          let passes : test row ≡ true = sym c.is_of.ensures ∙ w.if-is_of.true in
          let items = ap (λ v. v.items) w.places-is ∙ w.in_ok-push.ensures.items in
          (subst (AreThose test rows (place + 1)) (sym items) (places_more test rows place c.loop-place.places.items row those here c.index-consumers-place.is passes))
      | else-is_of w ↦
          let fails : test row ≡ false = sym c.is_of.ensures ∙ w.if-is_of.false in
          let items = ap (λ v. v.items) w.places-is in
          (subst (AreThose test rows (place + 1)) (sym items) (places_same test rows place c.loop-place.places.items row those here c.index-consumers-place.is fails))
    ]
