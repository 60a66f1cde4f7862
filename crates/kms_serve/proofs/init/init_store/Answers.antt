use Rattle.kms_host.specs.Store.{IsAttached}
use Rattle.kms_host.proofs.Moments.{since_call, since_weaker, known_after_told, known_with_told}
use Rattle.kms_host.proofs.StoreLaws.{attached_by}
use Rattle.kms_journal.proofs.ReadingLaws.{attached_after}
use Rattle.kms_serve.proofs.InitLaws.{not_named, not_looked, since_looked, there_is_one, not_drawn, since_drawn, since_created, attached_drawn}
use Rattle.kms_serve.proofs.init.init_store.Goals as goal

pub returns-in-Err-clause-made : goal.returns-in-Err-clause-made
returns-in-Err-clause-made g c =
    rw c.naming_status.ensures
    (since_weaker _ (since_call c.in-Err.ensures.told) (λ was calls is. not_named c.args.store.now c.in-Err.fault was calls is))

pub returns-in_default-clause-made : goal.returns-in_default-clause-made
returns-in_default-clause-made g c = not_looked c.args.store.now c.in-Ok.ensures.told c.in_default.ensures.told c.in_default.ensures.failed

pub returns-then-found-clause-made : goal.returns-then-found-clause-made
returns-then-found-clause-made g c =
    there_is_one c.in-Ok-living.found c.args.store.now c.if-found.true
    (since_looked c.in-Ok-living.found c.args.store.now c.in-Ok.ensures.told c.in-Ok-living.ensures.told c.in-Ok-living.ensures.failed)

pub returns-in_default-draw_tag-clause-made : goal.returns-in_default-draw_tag-clause-made
returns-in_default-draw_tag-clause-made g c =
    not_drawn c.in-Ok-living.found c.args.store.now c.if-found.false
    (since_looked c.in-Ok-living.found c.args.store.now c.in-Ok.ensures.told c.in-Ok-living.ensures.told c.in-Ok-living.ensures.failed) c.in_default-draw_tag.ensures.told

pub create-requires-clause-attached : goal.create-requires-clause-attached
create-requires-clause-attached g c =
    let first = known_after_told IsAttached c.in-Ok.ensures.told (λ was now is. attached_by c.args.store.now was now is) in
    let second = known_with_told IsAttached first c.in-Ok-living.ensures.told (λ was now a l. attached_after was now l.throughout a) in
    known_with_told IsAttached second c.draw_tag.ensures.told (λ was now a d. attached_drawn c.draw_tag.result was now a d)

pub returns-clause-made : goal.returns-clause-made
returns-clause-made g c =
    let looked = since_looked c.in-Ok-living.found c.args.store.now c.in-Ok.ensures.told c.in-Ok-living.ensures.told c.in-Ok-living.ensures.failed in
    let ready = since_drawn c.in-Ok-living.found c.args.store.now c.in-Ok-draw_tag.tag c.if-found.false looked c.in-Ok-draw_tag.ensures.told in
    rw c.creation_status.ensures
    (since_created c.args.store.now c.in-Ok-draw_tag.tag c.create.result c.in-Ok-draw_tag.ensures.fits ready c.create.ensures.told c.create.ensures.failed)
