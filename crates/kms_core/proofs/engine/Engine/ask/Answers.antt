use Rattle.std.proofs.Common.{refl, sym, ap, subst, inl, inr, ◌∙◌}
use Rattle.std.specs.Prelude.{is_some}
use Rattle.kms_host.proofs.Moments.{since_none, since_weaker}
use Rattle.kms_model.specs.Ask.{state_after}
use Rattle.kms_core.specs.Steps.{Held, HasState, Prepares}
use Rattle.kms_core.proofs.AskLaws.{ok_to, made_done, put_is, plan_shows, shown_is, refused_is, answered, left, stored, puts, puts_one, has_one, refused_answer, refused_state, refused_stores}
use Rattle.kms_core.proofs.SealedLaws.{asks_with_none}
use Rattle.kms_core.proofs.engine.Engine.ask.Goals as goal

pub show-requires : goal.show-requires
show-requires g c =
    let w = c.in-Ok-Shows in
    plan_shows c.args.self.now c.rows.result.now.kept c.args.caller.now c.args.op c.args.moment w.field-0 _ (c.rows.ensures.kept ∙ ap (λ (e : Held). e.store.stored.kept) c.self.view_is) w.field-0-is w.ensures.plans w.ensures.shows

pub returns-in-Ok-Shows-clause-answer : goal.returns-in-Ok-Shows-clause-answer
returns-in-Ok-Shows-clause-answer g c =
    let w = c.in-Ok-Shows in
    let same = c.rows.ensures.kept ∙ ap (λ (e : Held). e.store.stored.kept) c.self.view_is in
    ok_to _ _ c.show.result (λ a p s has. sym (answered s c.args.caller.now c.args.op c.args.moment _
    (shown_is c.args.self.now c.rows.result.now.kept c.args.caller.now c.args.op c.args.moment w.field-0 _ a.answer same w.field-0-is w.ensures.plans w.ensures.shows p s has))) c.show.ensures.answer

pub returns-in-Ok-Makes-clause-answer : goal.returns-in-Ok-Makes-clause-answer
returns-in-Ok-Makes-clause-answer g c =
    let w = c.in-Ok-Makes in
    let same = c.rows.ensures.kept ∙ ap (λ (e : Held). e.store.stored.kept) c.self.view_is in
    ok_to _ _ c.prepare.result (λ a e s has. e ∙ sym (answered s c.args.caller.now c.args.op c.args.moment _ (made_done c.args.self.now c.rows.result.now.kept c.args.caller.now c.args.op c.args.moment w.field-0 w.outcome same w.field-0-is w.ensures.plans w.ensures.shows s has))) c.prepare.ensures.answer

pub returns-in-Ok-Makes-clause-step : goal.returns-in-Ok-Makes-clause-step
returns-in-Ok-Makes-clause-step g c =
    let w = c.in-Ok-Makes in
    let same = c.rows.ensures.kept ∙ ap (λ (e : Held). e.store.stored.kept) c.self.view_is in
    ok_to _ _ c.prepare.result (λ a p s has. subst (λ x. Prepares a.step c.prepare.new.self x) (sym (left s c.args.caller.now c.args.op c.args.moment _ (made_done c.args.self.now c.rows.result.now.kept c.args.caller.now c.args.op c.args.moment w.field-0 w.outcome same w.field-0-is w.ensures.plans w.ensures.shows s has))) (p s has)) c.prepare.ensures.step

pub returns-in-Ok-Makes-clause-stores : goal.returns-in-Ok-Makes-clause-stores
returns-in-Ok-Makes-clause-stores g c =
    let w = c.in-Ok-Makes in
    let same = c.rows.ensures.kept ∙ ap (λ (e : Held). e.store.stored.kept) c.self.view_is in
    ok_to _ _ c.prepare.result (λ a e s has. e ∙ sym (stored s c.args.caller.now c.args.op c.args.moment _ (made_done c.args.self.now c.rows.result.now.kept c.args.caller.now c.args.op c.args.moment w.field-0 w.outcome same w.field-0-is w.ensures.plans w.ensures.shows s has))) c.prepare.ensures.stores

pub returns-in-Ok-Makes-clause-told : goal.returns-in-Ok-Makes-clause-told
returns-in-Ok-Makes-clause-told g c = since_none _ _ (λ was. record { made = asks_with_none c.args.self.now c.args.moment c.prepare.result c.prepare.ensures.made c.prepare.ensures.err; sizes = tt; needed = inl refl })

pub returns-in-Ok-Puts-clause-answer : goal.returns-in-Ok-Puts-clause-answer
returns-in-Ok-Puts-clause-answer g c =
    let w = c.in-Ok-Puts in
    let same = c.rows.ensures.kept ∙ ap (λ (e : Held). e.store.stored.kept) c.self.view_is in
    ok_to _ _ c.put.result (λ a e s has. e ∙ sym (answered s c.args.caller.now c.args.op c.args.moment _ (put_is c.args.self.now c.rows.result.now.kept c.args.caller.now c.args.op c.args.moment w.field-0 w.new same w.field-0-is w.ensures.plans w.ensures.shows s has))) c.put.ensures.answer

pub returns-in-Ok-Puts-clause-step : goal.returns-in-Ok-Puts-clause-step
returns-in-Ok-Puts-clause-step g c =
    let w = c.in-Ok-Puts in
    let same = c.rows.ensures.kept ∙ ap (λ (e : Held). e.store.stored.kept) c.self.view_is in
    ok_to _ _ c.put.result (λ a p s has. subst (λ x. Prepares a.step c.put.new.self x) (sym (left s c.args.caller.now c.args.op c.args.moment _ (put_is c.args.self.now c.rows.result.now.kept c.args.caller.now c.args.op c.args.moment w.field-0 w.new same w.field-0-is w.ensures.plans w.ensures.shows s has))) (p s has)) c.put.ensures.step

pub returns-in-Ok-Puts-clause-stores : goal.returns-in-Ok-Puts-clause-stores
returns-in-Ok-Puts-clause-stores g c =
    let w = c.in-Ok-Puts in
    let same = c.rows.ensures.kept ∙ ap (λ (e : Held). e.store.stored.kept) c.self.view_is in
    ok_to _ _ c.put.result (λ a e s has. e ∙ sym (has_one c.args.self.now.store.stored.kept.state.tag w.new) ∙ sym (stored s c.args.caller.now c.args.op c.args.moment _ (put_is c.args.self.now c.rows.result.now.kept c.args.caller.now c.args.op c.args.moment w.field-0 w.new same w.field-0-is w.ensures.plans w.ensures.shows s has))) c.put.ensures.stores

pub returns-in-Ok-Puts-clause-puts : goal.returns-in-Ok-Puts-clause-puts
returns-in-Ok-Puts-clause-puts g c = λ failed s has.
    let w = c.in-Ok-Puts in
    let same = c.rows.ensures.kept ∙ ap (λ (e : Held). e.store.stored.kept) c.self.view_is in
    puts s c.args.caller.now c.args.op c.args.moment _ (put_is c.args.self.now c.rows.result.now.kept c.args.caller.now c.args.op c.args.moment w.field-0 w.new same w.field-0-is w.ensures.plans w.ensures.shows s has) ∙ puts_one c.args.self.now.store.stored.kept.state.tag w.new

pub returns-in-Ok-Puts-clause-told : goal.returns-in-Ok-Puts-clause-told
returns-in-Ok-Puts-clause-told g c =
    let w = c.in-Ok-Puts in
    let same = c.rows.ensures.kept ∙ ap (λ (e : Held). e.store.stored.kept) c.self.view_is in
    since_weaker _ c.put.ensures.told (λ was calls drew. record {
      made = drew.0;
      sizes = drew.1;
      needed = inr (λ s has. puts s c.args.caller.now c.args.op c.args.moment _ (put_is c.args.self.now c.rows.result.now.kept c.args.caller.now c.args.op c.args.moment w.field-0 w.new same w.field-0-is w.ensures.plans w.ensures.shows s has) ∙ puts_one c.args.self.now.store.stored.kept.state.tag w.new);
    })

pub returns-in-Err-Refused-clause-answer : goal.returns-in-Err-Refused-clause-answer
returns-in-Err-Refused-clause-answer g c = λ s has.
    let w = c.in-Err-Refused in
    let same = c.rows.ensures.kept ∙ ap (λ (e : Held). e.store.stored.kept) c.self.view_is in
    c.refused.ensures.answer ∙ sym (refused_answer s c.args.caller.now c.args.op c.args.moment w.refusal (refused_is c.args.self.now c.rows.result.now.kept c.args.caller.now c.args.op c.args.moment w.field-0 w.refusal same w.field-0-is w.ensures.plans s has))

pub returns-in-Err-Refused-clause-step : goal.returns-in-Err-Refused-clause-step
returns-in-Err-Refused-clause-step g c = λ s has.
    let w = c.in-Err-Refused in
    let same = c.rows.ensures.kept ∙ ap (λ (e : Held). e.store.stored.kept) c.self.view_is in
    subst (λ o. Prepares o c.args.self.now (state_after s c.args.caller.now c.args.op c.args.moment)) (sym c.refused.ensures.step) (subst (λ x. HasState c.args.self.now x) (sym (refused_state s c.args.caller.now c.args.op c.args.moment w.refusal (refused_is c.args.self.now c.rows.result.now.kept c.args.caller.now c.args.op c.args.moment w.field-0 w.refusal same w.field-0-is w.ensures.plans s has))) has)

pub returns-in-Err-Refused-clause-stores : goal.returns-in-Err-Refused-clause-stores
returns-in-Err-Refused-clause-stores g c = λ s has.
    let w = c.in-Err-Refused in
    let same = c.rows.ensures.kept ∙ ap (λ (e : Held). e.store.stored.kept) c.self.view_is in
    ap is_some c.refused.ensures.step ∙ sym (refused_stores s c.args.caller.now c.args.op c.args.moment w.refusal (refused_is c.args.self.now c.rows.result.now.kept c.args.caller.now c.args.op c.args.moment w.field-0 w.refusal same w.field-0-is w.ensures.plans s has))
