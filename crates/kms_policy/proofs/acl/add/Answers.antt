use Rattle.std.proofs.Common.{◌≡◌, ℕ, List, ◌<◌, ◌++◌, ◌∷◌, [], length, false, sym, subst, ◌∙◌}
use Rattle.std.proofs.lemmas.Bool.{not-true}
use Rattle.std.proofs.lemmas.Result.{on_ok_weaker}
use Rattle.kms_policy.specs.Users.{HasNames, TakesUser, has_text}
use Rattle.kms_policy.proofs.RepeatLaws.{not_among}
use Rattle.kms_policy.proofs.SeenLaws.{HasNames-more}
use Rattle.kms_policy.proofs.UserLaws.{TakesUser-push, not_among_unseen}
use Rattle.kms_policy.proofs.acl.add.Goals as goal

pub push-requires : goal.push-requires
push-requires c =
    let text = c.as_str-2.result.now in
    let at = c.as_bytes.ensures.value ∙ c.as_str.ensures ∙ sym c.as_str-2.ensures in
    let unseen : has_text c.args.seen.now text ≡ false = not-true _ (sym c.in-Ok-true.ensures.first ∙ c.in-Ok-true.field-0-test) in
    not_among c.in-Some.name c.args.names.now
    (not_among_unseen c.args.seen.now c.args.names.now text c.as_bytes.result.now c.in-Some.name c.requires.seen unseen at c.in-Some.ensures)

taken : (c : goal.After-push) → c.push.new.names ≡ c.args.names.now ++ c.in-Some.name ∷ [] → length c.args.names.now < 100 → TakesUser c.args.names.now c.push.new.names c.as_str-2.result.now
taken c pushed few =
    let text = c.as_str-2.result.now in
    let at = c.as_bytes.ensures.value ∙ c.as_str.ensures ∙ sym c.as_str-2.ensures in
    let unseen : has_text c.args.seen.now text ≡ false = not-true _ (sym c.in-Ok-true.ensures.first ∙ c.in-Ok-true.field-0-test) in
    let free = not_among_unseen c.args.seen.now c.args.names.now text c.as_bytes.result.now c.in-Some.name c.requires.seen unseen at c.in-Some.ensures in
    TakesUser-push c.args.names.now c.push.new.names text c.as_bytes.result.now c.in-Some.name at c.in-Some.ensures free few pushed

pub returns-in-Ok-true-clause-ok : goal.returns-in-Ok-true-clause-ok
returns-in-Ok-true-clause-ok c =
    on_ok_weaker c.push.result
    (λ done. subst (λ (w : List ℕ). TakesUser c.args.names.now c.push.new.names w) c.as_str-2.ensures (taken c done.0 done.1))
    c.push.ensures.ok

pub returns-in-Ok-true-clause-seen : goal.returns-in-Ok-true-clause-seen
returns-in-Ok-true-clause-seen c =
    on_ok_weaker c.push.result
    (λ done. subst (λ (names : List (List ℕ)). HasNames c.is_first.new.seen names) (sym (taken c done.0 done.1).names)
    (HasNames-more c.args.seen.now c.is_first.new.seen c.args.names.now c.as_str-2.result.now c.requires.seen c.in-Ok-true.ensures.seen))
    c.push.ensures.ok
