use Rattle.std.proofs.Common.{refl, sym, ap, ◌∙◌, arith}
use Rattle.std.proofs.lemmas.Result.{err_from_is_err_and}
use Rattle.kms_host.proofs.Moments.{tells_then, tells_weaker}
use Rattle.kms_store.specs.Store.{Stored}
use Rattle.kms_store.specs.StoreFields.{stored_in}
use Rattle.kms_store.proofs.SettleLaws.{settles_nothing, commit_fails, turn_fails, settled_whole, seen}
use Rattle.kms_store.proofs.store.Store.settle_within.Goals as goal

pub returns-then-count-eq0-clause-told : goal.returns-then-count-eq0-clause-told
returns-then-count-eq0-clause-told g c = record {
  told = λ now is. (
    now,
    is,
    λ settled steps o.
        settles_nothing c.args.self.now _ c.args.limit now c.args.journal.now settled steps o _ (sym (ap (λ (s : Stored). s.staging.count) c.self.view_is) ∙ sym c.count.ensures ∙ c.if-count-eq0.true)
        (ap (λ (s : Stored). s.kept) c.self.view_is) c.clear.ensures (ap (λ (s : Stored). s.steps) c.self.view_is),
  );
}

pub returns-in_err-commit-clause-told : goal.returns-in_err-commit-clause-told
returns-in_err-commit-clause-told g c =
    let inside = stored_in c.self.inside in
    let r = err_from_is_err_and c.from_residual.result c.from_residual.ensures.1 in
    rw (r.1)
    (tells_weaker _ c.in_err-commit.ensures.told
    (λ was now k.
    seen inside c.args.self.now c.self.view_is _ c.args.limit c.args.journal.now c.commit.new.journal _ was now
    (λ settled steps o.
    commit_fails inside _ c.args.limit was c.args.journal.now settled steps o c.commit.ensures.short (omega (arith, c.count.ensures, c.if-count-eq0.false)) c.commit.ensures.few
    c.commit.new.journal c.in_err-commit.field-0.0 _ now k)))

pub returns-in_err-checkpoint-clause-told : goal.returns-in_err-checkpoint-clause-told
returns-in_err-checkpoint-clause-told g c =
    let inside = stored_in c.self.inside in
    let r = err_from_is_err_and c.from_residual-in_err-checkpoint.result c.from_residual-in_err-checkpoint.ensures.1 in
    rw (r.1)
    (tells_then _ c.in_ok-commit.ensures.told c.in_err-checkpoint.ensures.told
    (λ was mid now k t.
    seen inside c.args.self.now c.self.view_is _ c.args.limit c.args.journal.now c.checkpoint.new.journal _ was now
    (λ settled steps o.
    turn_fails inside _ c.args.limit was c.args.journal.now settled steps o c.commit.ensures.short (omega (arith, c.count.ensures, c.if-count-eq0.false)) c.commit.ensures.few
    c.in_ok-commit.field-0 c.commit.new.journal c.checkpoint.new.journal mid now c.in_ok-commit.ensures.moved k c.in_err-checkpoint.field-0.0 _ t)))

pub returns-clause-told : goal.returns-clause-told
returns-clause-told g c =
    let inside = stored_in c.self.inside in
    tells_then _ c.in_ok-commit.ensures.told c.in_ok-checkpoint.ensures.told
    (λ was mid now k t.
    seen inside c.args.self.now c.self.view_is _ c.args.limit c.args.journal.now c.checkpoint.new.journal _ was now
    (λ settled steps o.
    settled_whole inside _ c.args.limit was c.args.journal.now settled steps o c.commit.ensures.short (omega (arith, c.count.ensures, c.if-count-eq0.false)) c.commit.ensures.few
    c.in_ok-commit.field-0 c.commit.new.journal c.checkpoint.new.journal mid now c.in_ok-commit.ensures.moved k c.in_ok-checkpoint.field-0 _ refl c.clear-2.ensures refl t))
