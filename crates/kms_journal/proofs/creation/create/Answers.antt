use Rattle.std.proofs.Common.{◌≡◌, ◌∙◌, sym, subst, false}
use Rattle.std.specs.Prelude.{Option, Ok, Err, None, is_some}
use Rattle.std.proofs.lemmas.Result.{err_from_is_err_and}
use Rattle.kms_host.specs.Disk.{files}
use Rattle.kms_host.specs.History.{History, Tells}
use Rattle.kms_host.specs.Moment.{Throughout}
use Rattle.kms_host.specs.Store.{IsAttached}
use Rattle.kms_host.proofs.Moments.{tells_then, tells_weaker, tells_with, known_with_told}
use Rattle.kms_journal.specs.Create.{Creates}
use Rattle.kms_journal.specs.Current.{IsCurrentOf, Finds}
use Rattle.kms_journal.specs.Device.{IsUntouched}
use Rattle.kms_journal.specs.Standing.{standing_of}
use Rattle.kms_journal.specs.declared.header.Current.{Current}
use Rattle.kms_journal.proofs.CreateLaws.{is_not_there, exists, read_fails, renew_fails, created}
use Rattle.kms_journal.proofs.CurrentLaws.{found_stands}
use Rattle.kms_journal.proofs.ReadingLaws.{attached_after}
use Rattle.kms_journal.proofs.creation.create.Goals as goal

-- there is no store
record IsNone (was now : History) : Type 0 where
  throughout : Throughout (IsUntouched was) was now
  none : standing_of (files was) ≡ None

none_told : {E : Type 0} {a b : Option History} (found : Option Current) → is_some found ≡ false → Tells a b (λ was now. Finds {T = Option Current} {E = E} (IsCurrentOf (files was)) (Ok found) was now) → Tells a b IsNone
none_told found not told = tells_weaker IsNone told (λ was now f. record { throughout = f.throughout; none = is_not_there (standing_of (files was)) (sym (found_stands (files was) found f.found) ∙ not) })

pub returns-in_err-find_current-clause-told : goal.returns-in_err-find_current-clause-told
returns-in_err-find_current-clause-told g c =
    let r = err_from_is_err_and c.from_residual.result c.from_residual.ensures.1 in
    rw (r.1) (tells_weaker _ c.in_err-find_current.ensures.told (λ was now f. subst (λ x. Creates c.args.tag (Err x) was now) (sym r.2) (read_fails c.args.tag c.requires.tag was now f.throughout)))

pub returns-then-is_some-clause-told : goal.returns-then-is_some-clause-told
returns-then-is_some-clause-told g c =
    tells_weaker _ c.in_ok-find_current.ensures.told
    (λ was now f. exists c.args.tag c.requires.tag was now f.throughout c.in_ok-find_current.field-0 f.found (sym c.is_some.ensures ∙ c.if-is_some.true))

pub renew-requires-clause-attached : goal.renew-requires-clause-attached
renew-requires-clause-attached g c = known_with_told _ c.requires.attached c.in_ok-find_current.ensures.told (λ was now a f. attached_after was now f.throughout a)

pub returns-in_err-renew-clause-told : goal.returns-in_err-renew-clause-told
returns-in_err-renew-clause-told g c =
    let none = none_told c.in_ok-find_current.field-0 (sym c.is_some.ensures ∙ c.if-is_some.false) c.in_ok-find_current.ensures.told in
    let r = err_from_is_err_and c.from_residual-in_err-renew.result c.from_residual-in_err-renew.ensures.1 in
    rw (r.1)
    (tells_then _ none c.in_err-renew.ensures.told
    (λ was mid now n w. subst (λ x. Creates c.args.tag (Err x) was now) (sym r.2) (renew_fails c.args.tag c.requires.tag was n.none _ mid now n.throughout w)))

pub returns-clause-told : goal.returns-clause-told
returns-clause-told g c =
    let none = none_told c.in_ok-find_current.field-0 (sym c.is_some.ensures ∙ c.if-is_some.false) c.in_ok-find_current.ensures.told in
    let both = tells_with (λ was now. IsAttached was × IsNone was now) c.requires.attached none (λ was now a n. (a, n)) in
    tells_then _ both c.in_ok-renew.ensures.told (λ was mid now n w. created c.args.tag c.requires.tag was n.1.none _ mid now n.0 n.1.throughout w)
