use Rattle.std.proofs.Common.{◌∙◌, sym, subst}
use Rattle.std.specs.Prelude.{Err}
use Rattle.std.proofs.lemmas.Result.{err_from_is_err_and}
use Rattle.kms_host.specs.Disk.{reads}
use Rattle.kms_host.proofs.Moments.{tells_weaker, tells_nothing}
use Rattle.kms_journal.specs.Recovery.{IsChecked}
use Rattle.kms_journal.proofs.OpeningLaws.{checked_whole, checked_record, checked_snapshot, gathered_checked}
use Rattle.kms_journal.proofs.ReadingLaws.{no_read}
use Rattle.kms_journal.proofs.recovery.check.Goals as goal

pub returns-then-not-is_based-clause-told : goal.returns-then-not-is_based-clause-told
returns-then-not-is_based-clause-told g c =
    let current = c.args.current.now in
    tells_nothing _ c.requires.attached
    (λ was a. record {
      throughout = no_read was;
      answer = λ told. checked_snapshot current (reads current.header.file was) told c.in_ok-chain.chain (sym c.is_based.ensures ∙ c.if-not-is_based.true) c.in_ok-chain.ensures;
    })

pub returns-then-stop-clause-told : goal.returns-then-stop-clause-told
returns-then-stop-clause-told g c =
    let current = c.args.current.now in
    tells_weaker _ c.in_ok-chain-2.ensures.told
    (λ was now f. record {
      throughout = f.throughout;
      answer = λ told.
          let found = f.found told.size in
          checked_whole current (reads current.header.file was) told c.in_ok-chain-2.stop c.in_ok-chain-2.chain (sym c.is_based.ensures ∙ c.if-not-is_based.false) found.stop c.if-stop.true found.chain;
    })

pub returns-in_err-chain-2-clause-told : goal.returns-in_err-chain-2-clause-told
returns-in_err-chain-2-clause-told g c =
    let r = err_from_is_err_and c.from_residual-in_err-chain-2.result c.from_residual-in_err-chain-2.ensures.1 in
    rw (r.1)
    (tells_weaker _ c.in_err-chain-2.ensures.told
    (λ was now f. record { throughout = f.throughout; answer = λ told. subst (λ x. IsChecked c.args.current.now (reads c.args.current.now.header.file was) (Err x)) (sym r.2) (gathered_checked c.args.current.now (reads c.args.current.now.header.file was) c.in_err-chain-2.field-0.0) }))

pub returns-clause-told : goal.returns-clause-told
returns-clause-told g c =
    let current = c.args.current.now in
    tells_weaker _ c.in_ok-chain-2.ensures.told
    (λ was now f. record {
      throughout = f.throughout;
      answer = λ told.
          let found = f.found told.size in
          checked_record current (reads current.header.file was) told c.in_ok-chain-2.stop c.in_ok-chain-2.chain (sym c.is_based.ensures ∙ c.if-not-is_based.false) found.stop c.if-stop.false found.chain;
    })
