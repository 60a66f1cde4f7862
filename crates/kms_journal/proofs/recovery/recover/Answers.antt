use Rattle.std.proofs.Common.{sym, subst, false}
use Rattle.std.specs.Prelude.{Option, Ok, Err, IfSome}
use Rattle.std.proofs.lemmas.Result.{err_from_is_err_and}
use Rattle.kms_host.proofs.FaultLaws.{stops_same, stops_then}
use Rattle.kms_host.proofs.Moments.{tells_then, tells_weaker, tells_nothing, tells_with, known_with_told}
use Rattle.kms_host.specs.Store.{IsAttached}
use Rattle.kms_journal.specs.Current.{IsSized}
use Rattle.kms_journal.specs.declared.header.Current.{Current}
use Rattle.kms_journal.specs.Recovery.{Opens}
use Rattle.kms_journal.proofs.FaultLaws.{fails_then}
use Rattle.kms_journal.proofs.OpeningLaws.{ChecksFrom, checks_from, no_memory_at_once, opens_none, opens_damaged, opens_fault, end_place, opens_repair_fails, opens_done}
use Rattle.kms_journal.proofs.ReadingLaws.{attached_after}
use Rattle.kms_journal.proofs.recovery.recover.Goals as goal

pub returns-in_err-buffer-clause-told : goal.returns-in_err-buffer-clause-told
returns-in_err-buffer-clause-told g c =
    let r = err_from_is_err_and c.from_residual.result c.from_residual.ensures.1 in
    rw (r.1) (tells_nothing _ c.requires (λ was a. subst (λ x. Opens (Err x) was was) (sym r.2) (no_memory_at_once was)))

pub returns-in_err-current-clause-told : goal.returns-in_err-current-clause-told
returns-in_err-current-clause-told g c =
    let r = err_from_is_err_and c.from_residual-in_err-current.result c.from_residual-in_err-current.ensures.1 in
    rw (r.1) (tells_weaker _ c.in_err-current.ensures.told (λ was now f. subst (λ x. Opens (Err x) was now) (sym r.2) (opens_fault was now f.throughout)))

pub returns-in_default-clause-told : goal.returns-in_default-clause-told
returns-in_default-clause-told g c = tells_weaker _ c.in_ok-current.ensures.told (λ was now f. opens_none c.in_ok-current.field-0 was now c.in_default.is f)

pub check-requires-clause-attached : goal.check-requires-clause-attached
check-requires-clause-attached g c = known_with_told _ c.requires c.in_ok-current.ensures.told (λ was now a f. attached_after was now f.throughout a)

pub returns-in_err-chain-clause-told : goal.returns-in_err-chain-clause-told
returns-in_err-chain-clause-told g c =
    let sized = subst (λ (o : Option Current). IfSome o IsSized) c.in-Some.is c.in_ok-current.ensures.sized in
    let r = err_from_is_err_and c.from_residual-in_err-chain.result c.from_residual-in_err-chain.ensures.1 in
    rw (r.1)
    (tells_then _ c.in_ok-current.ensures.told c.in_err-chain.ensures.told
    (λ was mid now f k.
    subst (λ x. Opens (Err x) was now) (sym r.2)
    (opens_damaged c.in-Some.current c.in_err-chain.field-0.0 was now (checks_from c.in-Some.current c.in_ok-current.field-0 (Err c.in_err-chain.field-0.0) was mid now c.in-Some.is sized f k))))

pub repair-requires-clause-place : goal.repair-requires-clause-place
repair-requires-clause-place g c =
    let current = c.in-Some.current in
    let chain = c.in_ok-chain.chain in
    let end = c.in_ok-chain.end in
    let sized = subst (λ (o : Option Current). IfSome o IsSized) c.in-Some.is c.in_ok-current.ensures.sized in
    let first = tells_then (ChecksFrom current (Ok (chain, end))) c.in_ok-current.ensures.told c.in_ok-chain.ensures.told
    (λ was mid now f k. checks_from current c.in_ok-current.field-0 (Ok (chain, end)) was mid now c.in-Some.is sized f k) in
    known_with_told _ c.requires first (λ was now a k. end_place current chain end was now c.in_ok-chain.ensures.within.1 a k)

pub returns-in_err-repair-clause-told : goal.returns-in_err-repair-clause-told
returns-in_err-repair-clause-told g c =
    let current = c.in-Some.current in
    let chain = c.in_ok-chain.chain in
    let end = c.in_ok-chain.end in
    let sized = subst (λ (o : Option Current). IfSome o IsSized) c.in-Some.is c.in_ok-current.ensures.sized in
    let first = tells_then (ChecksFrom current (Ok (chain, end))) c.in_ok-current.ensures.told c.in_ok-chain.ensures.told
    (λ was mid now f k. checks_from current c.in_ok-current.field-0 (Ok (chain, end)) was mid now c.in-Some.is sized f k) in
    let both = tells_with (λ was now. IsAttached was × ChecksFrom current (Ok (chain, end)) was now) c.requires first (λ was now a k. (a, k)) in
    let r = err_from_is_err_and c.from_residual-in_err-repair.result c.from_residual-in_err-repair.ensures.1 in
    rw (r.1)
    (tells_then _ both c.in_err-repair.ensures.told
    (λ was mid now k fix.
    subst (λ x. Opens (Err x) was now) (sym r.2) (opens_repair_fails current chain end was mid now sized.file k.0 k.1 _ fix)))

pub returns-clause-told : goal.returns-clause-told
returns-clause-told g c =
    let current = c.in-Some.current in
    let chain = c.in_ok-chain.chain in
    let end = c.in_ok-chain.end in
    let sized = subst (λ (o : Option Current). IfSome o IsSized) c.in-Some.is c.in_ok-current.ensures.sized in
    let first = tells_then (ChecksFrom current (Ok (chain, end))) c.in_ok-current.ensures.told c.in_ok-chain.ensures.told
    (λ was mid now f k. checks_from current c.in_ok-current.field-0 (Ok (chain, end)) was mid now c.in-Some.is sized f k) in
    let both = tells_with (λ was now. IsAttached was × ChecksFrom current (Ok (chain, end)) was now) c.requires first (λ was now a k. (a, k)) in
    tells_then _ both c.in_ok-repair.ensures.told
    (λ was mid now k fix. opens_done current chain end was mid now sized.file k.0 k.1 _ c.of.result c.of.ensures fix)

pub returns-in_err-buffer-clause-stops : goal.returns-in_err-buffer-clause-stops
returns-in_err-buffer-clause-stops g c = stops_same _ _

pub returns-in_err-chain-clause-stops : goal.returns-in_err-chain-clause-stops
returns-in_err-chain-clause-stops g c = stops_then c.find_current.ensures.stops c.check.ensures.stops

pub returns-in_err-repair-clause-stops : goal.returns-in_err-repair-clause-stops
returns-in_err-repair-clause-stops g c = stops_then (stops_then c.find_current.ensures.stops c.check.ensures.stops) c.repair.ensures.stops

pub returns-clause-stops : goal.returns-clause-stops
returns-clause-stops g c = stops_then (stops_then c.find_current.ensures.stops c.check.ensures.stops) c.repair.ensures.stops

pub returns-clause-failed : goal.returns-clause-failed
returns-clause-failed g c = fails_then false (fails_then false c.in_ok-current.ensures.failed c.in_ok-chain.ensures.failed) c.in_ok-repair.ensures.failed
