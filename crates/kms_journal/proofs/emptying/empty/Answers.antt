use Rattle.std.proofs.Common.{false}
use Rattle.std.proofs.lemmas.Result.{err_from_is_err_and}
use Rattle.kms_host.proofs.FaultLaws.{stops_then}
use Rattle.kms_host.proofs.Moments.{tells_then, tells_weaker, known_with_told, at_last}
use Rattle.kms_journal.specs.Emptying.{IsEmptying}
use Rattle.kms_journal.proofs.EmptyLaws.{IsCutBehind, can_cut, cut_fails, during_cut, sync_fails, emptied}
use Rattle.kms_journal.proofs.FileLaws.{still_attached}
use Rattle.kms_journal.proofs.emptying.empty.Goals as goal

pub returns-in_err-clear_first-clause-told : goal.returns-in_err-clear_first-clause-told
returns-in_err-clear_first-clause-told g c =
    let r = err_from_is_err_and c.from_residual.result c.from_residual.ensures.1 in
    rw (r.1) (tells_weaker _ c.in_err-clear_first.ensures.told (λ was now k. record { throughout = k.throughout; done = tt; cut = tt }))

pub cut-requires-clause-attached : goal.cut-requires-clause-attached
cut-requires-clause-attached g c = known_with_told _ c.requires.attached c.in_ok-clear_first.ensures.told (λ was now a k. (can_cut c.args.file was _ now a k).attached)

pub cut-requires-clause-within : goal.cut-requires-clause-within
cut-requires-clause-within g c = known_with_told _ c.requires.attached c.in_ok-clear_first.ensures.told (λ was now a k. (can_cut c.args.file was _ now a k).within)

pub returns-in_err-cut-clause-told : goal.returns-in_err-cut-clause-told
returns-in_err-cut-clause-told g c =
    let r = err_from_is_err_and c.from_residual-in_err-cut.result c.from_residual-in_err-cut.ensures.1 in
    rw (r.1)
    (tells_then _ c.in_ok-clear_first.ensures.told c.in_err-cut.ensures.told
    (λ was mid now k one. cut_fails c.args.file was mid now one.0 k.throughout k.syncs k.cuts k.done one.1 r.0))

pub sync-requires-clause-attached : goal.sync-requires-clause-attached
sync-requires-clause-attached g c =
    let file = c.args.file in
    let first = tells_then (IsCutBehind file) c.in_ok-clear_first.ensures.told c.in_ok-cut.ensures.told
    (λ was mid now k one. record { mid = mid; left = one.0; throughout = k.throughout; same = k.syncs; uncut = k.cuts; first = k.done; is = one.1; all = one.2 }) in
    known_with_told _ c.requires.attached first
    (λ was now a b. still_attached was now (at_last (IsEmptying file was) was now (during_cut file was b.mid now b.left b.throughout b.same b.uncut b.first b.is)).others a)

pub returns-in_err-sync-clause-told : goal.returns-in_err-sync-clause-told
returns-in_err-sync-clause-told g c =
    let file = c.args.file in
    let r = err_from_is_err_and c.from_residual-in_err-sync.result c.from_residual-in_err-sync.ensures.1 in
    let first = tells_then (IsCutBehind file) c.in_ok-clear_first.ensures.told c.in_ok-cut.ensures.told
    (λ was mid now k one. record { mid = mid; left = one.0; throughout = k.throughout; same = k.syncs; uncut = k.cuts; first = k.done; is = one.1; all = one.2 }) in
    rw (r.1) (tells_then _ first c.in_err-sync.ensures.told (λ was mid now b is. sync_fails file was b.mid mid b.left b.throughout b.same b.uncut b.first b.is now false b.all is r.0))

pub returns-clause-told : goal.returns-clause-told
returns-clause-told g c =
    let file = c.args.file in
    let first = tells_then (IsCutBehind file) c.in_ok-clear_first.ensures.told c.in_ok-cut.ensures.told
    (λ was mid now k one. record { mid = mid; left = one.0; throughout = k.throughout; same = k.syncs; uncut = k.cuts; first = k.done; is = one.1; all = one.2 }) in
    tells_then _ first c.in_ok-sync.ensures.told (λ was mid now b is. emptied file was b.mid mid b.left b.throughout b.same b.uncut b.first b.is _ now b.all is)

pub returns-in_err-cut-clause-stops : goal.returns-in_err-cut-clause-stops
returns-in_err-cut-clause-stops g c = stops_then c.clear_first.ensures.stops c.cut.ensures.stops

pub returns-in_err-sync-clause-stops : goal.returns-in_err-sync-clause-stops
returns-in_err-sync-clause-stops g c = stops_then (stops_then c.clear_first.ensures.stops c.cut.ensures.stops) c.sync.ensures.stops

pub returns-clause-stops : goal.returns-clause-stops
returns-clause-stops g c = stops_then (stops_then c.clear_first.ensures.stops c.cut.ensures.stops) c.sync.ensures.stops
