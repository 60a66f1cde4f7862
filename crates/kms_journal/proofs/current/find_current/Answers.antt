use Rattle.std.proofs.Common.{subst}
use Rattle.std.proofs.lemmas.Result.{err_from_is_err_and}
use Rattle.kms_host.specs.Disk.{reads}
use Rattle.kms_host.proofs.FaultLaws.{stops_then}
use Rattle.kms_host.proofs.Moments.{tells_then, tells_weaker, known_with_told}
use Rattle.kms_journal.specs.Current.{IsHead}
use Rattle.kms_journal.proofs.CurrentLaws.{both_found}
use Rattle.kms_journal.proofs.ReadingLaws.{reading_then, same_reads, attached_after}
use Rattle.kms_journal.proofs.current.find_current.Goals as goal

pub read_header-requires-2-clause-attached : goal.read_header-requires-2-clause-attached
read_header-requires-2-clause-attached g c =
    known_with_told _ c.requires.attached c.in_ok-first.ensures.told (λ was now a told. attached_after was now told.throughout a)

pub returns-in_err-first-clause-told : goal.returns-in_err-first-clause-told
returns-in_err-first-clause-told g c =
    let r = err_from_is_err_and c.from_residual.result c.from_residual.ensures.1 in
    rw (r.1)
    (tells_weaker _ c.in_err-first.ensures.told (λ was now told. record { throughout = told.throughout; found = tt }))

pub returns-in_err-second-clause-told : goal.returns-in_err-second-clause-told
returns-in_err-second-clause-told g c =
    let r = err_from_is_err_and c.from_residual-in_err-second.result c.from_residual-in_err-second.ensures.1 in
    rw (r.1)
    (tells_then _ c.in_ok-first.ensures.told c.in_err-second.ensures.told
    (λ was mid now one two. record { throughout = reading_then was mid now one.throughout two.throughout; found = tt }))

pub returns-clause-told : goal.returns-clause-told
returns-clause-told g c =
    tells_then _ c.in_ok-first.ensures.told c.in_ok-second.ensures.told
    (λ was mid now one two. record {
      throughout = reading_then was mid now one.throughout two.throughout;
      found = rw (c.newer.ensures)
          (both_found (reads 0 was) (reads 1 was) c.in_ok-first.first c.in_ok-second.second one.found
          (subst (λ l. IsHead 1 l c.in_ok-second.second) (same_reads was mid one.throughout 1) two.found));
    })

pub returns-in_err-second-clause-stops : goal.returns-in_err-second-clause-stops
returns-in_err-second-clause-stops g c = stops_then c.read_header.ensures.stops c.read_header-2.ensures.stops

pub returns-clause-stops : goal.returns-clause-stops
returns-clause-stops g c = stops_then c.read_header.ensures.stops c.read_header-2.ensures.stops
