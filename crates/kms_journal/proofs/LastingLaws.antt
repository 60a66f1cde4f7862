-- What was acknowledged is found again.
use Rattle.std.proofs.Common.{◌≡◌, inl, inr, refl, sym, ◌∙◌, ap, subst, true}
use Rattle.std.specs.Prelude.{Some, None, Result, Ok, Err}
use Rattle.kms_host.specs.History.{History}
use Rattle.kms_host.specs.Disk.{files}
use Rattle.kms_journal.specs.Lasting.{FindsAgain, IsAcknowledgedFound, IsKeptByTheNext, IsOpeningStopped, IsCheckpointFound, IsCheckpointStopped}
use Rattle.kms_journal.specs.Position.{Position, IsPlaced}
use Rattle.kms_journal.specs.Recovery.{IsOpening}
use Rattle.kms_journal.specs.Standing.{Standing, standing_of}
use Rattle.kms_journal.specs.declared.fault.JournalFault.{JournalFault}
use Rattle.kms_journal.specs.declared.fault.JournalFault.TheVariants.{NoStore, StoreFault, Damaged, NoMemory}
use Rattle.std.proofs.lemmas.Bool.{false≢true}
use Rattle.kms_journal.proofs.OpeningLaws.{some_is}
use Rattle.kms_journal.proofs.RestLaws.{quiet_image, quiet_stays, same_files_by_disk}

-- files that stand for something whole are opened as that
pub found_again : (s : Standing) (result : Result Position JournalFault) (start end : History) → standing_of (files start) ≡ Some s → s.is_whole ≡ true → IsOpening result start end → FindsAgain s result end
found_again s (Ok journal) start end is whole a = subst (IsPlaced journal end) (some_is a.0 s (sym a.1 ∙ is)) a.2
found_again s (Err NoStore) start end is whole a = let e : Some s ≡ None = sym is ∙ a.0 in cc
found_again s (Err StoreFault) start end is whole a = tt
found_again s (Err (Damaged place chain)) start end is whole a =
    absurd (false≢true (sym a.2 ∙ ap (λ (x : Standing). x.is_whole) (some_is a.0 s (sym a.1 ∙ is)) ∙ whole))
found_again s (Err NoMemory) start end is whole a = tt

pub acknowledged_found : IsAcknowledgedFound
acknowledged_found old new framed s was now stop image result start end quiet c u is same opens =
    let stands : standing_of image ≡ Some _ =
    quiet_image stop (quiet_stays now stop u (c.quiet quiet)) image is ∙ ap standing_of (same_files_by_disk now stop u) ∙ c.placed.current in
    found_again _ result start end (ap standing_of same ∙ stands) c.placed.whole opens.answer

pub kept_by_the_next : IsKeptByTheNext
kept_by_the_next old new framed next s was now later stop image result start end quiet c u during is same opens =
    elim (during.images (quiet_stays now later u (c.quiet quiet)) image is) [
      | inl stands ↦ inl (found_again _ result start end (ap standing_of same ∙ stands) c.placed.whole opens.answer)
      | inr stands ↦ inr (found_again _ result start end (ap standing_of same ∙ stands) c.placed.whole opens.answer)
    ]

pub opening_stopped : IsOpeningStopped
opening_stopped s was stop image result start end quiet stands whole k is same opens =
    found_again s result start end (ap standing_of same ∙ k.images quiet image is ∙ stands) whole opens.answer

pub checkpoint_found : IsCheckpointFound
checkpoint_found new snapshot s was now stop image result start end quiet c u is same opens =
    let stands : standing_of image ≡ Some _ =
    quiet_image stop (quiet_stays now stop u (c.quiet quiet)) image is ∙ ap standing_of (same_files_by_disk now stop u) ∙ c.placed.current in
    found_again _ result start end (ap standing_of same ∙ stands) c.placed.whole opens.answer

pub checkpoint_stopped : IsCheckpointStopped
checkpoint_stopped p snapshot s was stop image result start end rest during is same opens =
    elim (during.images rest.quiet image is) [
      | inl stands ↦ inl (found_again _ result start end (ap standing_of same ∙ stands) rest.placed.whole opens.answer)
      | inr stands ↦ inr (found_again _ result start end (ap standing_of same ∙ stands.0) refl opens.answer)
    ]
