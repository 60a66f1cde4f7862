use Rattle.std.proofs.Common.{◌≡◌, arith, pos, ap, ◌∙◌, unsigned_abs, to_z, of_z, w16}
use Rattle.jiff_core.proofs.SignedLemmas.{back_small}
use Rattle.kms_text.specs.Calendar.{date_of}
use Rattle.kms_text.proofs.CalendarLemmas.{date_of_is, jiff_date_is, civil_same}
use Rattle.kms_text.proofs.calendar.date_of_day.Goals as goal

pub overflow_cast-result : goal.overflow_cast-result
overflow_cast-result c =
    let same = jiff_date_is c.jiff_date-date.result c.args.days c.requires c.jiff_date-date.ensures in
    let high = (date_of_is c.args.days c.requires).year_high in
    let back : to_z w16 (of_z w16 (pos (date_of c.args.days).year)) ≡ pos (date_of c.args.days).year = back_small w16 _ (omega arith) in
    rw (same.0, back) (tt, omega arith)

pub returns : goal.returns
returns c =
    let same = jiff_date_is c.jiff_date-date.result c.args.days c.requires c.jiff_date-date.ensures in
    let high = (date_of_is c.args.days c.requires).year_high in
    let back : to_z w16 (of_z w16 (pos (date_of c.args.days).year)) ≡ pos (date_of c.args.days).year = back_small w16 _ (omega arith) in
    civil_same _ _ (ap (λ z. unsigned_abs (to_z w16 (of_z w16 z))) same.0 ∙ ap unsigned_abs back) same.1 same.2
