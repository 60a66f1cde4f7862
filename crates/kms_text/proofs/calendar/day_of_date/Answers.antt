use Rattle.std.proofs.Common.{◌≡◌, ℕ, ◌∙◌, arith, pos, Some, ap}
use Rattle.jiff_core.proofs.SignedLemmas.{signed_arith}
use Rattle.kms_text.proofs.CalendarLemmas.{same_date}
use Rattle.kms_text.proofs.calendar.day_of_date.Goals as goal

pub number_of_date-requires : goal.number_of_date-requires
number_of_date-requires c =
    let same = same_date c.args.year c.args.month c.args.day c.in-Some.date c.requires.year c.in-Some.ensures in
    rw same.count (omega (arith, signed_arith))

same_number : (a b : ℕ) → pos a ≡ pos b → a ≡ b
same_number a b e = cc

pub returns-in-Some-clause-value : goal.returns-in-Some-clause-value
returns-in-Some-clause-value c =
    let same = same_date c.args.year c.args.month c.args.day c.in-Some.date c.requires.year c.in-Some.ensures in
    rw same.good (ap Some (same_number _ _ (c.number_of_date.ensures ∙ same.count)))

pub returns-in-Some-clause-small : goal.returns-in-Some-clause-small
returns-in-Some-clause-small c =
    let same = same_date c.args.year c.args.month c.args.day c.in-Some.date c.requires.year c.in-Some.ensures in
    rw (same_number _ _ (c.number_of_date.ensures ∙ same.count)) same.small
