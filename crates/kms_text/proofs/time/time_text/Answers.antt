use Rattle.std.proofs.Common.{◌/◌, arith, refl}
use Rattle.kms_text.specs.Time.{time_text_of}
use Rattle.kms_text.proofs.CalendarLemmas.{date_of_is}
use Rattle.kms_text.proofs.time.time_text.Goals as goal

pub digit-requires : goal.digit-requires
digit-requires c =
    let date = date_of_is (c.args.moment / 86400) (omega (arith, c.requires)) in
    rw c.date_of_day-date.ensures (omega (arith, date.year_high))

pub digit-requires-5 : goal.digit-requires-5
digit-requires-5 c =
    let date = date_of_is (c.args.moment / 86400) (omega (arith, c.requires)) in
    rw c.date_of_day-date.ensures (omega (arith, date.civil.month_high))

pub digit-requires-7 : goal.digit-requires-7
digit-requires-7 c =
    let date = date_of_is (c.args.moment / 86400) (omega (arith, c.requires)) in
    let short = date.short in
    rw c.date_of_day-date.ensures (omega arith)

pub returns : goal.returns
unfolding time_text_of
returns c = rw (c.digit.ensures, c.digit-2.ensures, c.digit-3.ensures, c.digit-4.ensures, c.digit-5.ensures, c.digit-6.ensures, c.digit-7.ensures, c.digit-8.ensures, c.digit-9.ensures, c.digit-10.ensures, c.digit-11.ensures, c.digit-12.ensures, c.digit-13.ensures, c.digit-14.ensures, c.date_of_day-date.ensures) refl
