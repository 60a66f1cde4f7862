use Rattle.kms_fernet.proofs.OpenLaws.{opens_front}
use Rattle.kms_fernet.proofs.Unique.{only_front, none_front, closed_by_text}
use Rattle.kms_fernet.proofs.opening.open_into.Goals as goal

pub returns-in-Some-clause-ok : goal.returns-in-Some-clause-ok
returns-in-Some-clause-ok c =
    opens_front c.open_bytes.result c.args.key.now c.args.token.now _ c.open_bytes.new.raw _ c.in-Some.ensures.spelled
    c.open_bytes.ensures.within c.open_bytes.ensures.ok

pub returns-in-Some-clause-only : goal.returns-in-Some-clause-only
returns-in-Some-clause-only c =
    only_front c.open_bytes.result c.args.key.now c.args.token.now _ c.open_bytes.new.raw _
    record { len = c.told-key; fits = c.fits-key } c.in-Some.ensures.spelled c.open_bytes.ensures.within c.open_bytes.ensures.ok

pub returns-in-Some-clause-none : goal.returns-in-Some-clause-none
returns-in-Some-clause-none c =
    none_front c.open_bytes.result c.args.key.now c.args.token.now _ record { len = c.told-key; fits = c.fits-key }
    c.in-Some.ensures.spelled c.open_bytes.ensures.err

pub returns-in-None-clause-none : goal.returns-in-None-clause-none
returns-in-None-clause-none c =
    closed_by_text c.args.key.now c.args.token.now record { len = c.told-key; fits = c.fits-key } c.in-None.ensures.spelled
