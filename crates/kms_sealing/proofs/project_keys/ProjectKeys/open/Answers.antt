use Rattle.std.proofs.Common.{List, subst}
use Rattle.std.specs.List.{AllByRecursion}
use Rattle.kms_record.specs.declared.key.WrappedKey.{WrappedKey}
use Rattle.kms_opened.specs.Opened.{KeyOpens}
use Rattle.kms_sealing.proofs.OpeningLaws.{zip_opens, is_open, open_refusal}
use Rattle.kms_sealing.proofs.project_keys.ProjectKeys.open.Goals as goal

pub returns-in-Ok-open_each-clause-open : goal.returns-in-Ok-open_each-clause-open
returns-in-Ok-open_each-clause-open c =
    let keys : AllByRecursion (KeyOpens c.args.ring) c.args.tables.now.kept.keys =
    subst (λ (rows : List WrappedKey). AllByRecursion (KeyOpens c.args.ring) rows) c.keys.ensures (zip_opens c.args.ring c.keys.result.now c.in-Ok.keys.items c.in-Ok.ensures.ok)
    in
    is_open c.args.ring c.args.tables.now.kept keys c.in-Ok-open_each.ensures.ok

pub returns-in-Err-open_each-clause-err : goal.returns-in-Err-open_each-clause-err
returns-in-Err-open_each-clause-err c =
    let keys : AllByRecursion (KeyOpens c.args.ring) c.args.tables.now.kept.keys =
    subst (λ (rows : List WrappedKey). AllByRecursion (KeyOpens c.args.ring) rows) c.keys.ensures (zip_opens c.args.ring c.keys.result.now c.in-Ok.keys.items c.in-Ok.ensures.ok)
    in
    open_refusal c.args.ring c.args.tables.now.kept c.in-Err-open_each.fault keys c.in-Err-open_each.ensures.err
