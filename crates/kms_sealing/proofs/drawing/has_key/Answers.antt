use Rattle.std.proofs.Common.{◌≡◌, List, [], true, sym, subst}
use Rattle.kms_record.specs.declared.key.WrappedKey.{WrappedKey}
use Rattle.kms_sealing.specs.Places.{has_key}
use Rattle.kms_sealing.proofs.SealLaws.{has_one}
use Rattle.kms_sealing.proofs.drawing.has_key.Goals as goal

pub returns-in-Some : goal.returns-in-Some
returns-in-Some c =
    let rows = c.keys.result.now in
    let d : WrappedKey = record { project = []; number = 0; wrapped = [] } in
    let latest = c.in-Some.ensures.latest d in
    sym (subst (λ (keys : List WrappedKey). has_key c.args.project.now keys ≡ true) c.keys.ensures (has_one c.args.project.now _ rows _ latest.there))
