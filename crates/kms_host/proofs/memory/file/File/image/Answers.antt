use Rattle.std.proofs.Common.{subst}
use Rattle.kms_host.specs.File.{IsSound}
use Rattle.kms_host.proofs.FileLaws.{image_ok, picked_torn}
use Rattle.kms_host.proofs.memory.file.File.image.Goals as goal

pub returns-in_ok-torn-in-Torn-clause-image : goal.returns-in_ok-torn-in-Torn-clause-image
returns-in_ok-torn-in-Torn-clause-image c =
    let sound = subst IsSound c.self.view_is c.self.invariant in
    image_ok c.args.self.now c.deref-in-Torn.result.now c.in_ok-torn-in-Torn.field-0.items c.of-in-Torn.result c.of-in-Torn.ensures c.deref-in-Torn.ensures.value
    (picked_torn c.in-Torn.value c.args.self.now c.in_ok-torn-in-Torn.field-0.items sound c.in_ok-torn-in-Torn.ensures)
