use Rattle.kms_host.specs.Line.{IsOpen}
use Rattle.kms_host.proofs.LineLaws.{open-gave}
use Rattle.kms_host.proofs.Moments.{known_with_told}
use Rattle.kms_host.proofs.tests.lines.goes.Goals as goal

pub returns : goal.returns
returns g c = known_with_told (IsOpen 0) c.requires c.give.ensures.told (open-gave 0 0 _ _)
