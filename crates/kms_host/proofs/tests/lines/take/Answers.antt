use Rattle.kms_host.specs.Line.{IsOpen}
use Rattle.kms_host.proofs.LineLaws.{open-took}
use Rattle.kms_host.proofs.Moments.{known_with_told}
use Rattle.kms_host.proofs.tests.lines.take.Goals as goal

pub returns-clause-line : goal.returns-clause-line
returns-clause-line g c = known_with_told (IsOpen 0) c.requires.line c.take.ensures.told (open-took 0 0 _ _)
