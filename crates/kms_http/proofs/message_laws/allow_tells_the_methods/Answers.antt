use Rattle.kms_http.proofs.PathMethodLaws.{allow-tells}
use Rattle.kms_http.proofs.message_laws.allow_tells_the_methods.Goals as goal

pub returns : goal.returns
returns c = allow-tells
