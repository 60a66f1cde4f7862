use Rattle.std.proofs.Common.{◌≡◌, false, nat_eq}
use Rattle.std.proofs.lemmas.Bool.{ne_eqb}
use Rattle.kms_http.specs.Framing.{closes}
use Rattle.kms_http.proofs.close.closes.Goals as goal

pub returns-else-minor-eq0 : goal.returns-else-minor-eq0
unfolding closes
returns-else-minor-eq0 c =
    let not_old : nat_eq c.args.minor 0 ≡ false = ne_eqb c.args.minor 0 c.if-minor-eq0.false in
    rw not_old c.any_closes.ensures
