use Rattle.std.proofs.Common.{arith, sym, subst, List, ℕ}
use Rattle.kms_fernet.specs.Key.{base64url}
use Rattle.kms_fernet.specs.Token.{Opens}
use Rattle.kms_fernet.proofs.RoomLaws.{within_thirds}
use Rattle.kms_fernet.proofs.wrapped.unwrap_key.Goals as goal

pub open_into-requires : goal.open_into-requires
open_into-requires c = λ bytes is. omega (arith, within_thirds c.args.wrapped.now bytes is, c.told-wrapped)

pub returns-in-None : goal.returns-in-None
returns-in-None c = λ key of.
    c.in-None.ensures key record {
      fits = of.fits;
      spelled =
          sym (c.in-Ok.ensures.only (base64url key)
          (subst (λ (m : List ℕ). Opens m c.args.wrapped.now (base64url key)) (sym c.master.view_is) of.opens));
    }

pub returns-in-Err : goal.returns-in-Err
returns-in-Err c = λ key of.
    c.in-Err.ensures.none (base64url key)
    (subst (λ (m : List ℕ). Opens m c.args.wrapped.now (base64url key)) (sym c.master.view_is) of.opens)
