use Rattle.std.proofs.Common.{Result, Ok, Err, MatchResult, IsOk, IsUtf8, refl}
use Rattle.kms_world.proofs.NameLaws.{IsUtf8-name}
use Rattle.kms_world.proofs.name.Name.as_str.Goals as goal

-- a result that isn't an error is Ok
ok_of : {T E : Type 0} (P : T → Type 0) (Q : E → Type 0) (r : Result T E) → MatchResult r P Q → ((e : E) → Q e → ⊥) → IsOk r
ok_of P Q (Ok x) found none = refl
ok_of P Q (Err e) found none = absurd (none e found)

pub unwrap-requires : goal.unwrap-requires
unwrap-requires c =
    let utf8 : IsUtf8 _ = IsUtf8-name _ c.self.invariant.name in
    ok_of _ _ c.from_utf8.result c.from_utf8.ensures.cases (λ e q. q.0 utf8)
