use Rattle.std.proofs.Common.{◌≡◌, [], Bool, true, false, cond, refl}
use Rattle.std.specs.Str.{is_utf8}
use Rattle.std.proofs.lemmas.Str.{is_utf8-from_IsUtf8, IsUtf8-from_is_utf8}
use Rattle.kms_http.proofs.head_parts.value_text.Goals as goal

pub returns-in-Ok : goal.returns-in-Ok
returns-in-Ok c =
    let test : is_utf8 c.args.value.now ≡ true = is_utf8-from_IsUtf8 c.args.value.now c.in-Ok.ensures.cases.1 in
    rw test c.in-Ok.ensures.cases.0

pub returns-in-Err : goal.returns-in-Err
returns-in-Err c = step (is_utf8 c.args.value.now) refl
  where
    step : (b : Bool) → is_utf8 c.args.value.now ≡ b → [] ≡ cond b c.args.value.now []
    step true test = absurd (c.in-Err.ensures.cases.0 (IsUtf8-from_is_utf8 c.args.value.now test))
    step false test = refl
