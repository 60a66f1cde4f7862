-- Draws, one after the other.
use Rattle.std.proofs.Common.{◌≡◌, ℕ, Bool, true, List, [], ◌∷◌, length, ap, sym, subst, ◌∙◌, inl, inr}
use Rattle.std.specs.Prelude.{Option, Some, None, is_some, Ok, Err}
use Rattle.kms_host.specs.History.{History, Tells, then_call}
use Rattle.kms_host.specs.Moment.{Since}
use Rattle.kms_host.specs.declared.call.Call.{Call}
use Rattle.kms_host.specs.declared.call.Call.TheVariants.{Drew}
use Rattle.kms_host.specs.declared.call.Failed.{Failed}
use Rattle.kms_host.specs.declared.call.Purpose.TheVariants.{Iv, ProjectKey}
use Rattle.kms_host.proofs.Moments.{since_call, since_add, since_weaker}
use Rattle.kms_sealing.specs.Drawing.{AreSealingDraws, DrawsKey, Draws}
use Rattle.kms_sealing.specs.declared.drawing.KeyDraw.{KeyDraw}

sized : (calls made : List Call) → calls ≡ made → AreSealingDraws made → AreSealingDraws calls
sized calls made is sizes = subst AreSealingDraws (sym is) sizes

-- ---- a key

pub drew_nothing : {a b : Option History} (needed : Bool) (e : Failed) → needed ≡ true → Tells a b (λ was now. now ≡ then_call was (Drew ProjectKey None)) → Since a b (λ was calls. DrawsKey needed (Err e) calls × AreSealingDraws calls)
drew_nothing needed e so first = since_weaker _ (since_call first) (λ was calls is. ((so, inl is), sized calls _ is tt))

pub drew_key_alone : {a b c : Option History} (needed : Bool) (key : List ℕ) (e : Failed) → needed ≡ true → length key ≡ 32 → Tells a b (λ was now. now ≡ then_call was (Drew ProjectKey (Some key))) → Tells b c (λ was now. now ≡ then_call was (Drew Iv None))
    → Since a c (λ was calls. DrawsKey needed (Err e) calls × AreSealingDraws calls)
drew_key_alone needed key e so size first last =
    since_add _ (since_call first) last (λ was calls is. ((so, inr (key, ap (λ (cs : List Call). Drew Iv None ∷ cs) is)), sized calls _ is (size, tt)))

-- ---- the vector of the token

-- it didn't come
pub drew_no_vector : {a b c : Option History} (wanted needed : Bool) (key : Option KeyDraw) (e : Failed) → wanted ≡ needed → is_some key ≡ wanted → Since a b (λ was calls. DrawsKey wanted (Ok key) calls × AreSealingDraws calls) → Tells b c (λ was now. now ≡ then_call was (Drew Iv None))
    → Since a c (λ was calls. Draws needed (Err e) calls × AreSealingDraws calls)
drew_no_vector wanted needed key e same has first last = since_add _ first last (λ was calls is. (inr (key, has ∙ same, ap (λ (cs : List Call). Drew Iv None ∷ cs) is.0), is.1))
