-- Counts of faults, from call to call.
use Rattle.std.proofs.Common.{◌≡◌, ◌+◌, refl, sym, ◌∙◌, ap, subst, arith, Bool, true, false, cond}
use Rattle.std.specs.Prelude.{Option, Result, Ok, Err, IsErrAnd}
use Rattle.kms_host.specs.Faults.{Faults, NeverFalls}
use Rattle.kms_host.specs.History.{History, Tells, WhereTold, then_call}
use Rattle.kms_host.specs.Store.{store_call_failed, failed_store_calls}
use Rattle.kms_host.specs.declared.call.Call.{Call}
use Rattle.kms_host.proofs.Moments.{tells_then, tells_weaker, tells_nothing}
use Rattle.kms_journal.specs.Fault.{Fails, is_newest_failed, is_failed_gathering}
use Rattle.kms_journal.specs.declared.fault.GatherFault.{GatherFault}
use Rattle.kms_journal.specs.declared.fault.GatherFault.TheVariants as gathering

pub later_then : (a b c : Faults) → NeverFalls a b → NeverFalls b c → NeverFalls a c
later_then a b c first second = record {
  key_file = omega (arith, first.key_file, second.key_file);
  store = omega (arith, first.store, second.store);
  link = omega (arith, first.link, second.link);
  draw = omega (arith, first.draw, second.draw);
  listen = omega (arith, first.listen, second.listen);
}

pub never_falls : (a : Faults) → NeverFalls a a
never_falls a = record { key_file = omega arith; store = omega arith; link = omega arith; draw = omega arith; listen = omega arith }

-- Failed calls of the store, from call to call.

pub fails_nothing : {a : Option History} {K : History → Type 0} → WhereTold a K → Tells a a (Fails false)
fails_nothing known = tells_nothing (Fails false) known (λ was k. refl)

pub fails_then : {a b c : Option History} (x : Bool) → Tells a b (Fails false) → Tells b c (Fails x) → Tells a c (Fails x)
fails_then true first second = tells_then (Fails true) first second (λ was mid now f s. (s.0, omega (arith, f, s.1)))
fails_then false first second = tells_then (Fails false) first second (λ was mid now f s. s ∙ f)

-- one call
fails_once : (x : Bool) (was now : History) (c : Call) → now ≡ then_call was c → store_call_failed c ≡ x → Fails x was now
fails_once x was now c is e = by_answer x (ap (λ (h : History). is_newest_failed h.calls) is ∙ e) (ap (λ (h : History). failed_store_calls h.calls) is ∙ ap (λ (t : Bool). cond t (failed_store_calls was.calls + 1) (failed_store_calls was.calls)) e)
  where
    by_answer : (t : Bool) → is_newest_failed now.calls ≡ t → failed_store_calls now.calls ≡ cond t (failed_store_calls was.calls + 1) (failed_store_calls was.calls) → Fails t was now
    by_answer true last n = (last, n)
    by_answer false last n = n

-- one that only reads
pub fails_reading : {a b : Option History} {Q : History → Type 0} {c : Call} (x : Bool) → store_call_failed c ≡ x → Tells a b (λ was now. (now ≡ then_call was c) × Q was) → Tells a b (Fails x)
fails_reading {c = c} x e told = tells_weaker (Fails x) told (λ was now t. fails_once x was now c t.0 e)

-- the same, of an answer that says so
pub fails_as : {a b : Option History} (x y : Bool) → y ≡ x → Tells a b (Fails x) → Tells a b (Fails y)
fails_as {a} {b} x y same told = subst (λ (t : Bool). Tells a b (Fails t)) (sym same) told

pub gathering_fails : {T : Type 0} (result : Result T GatherFault) → IsErrAnd result (λ e. e ≡ gathering.StoreFault) → is_failed_gathering result ≡ true
gathering_fails (Ok x) h = absurd h
gathering_fails {T} (Err e) h = ap (λ (y : GatherFault). is_failed_gathering {T = T} (Err y)) h

pub gathering_without_memory : {T : Type 0} (result : Result T GatherFault) → IsErrAnd result (λ e. e ≡ gathering.NoMemory) → is_failed_gathering result ≡ false
gathering_without_memory (Ok x) h = absurd h
gathering_without_memory {T} (Err e) h = ap (λ (y : GatherFault). is_failed_gathering {T = T} (Err y)) h

pub gathering_same : {T : Type 0} (U : Type 0) (result : Result T GatherFault) (x : GatherFault) → IsErrAnd result (λ e. e ≡ x) → is_failed_gathering result ≡ is_failed_gathering {T = U} (Err x)
gathering_same U (Ok x) y h = absurd h
gathering_same {T} U (Err e) x h = ap (λ (y : GatherFault). is_failed_gathering {T = T} (Err y)) h ∙ by_fault x
  where
    by_fault : (y : GatherFault) → is_failed_gathering {T = T} (Err y) ≡ is_failed_gathering {T = U} (Err y)
    by_fault gathering.StoreFault = refl
    by_fault gathering.NoMemory = refl
