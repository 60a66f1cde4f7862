-- For callers: where a call of the store failed, it is the newest, so that none was made after it.
use Rattle.std.proofs.Common.{◌≡◌, ◌+◌, ◌≤◌, List, [], ◌∷◌, ◌++◌, refl, sym, ◌∙◌, ap, arith, Bool, true, false, cond}
use Rattle.kms_host.specs.History.{History}
use Rattle.kms_host.specs.Moment.{AtEach, then_calls}
use Rattle.kms_host.specs.Store.{store_call_failed, failed_store_calls}
use Rattle.kms_host.specs.declared.call.Call.{Call}
use Rattle.kms_host.proofs.Moments.{then_calls-calls}
use Rattle.kms_journal.specs.Fault.{Fails, IsUnfailedBefore}

-- one call more
one_more : (c : Call) (calls : List Call) → failed_store_calls (c ∷ calls) ≡ cond (store_call_failed c) (failed_store_calls calls + 1) (failed_store_calls calls)
one_more c calls = refl

no_fewer : (c : Call) (calls : List Call) → failed_store_calls calls ≤ failed_store_calls (c ∷ calls)
no_fewer c calls = by_test (store_call_failed c)
  where
    by_test : (t : Bool) → failed_store_calls calls ≤ cond t (failed_store_calls calls + 1) (failed_store_calls calls)
    by_test true = omega arith
    by_test false = omega arith

-- the number never falls
never_fewer : (more calls : List Call) → failed_store_calls calls ≤ failed_store_calls (more ++ calls)
never_fewer [] calls = omega arith
never_fewer (c ∷ more) calls = omega (arith, never_fewer more calls, no_fewer c (more ++ calls))

-- no call but the newest failed
older_unfailed : (x : Bool) (was : History) (c : Call) (more : List Call) → Fails x was (then_calls was (c ∷ more)) → failed_store_calls (more ++ was.calls) ≡ failed_store_calls was.calls
older_unfailed x was c more f = by_answer x f
  where
    all : (then_calls was more).calls ≡ more ++ was.calls
    all = then_calls-calls was more

    count : failed_store_calls (then_calls was (c ∷ more)).calls ≡ cond (store_call_failed c) (failed_store_calls (more ++ was.calls) + 1) (failed_store_calls (more ++ was.calls))
    count = ap (λ (calls : List Call). failed_store_calls (c ∷ calls)) all

    by_answer : (x : Bool) → Fails x was (then_calls was (c ∷ more)) → failed_store_calls (more ++ was.calls) ≡ failed_store_calls was.calls
    by_answer true f =
        let one : failed_store_calls (then_calls was (c ∷ more)).calls ≡ failed_store_calls (more ++ was.calls) + 1 =
        count ∙ ap (λ (t : Bool). cond t (failed_store_calls (more ++ was.calls) + 1) (failed_store_calls (more ++ was.calls))) f.0 in
        omega (arith, one, f.1)
    by_answer false f =
        let least = no_fewer c (more ++ was.calls) in
        let same : failed_store_calls (c ∷ (more ++ was.calls)) ≡ failed_store_calls was.calls = sym count ∙ f in
        omega (arith, least, same, never_fewer more was.calls)

-- at each moment
pub unfailed_before : (x : Bool) (was : History) (more : List Call) → Fails x was (then_calls was more) → AtEach (IsUnfailedBefore was) more
unfailed_before x was [] f = tt
unfailed_before x was (c ∷ more) f =
    let older = older_unfailed x was c more f in
    (older, unfailed_before false was more (ap failed_store_calls (then_calls-calls was more) ∙ older))
