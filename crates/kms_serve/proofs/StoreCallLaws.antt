-- Which calls say what of the store, and what calls on files leave as it is.
use Rattle.std.proofs.Common.{◌≡◌, ℕ, ◌+◌, ◌≤◌, ◌<◌, List, [], ◌∷◌, ◌++◌, length, Bool, true, false, cond, refl, sym, ap, ◌∙◌, arith}
use Rattle.std.specs.Prelude.{◌||◌}
use Rattle.kms_host.specs.History.{History}
use Rattle.kms_host.specs.Moment.{then_calls}
use Rattle.kms_host.specs.Line.{OnlyGives}
use Rattle.kms_host.specs.Store.{apart_from_files, store_call_failed, failed_store_calls, others}
use Rattle.kms_host.specs.declared.call.Call.{Call}
use Rattle.kms_host.specs.declared.call.Call.TheVariants.{Text, Listened, Came, Attached, Took, Gave, Shut, OnFile, Told, Drew}
use Rattle.kms_host.specs.declared.call.FileCall.{FileCall}
use Rattle.kms_host.proofs.Moments.{then_calls-calls}
use Rattle.kms_journal.specs.Fault.{Fails}
use Rattle.kms_host.specs.Moment.{AtEach}
use Rattle.kms_serve.specs.StoreCalls.{store_failed, IsUnfailedBefore, OnlyFiles}

-- a meaning that says nothing of calls on files
pub same_by_files : {A : Type 0} (F : List Call → A) → ((file : ℕ) (c : FileCall) (calls : List Call) → F (OnFile file c ∷ calls) ≡ F calls)
    → (on_files early : List Call) → OnlyFiles on_files → F (on_files ++ early) ≡ F early
same_by_files F skips [] early only = refl
same_by_files F skips (Text name room bytes ∷ on_files) early only = absurd only
same_by_files F skips (Listened address done ∷ on_files) early only = absurd only
same_by_files F skips (Came line ∷ on_files) early only = absurd only
same_by_files F skips (Attached name done ∷ on_files) early only = absurd only
same_by_files F skips (Took line room bytes ∷ on_files) early only = absurd only
same_by_files F skips (Gave line piece went ∷ on_files) early only = absurd only
same_by_files F skips (Shut line ∷ on_files) early only = absurd only
same_by_files F skips (OnFile file c ∷ on_files) early only = skips file c (on_files ++ early) ∙ same_by_files F skips on_files early only
same_by_files F skips (Told t ∷ on_files) early only = absurd only
same_by_files F skips (Drew purpose bytes ∷ on_files) early only = absurd only

apart_longer : (more early : List Call) → length (apart_from_files early) ≤ length (apart_from_files (more ++ early))
apart_longer [] early = omega arith
apart_longer (Text name room bytes ∷ more) early = omega (arith, apart_longer more early)
apart_longer (Listened address done ∷ more) early = omega (arith, apart_longer more early)
apart_longer (Came line ∷ more) early = omega (arith, apart_longer more early)
apart_longer (Attached name done ∷ more) early = omega (arith, apart_longer more early)
apart_longer (Took line room bytes ∷ more) early = omega (arith, apart_longer more early)
apart_longer (Gave line piece went ∷ more) early = omega (arith, apart_longer more early)
apart_longer (Shut line ∷ more) early = omega (arith, apart_longer more early)
apart_longer (OnFile file c ∷ more) early = apart_longer more early
apart_longer (Told t ∷ more) early = omega (arith, apart_longer more early)
apart_longer (Drew purpose bytes ∷ more) early = omega (arith, apart_longer more early)

none_apart : (more early : List Call) → length (apart_from_files (more ++ early)) ≤ length (apart_from_files early) → OnlyFiles more
none_apart [] early le = tt
none_apart (Text name room bytes ∷ more) early le = absurd (omega (arith, le, apart_longer more early))
none_apart (Listened address done ∷ more) early le = absurd (omega (arith, le, apart_longer more early))
none_apart (Came line ∷ more) early le = absurd (omega (arith, le, apart_longer more early))
none_apart (Attached name done ∷ more) early le = absurd (omega (arith, le, apart_longer more early))
none_apart (Took line room bytes ∷ more) early le = absurd (omega (arith, le, apart_longer more early))
none_apart (Gave line piece went ∷ more) early le = absurd (omega (arith, le, apart_longer more early))
none_apart (Shut line ∷ more) early le = absurd (omega (arith, le, apart_longer more early))
none_apart (OnFile file c ∷ more) early le = none_apart more early le
none_apart (Told t ∷ more) early le = absurd (omega (arith, le, apart_longer more early))
none_apart (Drew purpose bytes ∷ more) early le = absurd (omega (arith, le, apart_longer more early))

-- Nothing was called but on files.
pub only_files : (was : History) (more : List Call) → others (then_calls was more) ≡ others was → OnlyFiles more
only_files was more same =
    let here : apart_from_files (more ++ was.calls) ≡ apart_from_files was.calls = ap apart_from_files (sym (then_calls-calls was more)) ∙ same in
    none_apart more was.calls (omega (arith, ap length here))

or_assoc : (a b c : Bool) → (a || (b || c)) ≡ ((a || b) || c)
or_assoc true b c = refl
or_assoc false b c = refl

pub store_failed-append : (late early : List Call) → store_failed (late ++ early) ≡ (store_failed late || store_failed early)
store_failed-append [] early = refl
store_failed-append (c ∷ late) early =
    ap (λ (b : Bool). store_call_failed c || b) (store_failed-append late early) ∙ or_assoc (store_call_failed c) (store_failed late) (store_failed early)

pub store_failed-gives : (line : ℕ) (gives early : List Call) → OnlyGives line gives → store_failed (gives ++ early) ≡ store_failed early
store_failed-gives line [] early only = refl
store_failed-gives line (Text name room bytes ∷ gives) early only = absurd only
store_failed-gives line (Listened address done ∷ gives) early only = absurd only
store_failed-gives line (Came next ∷ gives) early only = absurd only
store_failed-gives line (Attached name done ∷ gives) early only = absurd only
store_failed-gives line (Took l room bytes ∷ gives) early only = absurd only
store_failed-gives line (Gave l piece went ∷ gives) early only = store_failed-gives line gives early only.1
store_failed-gives line (Shut l ∷ gives) early only = absurd only
store_failed-gives line (OnFile file c ∷ gives) early only = absurd only
store_failed-gives line (Told t ∷ gives) early only = absurd only
store_failed-gives line (Drew purpose bytes ∷ gives) early only = absurd only

counted : (b : Bool) (n m k : ℕ) → n ≡ m + k → cond b (n + 1) n ≡ cond b (m + 1) m + k
counted true n m k e = omega (arith, e)
counted false n m k e = e

pub failed-append : (late early : List Call) → failed_store_calls (late ++ early) ≡ failed_store_calls late + failed_store_calls early
failed-append [] early = omega arith
failed-append (c ∷ late) early = counted (store_call_failed c) (failed_store_calls (late ++ early)) (failed_store_calls late) (failed_store_calls early) (failed-append late early)

none_here : (b rest : Bool) (n : ℕ) → cond b (n + 1) n ≡ 0 → (n ≡ 0 → rest ≡ false) → (b || rest) ≡ false
none_here true rest n e before = absurd (omega (arith, e))
none_here false rest n e before = before e

pub none_failed : (calls : List Call) → failed_store_calls calls ≡ 0 → store_failed calls ≡ false
none_failed [] e = refl
none_failed (c ∷ calls) e = none_here (store_call_failed c) (store_failed calls) (failed_store_calls calls) e (none_failed calls)

some_here : (b rest : Bool) (n : ℕ) → 0 < cond b (n + 1) n → (0 < n → rest ≡ true) → (b || rest) ≡ true
some_here true rest n e before = refl
some_here false rest n e before = before e

some_failed : (calls : List Call) → 0 < failed_store_calls calls → store_failed calls ≡ true
some_failed [] e = absurd (omega (arith, e))
some_failed (c ∷ calls) e = some_here (store_call_failed c) (store_failed calls) (failed_store_calls calls) e (some_failed calls)

-- whether a call of the store failed in between
pub failed_since : (was : History) (calls : List Call) (b : Bool) → Fails b was (then_calls was calls) → store_failed calls ≡ b
failed_since was calls true f =
    let all = ap failed_store_calls (then_calls-calls was calls) ∙ failed-append calls was.calls in
    some_failed calls (omega (arith, f.1, all))
failed_since was calls false f =
    let all = ap failed_store_calls (then_calls-calls was calls) ∙ failed-append calls was.calls in
    none_failed calls (omega (arith, f, all))

-- Calls of which only the newest may have failed.

not_later : (a b : Bool) → (a || b) ≡ false → b ≡ false
not_later true b e = cc
not_later false b e = e

pub unfailed_before : (calls : List Call) → store_failed calls ≡ false → IsUnfailedBefore calls
unfailed_before [] e = refl
unfailed_before (c ∷ calls) e = not_later (store_call_failed c) (store_failed calls) e

pub both_unfailed : (late early : List Call) → store_failed late ≡ false → store_failed early ≡ false → store_failed (late ++ early) ≡ false
both_unfailed late early first second = store_failed-append late early ∙ ap (λ (b : Bool). b || store_failed early) first ∙ second

pub before_each : (late early : List Call) → IsUnfailedBefore late → store_failed early ≡ false → AtEach (λ z. IsUnfailedBefore (z ++ early)) late
before_each [] early first second = unfailed_before early second
before_each (c ∷ late) early first second = (both_unfailed late early first second, before_each late early (unfailed_before late first) second)

pub before_more : (late early : List Call) → IsUnfailedBefore late → store_failed early ≡ false → IsUnfailedBefore (late ++ early)
before_more [] early first second = unfailed_before early second
before_more (c ∷ late) early first second = both_unfailed late early first second

-- Where one of them failed that is the newest.
pub failed_once : (was : History) (calls : List Call) (b : Bool) → Fails b was (then_calls was calls) → IsUnfailedBefore calls
failed_once was calls false f = unfailed_before calls (failed_since was calls false f)
failed_once was [] true f = refl
failed_once was (c ∷ calls) true f =
    let n = failed_store_calls (then_calls was calls).calls in
    let all = ap failed_store_calls (then_calls-calls was calls) ∙ failed-append calls was.calls in
    let one : n + 1 ≡ failed_store_calls was.calls + 1 = sym (ap (λ (t : Bool). cond t (n + 1) n) f.0) ∙ f.1 in
    none_failed calls (omega (arith, all, one))
