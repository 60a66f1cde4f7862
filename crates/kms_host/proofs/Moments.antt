-- How what is told goes on, from call to call, over spans of calls and at each moment.
use Rattle.std.proofs.Common.{◌≡◌, inl, inr, ℕ, suc, ◌-◌, ◌≤◌, List, [], ◌∷◌, ◌++◌, length, drop, refl, sym, ◌∙◌, ap, subst, arith}
use Rattle.std.proofs.lemmas.Bool.{cases_lt}
use Rattle.std.specs.Prelude.{Option}
use Rattle.kms_host.specs.History.{History, then_call, Tells, WhereTold}
use Rattle.kms_host.specs.Moment.{then_calls, AtEach, Throughout, Since, by_moment, until}
use Rattle.kms_host.specs.declared.call.Call.{Call}

-- The history after some calls.

pub then_calls-append : (h : History) (late early : List Call) → then_calls h (late ++ early) ≡ then_calls (then_calls h early) late
then_calls-append h [] early = refl
then_calls-append h (c ∷ late) early = ap (λ (g : History). then_call g c) (then_calls-append h late early)

pub then_calls-calls : (h : History) (more : List Call) → (then_calls h more).calls ≡ more ++ h.calls
then_calls-calls h [] = refl
then_calls-calls h (c ∷ more) = ap (λ (l : List Call). c ∷ l) (then_calls-calls h more)

pub then_calls-opening : (h : History) (more : List Call) → (then_calls h more).opening ≡ h.opening
then_calls-opening h [] = refl
then_calls-opening h (c ∷ more) = then_calls-opening h more

pub then_calls-key_files : (h : History) (more : List Call) → (then_calls h more).key_files ≡ h.key_files
then_calls-key_files h [] = refl
then_calls-key_files h (c ∷ more) = then_calls-key_files h more

-- From what was told before to what is told after.

pub tells_then : {a b c : Option History} {R S : History → History → Type 0} (T : History → History → Type 0) → Tells a b R → Tells b c S
    → ((was mid now : History) → R was mid → S mid now → T was now) → Tells a c T
tells_then T first second both = record {
  told = λ now is.
      let late = second.told now is in
      let early = first.told late.0 late.1 in
      (early.0, early.1, both early.0 late.0 now early.2 late.2);
}

pub tells_weaker : {a b : Option History} {R : History → History → Type 0} (T : History → History → Type 0) → Tells a b R → ((was now : History) → R was now → T was now) → Tells a b T
tells_weaker T first step = record {
  told = λ now is.
      let early = first.told now is in
      (early.0, early.1, step early.0 now early.2);
}

-- and with what was known before
pub tells_with : {a b : Option History} {K : History → Type 0} {R : History → History → Type 0} (T : History → History → Type 0) → WhereTold a K → Tells a b R
    → ((was now : History) → K was → R was now → T was now) → Tells a b T
tells_with T known first step = record {
  told = λ now is.
      let early = first.told now is in
      (early.0, early.1, step early.0 now (known.told early.0 early.1) early.2);
}

-- no call at all
pub tells_nothing : {a : Option History} {K : History → Type 0} (R : History → History → Type 0) → WhereTold a K → ((was : History) → K was → R was was) → Tells a a R
tells_nothing R known same = record { told = λ now is. (now, is, same now (known.told now is)) }

-- Over a span of calls.

-- no call
pub since_none : (h : Option History) (P : History → List Call → Type 0) → ((was : History) → P was []) → Since h h P
since_none h P none = record { told = λ now is. (now, [], is, refl, none now) }

-- no call, with what is known
pub since_nothing : {a : Option History} {K : History → Type 0} (P : History → List Call → Type 0) → WhereTold a K → ((was : History) → K was → P was []) → Since a a P
since_nothing P known none = record { told = λ now is. (now, [], is, refl, none now (known.told now is)) }

-- what a clause says of the calls that were made
pub since_told : {a b : Option History} {R : History → History → Type 0} (P : History → List Call → Type 0) → Tells a b R
    → ((was now : History) → R was now → (calls : List Call) × (now ≡ then_calls was calls) × P was calls) → Since a b P
since_told P first step = record {
  told = λ now is.
      let early = first.told now is in
      let s = step early.0 now early.2 in
      (early.0, s.0, early.1, s.1, s.2);
}

-- and back
pub told_since : {a b : Option History} {P : History → List Call → Type 0} (R : History → History → Type 0) → Since a b P
    → ((was : History) (calls : List Call) → P was calls → R was (then_calls was calls)) → Tells a b R
told_since R p step = record {
  told = λ now is.
      let early = p.told now is in
      (early.0, early.2, subst (R early.0) (sym early.3) (step early.0 early.1 early.4));
}

-- one call
pub since_call : {a b : Option History} {call : Call} → Tells a b (λ was now. now ≡ then_call was call) → Since a b (λ was calls. calls ≡ call ∷ [])
since_call {call = call} d = since_told (λ was calls. calls ≡ call ∷ []) d (λ was now is. (call ∷ [], is, refl))

-- calls that have P, and then calls that have Q
pub since_since : {a b c : Option History} {P Q : History → List Call → Type 0} (R : History → List Call → Type 0) → Since a b P → Since b c Q
    → ((was : History) (x y : List Call) → P was x → Q (then_calls was x) y → R was (y ++ x)) → Since a c R
since_since {Q = Q} R p q step = record {
  told = λ now is.
      let late = q.told now is in
      let early = p.told late.0 late.2 in
      let whole : now ≡ then_calls early.0 (late.1 ++ early.1) =
      late.3 ∙ ap (λ (h : History). then_calls h late.1) early.3 ∙ sym (then_calls-append early.0 late.1 early.1) in
      (early.0, late.1 ++ early.1, early.2, whole, step early.0 early.1 late.1 early.4 (subst (λ (h : History). Q h late.1) early.3 late.4));
}

pub since_weaker : {a b : Option History} {P : History → List Call → Type 0} (Q : History → List Call → Type 0) → Since a b P
    → ((was : History) (calls : List Call) → P was calls → Q was calls) → Since a b Q
since_weaker Q p step = record {
  told = λ now is.
      let early = p.told now is in
      (early.0, early.1, early.2, early.3, step early.0 early.1 early.4);
}

-- and with what was known before
pub since_with : {a b : Option History} {K : History → Type 0} {P : History → List Call → Type 0} (Q : History → List Call → Type 0) → WhereTold a K → Since a b P
    → ((was : History) (calls : List Call) → K was → P was calls → Q was calls) → Since a b Q
since_with Q known p step = record {
  told = λ now is.
      let early = p.told now is in
      (early.0, early.1, early.2, early.3, step early.0 early.1 (known.told early.0 early.2) early.4);
}

-- calls that have P, and then one call
pub since_add : {a b c : Option History} {P : History → List Call → Type 0} {call : Call} (R : History → List Call → Type 0) → Since a b P
    → Tells b c (λ was now. now ≡ then_call was call) → ((was : History) (x : List Call) → P was x → R was (call ∷ x)) → Since a c R
since_add R p d step = since_since R p (since_call d) (λ was x y h e. subst (λ (z : List Call). R was (z ++ x)) (sym e) (step was x h))

-- calls that have P, and then two calls
pub since_two : {a b c d : Option History} {P : History → List Call → Type 0} {call next : Call} (R : History → List Call → Type 0) → Since a b P
    → Tells b c (λ was now. now ≡ then_call was call) → Tells c d (λ was now. now ≡ then_call was next)
    → ((was : History) (x : List Call) → P was x → R was (next ∷ call ∷ x)) → Since a d R
since_two {P = P} {call = call} {next = next} R p one two step =
    since_add R
    (since_add (λ was z. (x : List Call) × (z ≡ call ∷ x) × P was x) p one (λ was x h. (x, refl, h)))
    two
    (λ was z m. subst (λ (y : List Call). R was (next ∷ y)) (sym m.1) (step was m.0 m.2))

-- calls that have P, calls that have Q, and then one call
pub since_since_call : {a b c d : Option History} {P Q : History → List Call → Type 0} {call : Call} (R : History → List Call → Type 0) → Since a b P → Since b c Q
    → Tells c d (λ was now. now ≡ then_call was call)
    → ((was : History) (x y : List Call) → P was x → Q (then_calls was x) y → R was (call ∷ (y ++ x))) → Since a d R
since_since_call {P = P} {Q = Q} {call = call} R p q one step =
    since_add R
    (since_since (λ was z. (x : List Call) × (y : List Call) × (z ≡ y ++ x) × P was x × Q (then_calls was x) y) p q (λ was x y h k. (x, y, refl, h, k)))
    one
    (λ was z m. subst (λ (y : List Call). R was (call ∷ y)) (sym m.2) (step was m.0 m.1 m.3 m.4))

-- What is known of a host that tells.

pub known_weaker : {a : Option History} {K : History → Type 0} (Q : History → Type 0) → WhereTold a K → ((now : History) → K now → Q now) → WhereTold a Q
known_weaker Q known step = record { told = λ now is. step now (known.told now is) }

pub known_both : {a : Option History} {P Q : History → Type 0} → WhereTold a P → WhereTold a Q → WhereTold a (λ h. P h × Q h)
known_both p q = record { told = λ now is. (p.told now is, q.told now is) }

-- after calls that have P
pub known_after : {a b : Option History} {P : History → List Call → Type 0} (Q : History → Type 0) → Since a b P
    → ((was : History) (calls : List Call) → P was calls → Q (then_calls was calls)) → WhereTold b Q
known_after Q p step = record {
  told = λ now is.
      let early = p.told now is in
      subst Q (sym early.3) (step early.0 early.1 early.4);
}

-- and with what was known before them
pub known_with : {a b : Option History} {K : History → Type 0} {P : History → List Call → Type 0} (Q : History → Type 0) → WhereTold a K → Since a b P
    → ((was : History) (calls : List Call) → K was → P was calls → Q (then_calls was calls)) → WhereTold b Q
known_with Q known p step = record {
  told = λ now is.
      let early = p.told now is in
      subst Q (sym early.3) (step early.0 early.1 (known.told early.0 early.2) early.4);
}

-- after one clause
pub known_after_told : {a b : Option History} {R : History → History → Type 0} (Q : History → Type 0) → Tells a b R
    → ((was now : History) → R was now → Q now) → WhereTold b Q
known_after_told Q first step = record { told = λ now is. let early = first.told now is in step early.0 now early.2 }

pub known_with_told : {a b : Option History} {K : History → Type 0} {R : History → History → Type 0} (Q : History → Type 0) → WhereTold a K → Tells a b R
    → ((was now : History) → K was → R was now → Q now) → WhereTold b Q
known_with_told Q known first step = record { told = λ now is. let early = first.told now is in step early.0 now (known.told early.0 early.1) early.2 }

-- At each moment of a span of calls.

pub at_now : (P : List Call → Type 0) (calls : List Call) → AtEach P calls → P calls
at_now P [] each = each
at_now P (c ∷ calls) each = each.0

pub at_map : (P Q : List Call → Type 0) (calls : List Call) → ((x : List Call) → P x → Q x) → AtEach P calls → AtEach Q calls
at_map P Q [] step each = step [] each
at_map P Q (c ∷ calls) step each = (step (c ∷ calls) each.0, at_map P Q calls step each.1)

pub at_both : (P Q : List Call → Type 0) (calls : List Call) → AtEach P calls → AtEach Q calls → AtEach (λ x. P x × Q x) calls
at_both P Q [] p q = (p, q)
at_both P Q (c ∷ calls) p q = ((p.0, q.0), at_both P Q calls p.1 q.1)

-- what holds up to a moment, and at each one after it
pub at_more : (P : List Call → Type 0) (late early : List Call) → AtEach P early → AtEach (λ x. P (x ++ early)) late → AtEach P (late ++ early)
at_more P [] early before after = before
at_more P (c ∷ late) early before after = (after.0, at_more P late early before after.1)

-- the moments up to an earlier one, and those from it on
pub at_early : (P : List Call → Type 0) (late early : List Call) → AtEach P (late ++ early) → AtEach P early
at_early P [] early each = each
at_early P (c ∷ late) early each = at_early P late early each.1

pub at_late : (P : List Call → Type 0) (late early : List Call) → AtEach P (late ++ early) → AtEach (λ x. P (x ++ early)) late
at_late P [] early each = at_now P early each
at_late P (c ∷ late) early each = (each.0, at_late P late early each.1)

-- each earlier moment is one of them
pub at_each : (P : List Call → Type 0) (late early : List Call) → AtEach P (late ++ early) → P early
at_each P late early each = at_now P early (at_early P late early each)

-- Moments by their number.

pub by_moment-last : (calls : List Call) (m : ℕ) → m ≡ length calls → by_moment m calls ≡ calls
by_moment-last calls m is =
    let none : length calls - m ≡ 0 = omega (arith, is) in
    ap (λ (n : ℕ). drop n calls) none

pub by_moment-before : (c : Call) (calls : List Call) (m : ℕ) → m ≤ length calls → by_moment m (c ∷ calls) ≡ by_moment m calls
by_moment-before c calls m le =
    let long : suc (length calls) - m ≡ suc (length calls - m) = omega (arith, le) in
    ap (λ (n : ℕ). drop n (c ∷ calls)) long

pub at_moment : (P : List Call → Type 0) (calls : List Call) → AtEach P calls → (m : ℕ) → m ≤ length calls → P (by_moment m calls)
at_moment P [] each m le = subst P (sym (by_moment-last [] m (omega (arith, le)))) each
at_moment P (c ∷ calls) each m le = elim (cases_lt m (length (c ∷ calls))) [
  | inl before ↦ subst P (sym (by_moment-before c calls m (omega (arith, before)))) (at_moment P calls each.1 m (omega (arith, before)))
  | inr last ↦ subst P (sym (by_moment-last (c ∷ calls) m (omega (arith, le, last)))) each.0
]

pub each_from_moments : (P : List Call → Type 0) (calls : List Call) → ((m : ℕ) → m ≤ length calls → P (by_moment m calls)) → AtEach P calls
each_from_moments P [] all = subst P (by_moment-last [] 0 refl) (all 0 (omega arith))
each_from_moments P (c ∷ calls) all = (
  subst P (by_moment-last (c ∷ calls) (length (c ∷ calls)) refl) (all (length (c ∷ calls)) (omega arith)),
  each_from_moments P calls (λ m le. subst P (by_moment-before c calls m le) (all m (omega (arith, le)))),
)

-- From one history to a later one.

pub started : (P : History → Type 0) (was : History) → P was → Throughout P was was
started P was here = record { more = []; extends = refl; each = here }

-- one call more
pub goes_on : (P : History → Type 0) (was mid now : History) (c : Call) → Throughout P was mid → now ≡ then_call mid c → P now → Throughout P was now
goes_on P was mid now c so_far is here =
    let whole : now ≡ then_calls was (c ∷ so_far.more) = is ∙ ap (λ (h : History). then_call h c) so_far.extends in
    record { more = c ∷ so_far.more; extends = whole; each = (subst P whole here, so_far.each) }

both_spans : (P : History → Type 0) (was : History) (late early : List Call) → AtEach (λ x. P (then_calls (then_calls was early) x)) late → AtEach (λ x. P (then_calls was x)) early
    → AtEach (λ x. P (then_calls was x)) (late ++ early)
both_spans P was [] early after before = before
both_spans P was (c ∷ late) early after before = (subst P (sym (then_calls-append was (c ∷ late) early)) after.0, both_spans P was late early after.1 before)

pub joined : (P : History → Type 0) (was mid now : History) → Throughout P was mid → Throughout P mid now → Throughout P was now
joined P was mid now first second = record {
  more = second.more ++ first.more;
  extends = second.extends ∙ ap (λ (h : History). then_calls h second.more) first.extends ∙ sym (then_calls-append was second.more first.more);
  each = both_spans P was second.more first.more (subst (λ (h : History). AtEach (λ x. P (then_calls h x)) second.more) first.extends second.each) first.each;
}

pub throughout_weaker : (P Q : History → Type 0) (was now : History) → ((h : History) → P h → Q h) → Throughout P was now → Throughout Q was now
throughout_weaker P Q was now step all = record {
  more = all.more;
  extends = all.extends;
  each = at_map (λ x. P (then_calls was x)) (λ x. Q (then_calls was x)) all.more (λ x. step (then_calls was x)) all.each;
}

-- the last moment is one of them
pub at_last : (P : History → Type 0) (was now : History) → Throughout P was now → P now
at_last P was now all = subst P (sym all.extends) (at_now (λ x. P (then_calls was x)) all.more all.each)

until-last : (h : History) (m : ℕ) → m ≡ length h.calls → until m h ≡ h
until-last h m is = ap (λ (calls : List Call). let g : History = record { opening = h.opening; key_files = h.key_files; calls = calls } in g) (by_moment-last h.calls m is)

until-before : (h : History) (c : Call) (m : ℕ) → m ≤ length h.calls → until m (then_call h c) ≡ until m h
until-before h c m le = ap (λ (calls : List Call). let g : History = record { opening = h.opening; key_files = h.key_files; calls = calls } in g) (by_moment-before c h.calls m le)

until_each : (P : History → Type 0) (was : History) (more : List Call) (m : ℕ) → AtEach (λ x. P (then_calls was x)) more → length was.calls ≤ m
    → m ≤ length (then_calls was more).calls → P (until m (then_calls was more))
until_each P was [] m each low high = subst P (sym (until-last was m (omega (arith, low, high)))) each
until_each P was (c ∷ more) m each low high = elim (cases_lt m (length (then_calls was (c ∷ more)).calls)) [
  | inl before ↦ subst P (sym (until-before (then_calls was more) c m (omega (arith, before)))) (until_each P was more m each.1 low (omega (arith, before)))
  | inr last ↦ subst P (sym (until-last (then_calls was (c ∷ more)) m (omega (arith, high, last)))) each.0
]

-- what holds throughout holds at each moment, by its number
pub throughout_moment : (P : History → Type 0) (was now : History) → Throughout P was now → (m : ℕ) → length was.calls ≤ m → m ≤ length now.calls → P (until m now)
throughout_moment P was now all m low high =
    subst (λ (h : History). P (until m h)) (sym all.extends) (until_each P was all.more m all.each low (subst (λ (h : History). m ≤ length h.calls) all.extends high))
