-- A message is answered, and what was answered is settled.
use Rattle.std.proofs.Common.{Bool, Err, List, Ok, Option, Result, Some, [], ap, arith, false, inl, inr, length, length-append, map, refl, subst, sym, true, ℕ, ◌++◌, ◌+◌, ◌<◌, ◌∙◌, ◌∷◌, ◌≡◌, ◌⊎◌}
use Rattle.std.proofs.lemmas.Bool.{false≢true}
use Rattle.std.proofs.lemmas.List.{append-nil, append_cancel_right, nil_from_length}
use Rattle.std.specs.Prelude.{OnOk, codes, is_err, ◌||◌}
use Rattle.http.specs.StatusCode.{code_digits}
use Rattle.kms_core.specs.Settling.{IsOpened, IsSettledOrAll, Settles, count_of}
use Rattle.kms_core.specs.Steps.{HasState, Held, IsIdle, IsSettled, KeepsState, KeepsTheSame, Waits}
use Rattle.kms_host.proofs.LineLaws.{open-gives}
use Rattle.kms_host.proofs.Moments.{at_last, known_weaker, known_with, known_with_told, since_call, since_since, since_told, tells_with, then_calls-calls}
use Rattle.kms_host.proofs.ToldLaws.{tells_both, tells_idle, uncalled}
use Rattle.kms_host.specs.History.{History, Tells, WhereTold, then_call}
use Rattle.kms_host.specs.Line.{IsOpen, OnlyGives, is_shut}
use Rattle.kms_host.specs.Moment.{AtEach, Since, then_calls}
use Rattle.kms_host.specs.Store.{others}
use Rattle.kms_host.specs.declared.call.Call.{Call}
use Rattle.kms_host.specs.declared.call.Call.TheVariants.{Told, Took}
use Rattle.kms_http.specs.Date.{date_of}
use Rattle.kms_http.specs.Lines.{crlf, field}
use Rattle.kms_http.specs.MessageStream.{after, is_last}
use Rattle.kms_http.specs.Reply.{allow_field, challenge_field, close_field, fault_reply_of, length_field, media_field, printed, reason_of, status_line}
use Rattle.kms_http.specs.declared.fault.FaultReply.TheVariants.{F2, F3}
use Rattle.kms_http.specs.declared.served.Served.{Served}
use Rattle.kms_http.specs.declared.served.Served.TheVariants.{Asking, Unreadable}
use Rattle.kms_journal.specs.Cuts.{cuts}
use Rattle.kms_journal.specs.Device.{IsQuietStore}
use Rattle.kms_journal.specs.Fault.{Fails}
use Rattle.kms_journal.specs.Position.{IsPlaced, Position}
use Rattle.kms_journal.specs.Standing.{Standing}
use Rattle.kms_json.specs.Answer.{reply_of}
use Rattle.kms_kept.specs.Kept.{Kept}
use Rattle.kms_model.specs.Course.{AllFit, Course, course_at, course_from, some_draw, steps_if}
use Rattle.kms_model.specs.Course.Deed.{Asks}
use Rattle.kms_model.specs.Course.Mark.{Draw, Memory, Unmarked}
use Rattle.kms_model.specs.Requests.{asked_answer, asked_puts, asked_state, asked_stores}
use Rattle.kms_opened.specs.Opened.{Opened}
use Rattle.kms_world.specs.State.{State}
use Rattle.kms_world.specs.declared.operation.Request.{Request}
use Rattle.kms_serve.proofs.CallLaws.{same_by_draws}
use Rattle.kms_serve.proofs.CrashLaws.{same_draws, same_gave_all, same_told, same_took, settled_same}
use Rattle.kms_serve.proofs.StoreCallLaws.{failed_once, failed_since, only_files, same_by_files}
use Rattle.kms_serve.specs.Events.{LineEvent, line_event, request_at, turns_after}
use Rattle.kms_serve.specs.Owed.{AnswersOne, DrawsFor, OnlyDraws, Responds, owed_bytes}
use Rattle.kms_serve.specs.Plan.{most, pipe_plan}
use Rattle.kms_serve.specs.Replies.{course_by, event_of, replies, steps_by}
use Rattle.kms_serve.specs.Requests.{request_of}
use Rattle.kms_serve.specs.StoreCalls.{IsUnfailedBefore, OnlyFiles, store_failed}
use Rattle.kms_serve.specs.Turns.{CanServe, MaySettle}
use Rattle.kms_serve.specs.declared.owed.Owed.{Owed}
use Rattle.kms_serve.specs.declared.owed.Owed.TheVariants.{NoDraw, OutOfMemory, Reply}
use Rattle.kms_world.specs.declared.reply.Reply.{Reply as WorldReply}

-- what settling promises, as its contract says it
abbrev pub SettleClause : {T E : Type 0} → (then after : Held) → Result T E → (was now : History) → Type 0
SettleClause then after result was now = (masters : List (List ℕ)) (settled : State) (steps : ℕ) (state : State) → IsOpened masters then.store was settled steps state
    → Settles masters then.store after.store result settled steps state was now

-- The calls that settled what waits under these master keys, from this history on. Where the store failed in one of them, no more
-- is known of it.
pub record SettleCalls (masters : List (List ℕ)) (settled : State) (steps : ℕ) (state : State) (then after : Held) (failed : Bool) (mid : History) (on_files : List Call) : Type 0 where
  pub each : AtEach (λ x. IsSettledOrAll masters settled steps state (count_of then.store) then.store.journal.generation mid (then_calls mid x)) on_files
  pub done : failed ≡ false → IsSettled masters after (steps + count_of then.store) state (then_calls mid on_files)
  pub raised : failed ≡ false → after.store.journal.generation + cuts mid.calls ≡ then.store.journal.generation + cuts (then_calls mid on_files).calls
  pub quiet : failed ≡ false → IsQuietStore mid → IsQuietStore (then_calls mid on_files)

-- what was settled from an engine that might be
pub record Settling (then after : Held) (failed : Bool) (was : History) (calls : List Call) : Type 0 where
  pub may : MaySettle then was
  pub only : OnlyFiles calls
  pub idle : count_of then.store ≡ 0 → calls ≡ []
  pub fails : store_failed calls ≡ failed
  pub unfailed : IsUnfailedBefore calls
  pub same : KeepsState then after
  pub settles : (masters : List (List ℕ)) (settled : State) (steps : ℕ) (state : State) → IsOpened masters then.store was settled steps state
      → SettleCalls masters settled steps state then after failed was calls

no_calls : (h : History) (more : List Call) → then_calls h more ≡ h → more ≡ []
no_calls h more same =
    let long = ap length (sym (then_calls-calls h more) ∙ ap (λ (x : History). x.calls) same) in
    nil_from_length more (omega (arith, long, length-append more h.calls))

-- a history is extended by one list of calls
same_calls : (h : History) (a b : List Call) → then_calls h a ≡ then_calls h b → a ≡ b
same_calls h a b same = append_cancel_right a b h.calls (sym (then_calls-calls h a) ∙ ap (λ (x : History). x.calls) same ∙ then_calls-calls h b)

-- an engine has a state also under what its master keys are
pub has_under : (masters : List (List ℕ)) (engine : Held) (state : State) → engine.masters ≡ masters → HasState engine state → Opened masters engine.store.stored.kept state
has_under masters engine state same has = subst (λ (m : List (List ℕ)). Opened m engine.store.stored.kept state) same has

pub has_still : (before after : Held) (state : State) → KeepsState before after → HasState before state → HasState after state
has_still before after state same has =
    subst (λ (m : List (List ℕ)). Opened m after.store.stored.kept state) (sym same.masters)
    (subst (λ (k : Kept). Opened before.masters k state) (sym same.kept) has)

-- steps wait after an engine that was settled
pub opened_after : (masters : List (List ℕ)) (before after : Held) (steps more : ℕ) (state then : State) (h : History) → IsSettled masters before steps state h → Waits before after more
    → Opened masters after.store.stored.kept then → IsOpened masters after.store h state steps then
opened_after masters before after steps more state then h s waits opens =
    let k = s.opened in
    let o = k.opened in
    record {
      settled = k.settled;
      opened = record {
        standing = o.standing;
        placed = subst (λ (p : Position). IsPlaced p h o.standing) (sym waits.journal) o.placed;
        keeps = o.keeps;
        counted = o.counted;
        leads = waits.leads k.settled o.leads;
        total = omega (arith, waits.total (steps + count_of before.store) o.total, waits.count);
      };
      first = k.first;
      now = opens;
    }

settle_ok : {T E : Type 0} (then after : Held) (mid now : History) (x : T) (more : List Call) → now ≡ then_calls mid more
    → (let r : Result T E = Ok x in SettleClause then after r mid now) → IsIdle after
    → (masters : List (List ℕ)) (settled : State) (steps : ℕ) (state : State) → IsOpened masters then.store mid settled steps state → SettleCalls masters settled steps state then after false mid more
settle_ok then after mid now x more extends clause idle masters settled steps state opened =
    let k = clause masters settled steps state opened in
    let t = k.throughout in
    let same : t.more ≡ more = same_calls mid t.more more (sym t.extends ∙ extends) in
    record {
      each = subst (AtEach (λ z. IsSettledOrAll masters settled steps state (count_of then.store) then.store.journal.generation mid (then_calls mid z))) same t.each;
      done = λ well. record { idle = idle; opened = subst (λ (h : History). IsOpened masters after.store h state (steps + count_of then.store) state) extends k.done };
      raised = λ well. subst (λ (h : History). after.store.journal.generation + cuts mid.calls ≡ then.store.journal.generation + cuts h.calls) extends k.raised;
      quiet = λ well quiet. subst IsQuietStore extends (k.quiet quiet);
    }

settle_err : {T E : Type 0} (then after : Held) (mid now : History) (e : E) (more : List Call) → now ≡ then_calls mid more
    → (let r : Result T E = Err e in SettleClause then after r mid now)
    → (masters : List (List ℕ)) (settled : State) (steps : ℕ) (state : State) → IsOpened masters then.store mid settled steps state → SettleCalls masters settled steps state then after true mid more
settle_err then after mid now e more extends clause masters settled steps state opened =
    let k = clause masters settled steps state opened in
    let t = k.throughout in
    let same : t.more ≡ more = same_calls mid t.more more (sym t.extends ∙ extends) in
    record {
      each = subst (AtEach (λ z. IsSettledOrAll masters settled steps state (count_of then.store) then.store.journal.generation mid (then_calls mid z))) same t.each;
      done = λ well. absurd (false≢true (sym well));
      raised = λ well. absurd (false≢true (sym well));
      quiet = λ well quiet. absurd (false≢true (sym well));
    }

settle_calls : {T E : Type 0} (then after : Held) (mid now : History) (result : Result T E) → MaySettle then mid → KeepsState then after → SettleClause then after result mid now → Fails (is_err result) mid now
    → OnOk result (IsIdle after) → (count_of then.store ≡ 0 → now ≡ mid) → (more : List Call) × (now ≡ then_calls mid more) × Settling then after (is_err result) mid more
settle_calls then after mid now (Ok x) m same clause fails idle uncalled =
    let k = clause then.masters m.before m.steps m.state m.opened in
    let t = k.throughout in (
      t.more,
      t.extends,
      record {
        may = m;
        only = only_files mid t.more (ap (λ (h : History). others h) (sym t.extends) ∙ (at_last (IsSettledOrAll then.masters m.before m.steps m.state (count_of then.store) then.store.journal.generation mid) mid now t).others);
        idle = λ none. no_calls mid t.more (sym t.extends ∙ uncalled none);
        fails = failed_since mid t.more false (subst (Fails false mid) t.extends fails);
        unfailed = failed_once mid t.more false (subst (Fails false mid) t.extends fails);
        same = same;
        settles = settle_ok then after mid now x t.more t.extends clause idle;
      },
    )
settle_calls then after mid now (Err e) m same clause fails idle uncalled =
    let k = clause then.masters m.before m.steps m.state m.opened in
    let t = k.throughout in (
      t.more,
      t.extends,
      record {
        may = m;
        only = only_files mid t.more (ap (λ (h : History). others h) (sym t.extends) ∙ (at_last (IsSettledOrAll then.masters m.before m.steps m.state (count_of then.store) then.store.journal.generation mid) mid now t).others);
        idle = λ none. no_calls mid t.more (sym t.extends ∙ uncalled none);
        fails = failed_since mid t.more true (subst (Fails true mid) t.extends fails);
        unfailed = failed_once mid t.more true (subst (Fails true mid) t.extends fails);
        same = same;
        settles = settle_err then after mid now e t.more t.extends clause;
      },
    )

pub settling : {a c : Option History} {T E : Type 0} (then after : Held) (result : Result T E) → WhereTold a (MaySettle then) → Tells a c (SettleClause then after result) → Tells a c (Fails (is_err result))
    → KeepsState then after → OnOk result (IsIdle after) → (count_of then.store ≡ 0 → c ≡ a) → Since a c (Settling then after (is_err result))
settling then after result may clause fails same idle uncalled =
    since_told (Settling then after (is_err result))
    (tells_with (λ was now. MaySettle then was × (SettleClause then after result was now × Fails (is_err result) was now) × (count_of then.store ≡ 0 → now ≡ was)) may (tells_idle (tells_both clause fails) uncalled)
    (λ was now m h. (m, h.0, h.1)))
    (λ was now h. settle_calls then after was now result h.0 same h.1.0 h.1.1 idle h.2)

-- the line stays open
pub open_settling : (then after : Held) (failed : Bool) (was : History) (calls : List Call) → Settling then after failed was calls → IsOpen 0 (then_calls was calls)
open_settling then after failed was calls k =
    let here : is_shut 0 (then_calls was calls).calls ≡ is_shut 0 was.calls =
    ap (is_shut 0) (then_calls-calls was calls) ∙ same_by_files (is_shut 0) (λ file c x. refl) calls was.calls k.only in
    record { came = omega arith; not_shut = here ∙ k.may.unshut.not_shut }

-- and where all was settled the next message can be served
pub ready_settling : (then after : Held) (was : History) (calls : List Call) → Settling then after false was calls → CanServe after (then_calls was calls)
ready_settling then after was calls k =
    let m = k.may in record {
      unshut = open_settling then after false was calls k;
      state = m.state;
      steps = m.steps + count_of then.store;
      settled = subst (λ (l : List (List ℕ)). IsSettled l after (m.steps + count_of then.store) m.state (then_calls was calls)) (sym k.same.masters)
          ((k.settles then.masters m.before m.steps m.state m.opened).done refl);
    }

-- What calls on lines and draws leave as it is.

pub ready_told : (engine : Held) (time : ℕ) (was now : History) → CanServe engine was → now ≡ then_call was (Told time) → CanServe engine now
ready_told engine time was now k is = subst (CanServe engine) (sym is) (record {
  unshut = record { came = k.unshut.came; not_shut = k.unshut.not_shut };
  state = k.state;
  steps = k.steps;
  settled = settled_same engine k.steps k.state was (then_call was (Told time)) (same_told was time) k.settled;
})

pub ready_took : (engine : Held) (l room : ℕ) (bytes : Option (List ℕ)) (was now : History) → CanServe engine was → now ≡ then_call was (Took l room bytes) → CanServe engine now
ready_took engine l room bytes was now k is = subst (CanServe engine) (sym is) (record {
  unshut = record { came = k.unshut.came; not_shut = k.unshut.not_shut };
  state = k.state;
  steps = k.steps;
  settled = settled_same engine k.steps k.state was (then_call was (Took l room bytes)) (same_took was l room bytes) k.settled;
})

pub ready_gave : (engine : Held) (was : History) (gives : List Call) → CanServe engine was → OnlyGives 0 gives → CanServe engine (then_calls was gives)
ready_gave engine was gives k only = record {
  unshut = open-gives 0 0 was gives only k.unshut;
  state = k.state;
  steps = k.steps;
  settled = settled_same engine k.steps k.state was (then_calls was gives) (same_gave_all 0 was gives only) k.settled;
}

pub ready_drew : (engine : Held) (was : History) (draws : List Call) → CanServe engine was → OnlyDraws draws → CanServe engine (then_calls was draws)
ready_drew engine was draws k only = record {
  unshut = record {
    came = omega arith;
    not_shut = ap (is_shut 0) (then_calls-calls was draws) ∙ same_by_draws (is_shut 0) (λ p bytes z. refl) draws was.calls only ∙ k.unshut.not_shut;
  };
  state = k.state;
  steps = k.steps;
  settled = settled_same engine k.steps k.state was (then_calls was draws) (same_draws was draws only) k.settled;
}

-- what waits, told of an engine that keeps the same
pub waits_by : (a b after : Held) (m n : ℕ) → KeepsTheSame a.store b.store → KeepsState a b → m ≡ n → Waits b after m → Waits a after n
waits_by a b after m n same state steps w = record {
  masters = w.masters ∙ state.masters;
  journal = w.journal ∙ same.journal;
  count = omega (arith, w.count, same.count, steps);
  total = λ k counted. omega (arith, w.total k (same.total ∙ counted), steps);
  leads = λ settled l. w.leads settled (record {
    steps = l.steps;
    spells = record { count = same.count ∙ l.spells.count; spelled = same.steps ∙ l.spells.spelled; admitted = l.spells.admitted };
    leads = l.leads ∙ ap (λ (k : Kept). Some k) (sym same.kept);
  });
}

-- no step more
pub waits_none : (engine : Held) → Waits engine engine 0
waits_none engine = record { masters = refl; journal = refl; count = omega arith; total = λ n counted. omega (arith, counted); leads = λ settled l. l }

pub waits_same : (a b : Held) → KeepsTheSame a.store b.store → KeepsState a b → Waits a b 0
waits_same a b same state = waits_by a b b 0 0 same state refl (waits_none b)

-- ---- a request is answered

abbrev pub RespondsAt : (endpoint : List ℕ) → (before after : Held) → Request → (t : ℕ) → (last : Bool) → Owed → List Call → Type 0
RespondsAt endpoint before after request t last owed calls =
    (d : Course) (line : ℕ) → HasState before d.state → Responds endpoint d before after (record { line = line; event = record { deed = Asks request; time = t }; last = last }) owed calls

-- by the plain key manager
pub responds_well : (endpoint : List ℕ) (d : Course) (before after : Held) (request : Request) (line t : ℕ) (last : Bool) (bytes : List ℕ) (calls : List Call)
    → bytes ≡ printed (reply_of endpoint (asked_answer d.state request t)) t last → HasState after (asked_state d.state request t) → Waits before after (steps_if (asked_stores d.state request t))
    → DrawsFor (asked_puts d.state request t) false calls
    → Responds endpoint d before after (record { line = line; event = record { deed = Asks request; time = t }; last = last }) (Reply bytes) calls
responds_well endpoint d before after request line t last bytes calls reply state waits draws = record {
  mark = Unmarked [];
  fits = refl;
  keyless = refl;
  only = draws.only;
  drawing = draws.needed;
  no_key = draws.keyless;
  few = omega arith;
  reply_is = reply;
  state = state;
  waits = waits;
}

-- or as out of memory
pub responds_hungry : (endpoint : List ℕ) (d : Course) (before after : Held) (request : Request) (line t : ℕ) (last : Bool) (calls : List Call) → HasState before d.state
    → KeepsState before after × KeepsTheSame before.store after.store → DrawsFor (asked_puts d.state request t) false calls
    → Responds endpoint d before after (record { line = line; event = record { deed = Asks request; time = t }; last = last }) OutOfMemory calls
responds_hungry endpoint d before after request line t last calls has kept draws = record {
  mark = Memory;
  fits = refl;
  keyless = refl;
  only = draws.only;
  drawing = draws.needed;
  no_key = draws.keyless;
  few = omega arith;
  reply_is = refl;
  state = has_still before after d.state kept.0 has;
  waits = waits_same before after kept.1 kept.0;
}

-- or as out of random bytes
pub responds_undrawn : (endpoint : List ℕ) (d : Course) (before after : Held) (request : Request) (line t : ℕ) (last : Bool) (calls : List Call) → HasState before d.state
    → KeepsState before after × KeepsTheSame before.store after.store → asked_puts d.state request t ≡ true → DrawsFor (asked_puts d.state request t) true calls
    → Responds endpoint d before after (record { line = line; event = record { deed = Asks request; time = t }; last = last }) NoDraw calls
responds_undrawn endpoint d before after request line t last calls has kept puts draws = record {
  mark = Draw;
  fits = puts;
  keyless = refl;
  only = draws.only;
  drawing = draws.needed;
  no_key = draws.keyless;
  few = let some = draws.failing refl in omega (arith, some);
  reply_is = refl;
  state = has_still before after d.state kept.0 has;
  waits = waits_same before after kept.1 kept.0;
}

status_some : (n : ℕ) → 0 < length (status_line n)
unfolding status_line
status_some n = omega (arith, length-append (codes "HTTP/1.1 " ++ (code_digits n ++ (codes " " ++ reason_of n))) crlf)

longer : (a b : List ℕ) → 0 < length a → 0 < length (a ++ b)
longer a b some = omega (arith, length-append a b, some)

-- no reply is empty
pub printed_some : (r : WorldReply) (t : ℕ) (last : Bool) → 0 < length (printed r t last)
unfolding printed
printed_some r t last =
    let dated = longer (status_line r.status) (field (codes "Date") (date_of t)) (status_some r.status) in
    let with_media = longer _ (media_field r.media) dated in
    let with_length = longer _ (length_field r.status (length r.body)) with_media in
    let with_allow = longer _ (allow_field r.status r.allow) with_length in
    let with_challenge = longer _ (challenge_field r.status) with_allow in
    let with_close = longer _ (close_field last) with_challenge in
    longer _ r.body (longer _ crlf with_close)

pub hungry_some : 0 < length (fault_reply_of F3)
unfolding fault_reply_of
hungry_some = omega arith

pub undrawn_some : 0 < length (fault_reply_of F2)
unfolding fault_reply_of
undrawn_some = omega arith

-- no worker has a turn, and no key is wrapped anew
pub no_turns : (store key_file endpoint : List ℕ) (next : Served) (line t : ℕ) → turns_after (pipe_plan store key_file endpoint) next line t ≡ []
no_turns store key_file endpoint (Unreadable refusal) line t = refl
no_turns store key_file endpoint (Asking message) line t = refl

-- the request of a message
abbrev pub asking : (n time : ℕ) → Served → LineEvent
asking n time next = line_event 0 time (is_last most n next) (Asks (request_of next))

-- what a request was answered, of each course whose state the engine has
abbrev pub RespondsTo : (endpoint : List ℕ) → (before after : Held) → LineEvent → Owed → List Call → Type 0
RespondsTo endpoint before after e owed calls = (d : Course) → HasState before d.state → Responds endpoint d before after e owed calls

pub one_answer : {a d c : Option History} (store key_file endpoint : List ℕ) (before after : Held) (next : Served) (n time : ℕ) (owed : Owed)
    → Tells a d (λ was now. now ≡ then_call was (Told time))
    → Since d c (λ was calls. RespondsTo endpoint before after (asking n time next) owed calls)
    → Since a c (λ was calls. (q : Course) → HasState before q.state → AnswersOne endpoint 0 (λ t. request_at (pipe_plan store key_file endpoint) 0 n t (Some next)) q before after (owed_bytes owed) calls)
one_answer store key_file endpoint before after next n time owed told responds =
    since_since (λ was calls. (q : Course) → HasState before q.state → AnswersOne endpoint 0 (λ t. request_at (pipe_plan store key_file endpoint) 0 n t (Some next)) q before after (owed_bytes owed) calls)
    (since_call told) responds
    (λ was first draws is h q has.
    let r = h q has in
    let alone : request_at (pipe_plan store key_file endpoint) 0 n time (Some next) ≡ asking n time next ∷ [] =
    ap (λ (l : List LineEvent). asking n time next ∷ l) (no_turns store key_file endpoint next 0 time) in
    record {
      time = time;
      marks = r.mark ∷ [];
      draws = draws;
      made = ap (λ (z : List Call). draws ++ z) is;
      only = r.only;
      drawing = drawing q r alone;
      marked = ap (λ (l : List LineEvent). length l) alone;
      fit = subst (λ (l : List LineEvent). AllFit q (map event_of l) (r.mark ∷ [])) (sym alone) (r.fits, tt);
      keys = r.keyless ∙ sym r.no_key;
      few = r.few;
      reply = r.reply_is ∙ sym (append-nil _) ∙ ap (λ (l : List LineEvent). replies 0 endpoint q l (r.mark ∷ [])) (sym alone);
      state = subst (λ (l : List LineEvent). HasState after (course_by q l (r.mark ∷ [])).state) (sym alone) r.state;
      waits = subst (λ (l : List LineEvent). Waits before after (steps_by q l (r.mark ∷ []))) (sym alone) (subst (Waits before after) (plus_none _) r.waits);
    })
  where
    plus_none : (k : ℕ) → k ≡ k + 0
    plus_none k = omega arith

    or_false : (z : Bool) → z ≡ true → (z || false) ≡ true
    or_false true is = refl
    or_false false is = absurd (false≢true is)

    drawing : {draws : List Call} (q : Course) → (r : Responds endpoint q before after (asking n time next) owed draws) → request_at (pipe_plan store key_file endpoint) 0 n time (Some next) ≡ asking n time next ∷ []
        → (draws ≡ []) ⊎ (some_draw 0 q (map event_of (request_at (pipe_plan store key_file endpoint) 0 n time (Some next))) (r.mark ∷ []) ≡ true)
    drawing q r alone = elim r.drawing [
      | inl none ↦ inl none
      | inr some ↦ inr (subst (λ (l : List LineEvent). some_draw 0 q (map event_of l) (r.mark ∷ []) ≡ true) (sym alone) (or_false _ some))
    ]

-- The steps that wait may be settled after the draws.
pub may_settle : {a d c : Option History} (endpoint : List ℕ) (before then : Held) (time : ℕ) (e : LineEvent) (owed : Owed) → WhereTold a (CanServe before) → Tells a d (λ was now. now ≡ then_call was (Told time))
    → Since d c (λ was calls. RespondsTo endpoint before then e owed calls) → WhereTold c (MaySettle then)
unfolding ready_drew
may_settle endpoint before then time e owed ready told responds =
    known_with (MaySettle then) (known_with_told (CanServe before) ready told (λ was now k is. ready_told before time was now k is)) responds
    (λ was draws k h.
    let r = h (course_from k.state 0 0) (k.settled.opened.now) in
    let later = ready_drew before was draws k r.only in
    let masters = r.waits.masters in
    record {
      unshut = later.unshut;
      before = k.state;
      steps = k.steps;
      state = (course_at (course_from k.state 0 0) e.event r.mark).state;
      opened = subst (λ (l : List (List ℕ)). IsOpened l then.store (then_calls was draws) k.state k.steps (course_at (course_from k.state 0 0) e.event r.mark).state) (sym masters)
          (opened_after before.masters before then k.steps _ k.state _ (then_calls was draws) later.settled r.waits (has_under before.masters then _ masters r.state));
    })

-- Where the steps that wait are written, the journal stands at its place.
pub placed : {d : Option History} (then : Held) → WhereTold d (MaySettle then) → 0 < count_of then.store → WhereTold d (λ h. (s : Standing) × IsPlaced then.store.journal h s)
placed then may some = known_weaker (λ h. (s : Standing) × IsPlaced then.store.journal h s) may (λ now m. (m.opened.opened.standing, m.opened.opened.placed))
