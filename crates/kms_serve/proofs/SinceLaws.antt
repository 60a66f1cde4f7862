-- From what holds before a part of a turn to what holds after it.
use Rattle.std.proofs.Common.{Bool, Err, List, Ok, Option, Result, Some, ap, cond, false, inl, inr, length, refl, subst, sym, true, ℕ, ◌+◌, ◌<◌, ◌==◌, ◌∙◌, ◌≡◌}
use Rattle.std.specs.Prelude.{OnOk, is_err, ◌||◌}
use Rattle.kms_core.specs.Steps.{HasState, Held}
use Rattle.kms_host.proofs.Moments.{known_after, since_add, since_since}
use Rattle.kms_host.specs.History.{History, Tells, WhereTold, then_call}
use Rattle.kms_host.specs.Line.{taken}
use Rattle.kms_host.specs.Moment.{Since}
use Rattle.kms_host.specs.declared.call.Call.{Call}
use Rattle.kms_host.specs.declared.call.Call.TheVariants.{Shut}
use Rattle.kms_http.specs.MessageStream.{After, after, after_front, is_last, served}
use Rattle.kms_http.specs.MessageStream.After.{Broken, Going, Over}
use Rattle.kms_http.specs.Messages.{front}
use Rattle.kms_http.specs.Messages.Front.{Bad}
use Rattle.kms_http.specs.Reply.{fault_reply_of}
use Rattle.kms_http.specs.declared.fault.FaultReply.TheVariants.{F1}
use Rattle.kms_http.specs.declared.message.Message.{Message}
use Rattle.kms_http.specs.declared.served.Served.{Served}
use Rattle.kms_http.specs.declared.served.Served.TheVariants.{Asking, Unreadable}
use Rattle.kms_model.specs.Course.{Course}
use Rattle.kms_world.specs.declared.refusal.Refusal.{Refusal}
use Rattle.kms_serve.proofs.GivenLaws.{ended_faulted, ended_giving, given_all}
use Rattle.kms_serve.proofs.OwesLaws.{owes_answered}
use Rattle.kms_serve.proofs.PrepareLaws.{Settling, ready_settling}
use Rattle.kms_serve.proofs.SettledLaws.{faulting, replying}
use Rattle.kms_serve.proofs.TakingLaws.{ended_over, ended_refused}
use Rattle.kms_serve.specs.Events.{request_at}
use Rattle.kms_serve.specs.Owed.{AnswersOne, Gives, GivesFault}
use Rattle.kms_serve.specs.Owing.{EndedAt, FaultingAt, IsGiven, IsReplying, Owes}
use Rattle.kms_serve.specs.Plan.{most, pipe_plan}
use Rattle.kms_serve.specs.RunStart.{FromStore}
use Rattle.kms_serve.specs.Turns.{CanServe, Faulting, Given, Good, HasEnded, IsHeld, IsSettledNow, IsTaken, IsTakenOut, Owing, Replying}
use Rattle.kms_serve.specs.declared.serving.Serving.{Serving}
use Rattle.kms_serve.specs.declared.status.Status.TheVariants as status

pub since_answered : {a d c : Option History} (endpoint key_file store : List ℕ) (before s t : Serving) (next : Served) (stand : After) (reply : List ℕ) → IsTaken before s next stand
    → t.count ≡ s.count + 1 → t.reader ≡ s.reader → Good endpoint key_file store a d before
    → Since d c (λ was calls. (e : Course) → HasState s.engine e.state → AnswersOne endpoint 0 (λ time. request_at (pipe_plan store key_file endpoint) 0 s.count time (Some next)) e s.engine t.engine reply calls)
    → Owing endpoint key_file store a c t stand reply
since_answered endpoint key_file store before s t next stand reply taken count reader good answers =
    since_since (λ was calls. FromStore (pipe_plan store key_file endpoint) was (λ b. Owes b t stand reply calls)) good answers
    (λ was x y g h found stands. owes_answered endpoint key_file store was found s before t next stand reply x y (g found stands) taken h count reader)

-- the engine after a settle
abbrev pub with_engine : Serving → Held → Serving
with_engine s engine = record { engine = engine; reader = s.reader; routes = s.routes; count = s.count }

pub since_settled : {E : Type 0} {a d c : Option History} (endpoint key_file store : List ℕ) (s : Serving) (after : Held) (stand : After) (reply : List ℕ) (result : Result (Unit {0}) E) → Owing endpoint key_file store a d s stand reply
    → Since d c (Settling s.engine after (is_err result)) → IsSettledNow endpoint key_file store a c (with_engine s after) stand reply result
since_settled endpoint key_file store s after stand reply (Ok done) owing settled =
    since_since (λ was calls. FromStore (pipe_plan store key_file endpoint) was (λ b. IsReplying b (with_engine s after) stand reply calls)) owing settled
    (λ was x y o p found stands. replying endpoint key_file store was found s after stand reply false x y (o found stands) p refl)
since_settled endpoint key_file store s after stand reply (Err fault) owing settled =
    since_since (λ was calls. FromStore (pipe_plan store key_file endpoint) was (λ b. FaultingAt b (fault_reply_of F1) calls)) owing settled
    (λ was x y o p found stands. faulting endpoint key_file store was found s after stand reply true x y (o found stands) p refl)

pub ready_settled : {E : Type 0} {d c : Option History} (then after : Held) (result : Result (Unit {0}) E) → Since d c (Settling then after (is_err result)) → OnOk result (WhereTold c (CanServe after))
ready_settled then after (Ok done) settled = known_after (CanServe after) settled (λ was calls k. ready_settling then after was calls k)
ready_settled then after (Err fault) settled = tt

-- the answer of a call that went well
abbrev pub done : (E : Type 0) → Result (Unit {0}) E
done E = Ok tt

-- what was given of a fault
pub gives_fault : {E : Type 0} (bytes : List ℕ) (result : Result (Unit {0}) E) (calls : List Call) → Gives 0 bytes result calls → GivesFault bytes calls
gives_fault bytes (Ok done) calls g = record { only = g.only; given = inl g.whole }
gives_fault bytes (Err e) calls g = record { only = g.only; given = inr g.failed }

pub since_faulted : {E : Type 0} {a d c : Option History} (endpoint key_file store : List ℕ) (result : Result (Unit {0}) E) → Faulting endpoint key_file store a d → Since d c (λ was calls. Gives 0 (fault_reply_of F1) result calls)
    → HasEnded endpoint key_file store a c status.StoreFault
since_faulted endpoint key_file store result faulting given =
    since_since (λ was calls. FromStore (pipe_plan store key_file endpoint) was (λ b. EndedAt b status.StoreFault calls)) faulting given
    (λ was x y f g found stands. ended_faulted endpoint key_file store was found (fault_reply_of F1) x y (f found stands) (gives_fault (fault_reply_of F1) result y g))

pub since_given : {E : Type 0} {a d c : Option History} (endpoint key_file store : List ℕ) (s : Serving) (stand : After) (reply : List ℕ) → 0 < length reply → Replying endpoint key_file store a d s stand reply
    → Since d c (λ was calls. Gives 0 reply (done E) calls) → Given endpoint key_file store a c s stand
since_given endpoint key_file store s stand reply some replying given =
    since_since (λ was calls. FromStore (pipe_plan store key_file endpoint) was (λ b. IsGiven b s stand calls)) replying given
    (λ was x y r g found stands. given_all endpoint key_file store was found s stand reply x y (r found stands) g.only g.whole.0 g.whole.1 some)

pub since_cut_off : {E : Type 0} {a d c : Option History} (endpoint key_file store : List ℕ) (s : Serving) (stand : After) (reply : List ℕ) (e : E) → Replying endpoint key_file store a d s stand reply
    → Since d c (λ was calls. let r : Result (Unit {0}) E = Err e in Gives 0 reply r calls) → HasEnded endpoint key_file store a c status.LinkFault
since_cut_off endpoint key_file store s stand reply e replying given =
    since_since (λ was calls. FromStore (pipe_plan store key_file endpoint) was (λ b. EndedAt b status.LinkFault calls)) replying given
    (λ was x y r g found stands. ended_giving endpoint key_file store was found s stand reply x y (r found stands) g.only g.failed)

-- the line is over, and is shut
pub since_over : {a d c : Option History} (endpoint key_file store : List ℕ) (s : Serving) → Given endpoint key_file store a d s Over → Tells d c (λ was now. now ≡ then_call was (Shut 0)) → HasEnded endpoint key_file store a c status.Done
since_over endpoint key_file store s given shut =
    since_add (λ was calls. FromStore (pipe_plan store key_file endpoint) was (λ b. EndedAt b status.Done calls)) given shut
    (λ was x g found stands. ended_over endpoint key_file store was found s x (g found stands))

pub after_refusal : {a d c : Option History} (endpoint key_file store : List ℕ) (s : Serving) → Given endpoint key_file store a d s Broken → Tells d c (λ was now. now ≡ then_call was (Shut 0))
    → HasEnded endpoint key_file store a c (status.Unreadable s.reader.passed)
after_refusal endpoint key_file store s given shut =
    since_add (λ was calls. FromStore (pipe_plan store key_file endpoint) was (λ b. EndedAt b (status.Unreadable s.reader.passed) calls)) given shut
    (λ was x g found stands. ended_refused endpoint key_file store was found s x (g found stands))

-- where the line stands after a message
abbrev pub stand_after : (last : Bool) → (rest : List ℕ) → After
stand_after last rest = cond last Over (Going rest)

pub taken_out : (before s : Serving) (message : Message) (last : Bool) → last ≡ (message.close || (s.count + 1 == most)) → IsTakenOut before s message → IsTaken before s (Asking message) (stand_after last s.reader.held)
taken_out before s message last is_last t = record {
  is_next = ap served t.whole;
  stands = ap (after_front (before.count + 1 == most)) t.whole ∙ ap (λ z. Some (cond (message.close || (z + 1 == most)) Over (Going s.reader.held))) (sym t.count) ∙ ap (λ z. Some (cond z Over (Going s.reader.held))) (sym is_last);
  stops = held last;
  place = t.place;
  engine = t.engine;
  count = t.count;
}
  where
    held : (z : Bool) → IsHeld (stand_after z s.reader.held) before s
    held true = tt
    held false = tt

pub refused_out : (s : Serving) (refusal : Refusal) → front s.reader.held ≡ Bad refusal → IsTaken s s (Unreadable refusal) Broken
refused_out s refusal bad = record {
  is_next = ap served bad;
  stands = ap (after_front (s.count + 1 == most)) bad;
  stops = (refusal, refl, bad);
  place = refl;
  engine = refl;
  count = refl;
}

-- the message was the line's last
pub after_last : {a d c : Option History} (endpoint key_file store : List ℕ) (s : Serving) (last : Bool) (rest : List ℕ) → last ≡ true → Given endpoint key_file store a d s (stand_after last rest)
    → Tells d c (λ was now. now ≡ then_call was (Shut 0)) → HasEnded endpoint key_file store a c status.Done
after_last {a} {d} {c} endpoint key_file store s last rest is given shut = since_over endpoint key_file store s (subst (λ (z : After). Given endpoint key_file store a d s z) (ap (λ z. stand_after z rest) is) given) shut

-- or the line goes on
pub after_more_come : {a d : Option History} (endpoint key_file store : List ℕ) (s : Serving) (last : Bool) (rest : List ℕ) → last ≡ false → s.reader.held ≡ rest → Given endpoint key_file store a d s (stand_after last rest) → Good endpoint key_file store a d s
after_more_come {a} {d} endpoint key_file store s last rest is held given =
    subst (λ (z : After). Given endpoint key_file store a d s z) (ap (λ z. stand_after z rest) is ∙ ap Going (sym held)) given
