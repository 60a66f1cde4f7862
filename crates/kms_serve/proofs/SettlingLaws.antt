-- A batch is settled: what the program keeps holds again.
use Rattle.std.proofs.Common.{Bool, List, [], ap, append_assoc, arith, cond, drop, false, get_or, inl, inr, length, length-append, map, nat_eq, refl, subst, suc, sym, true, ℕ, ◌%◌, ◌*◌, ◌++◌, ◌+◌, ◌<◌, ◌∙◌, ◌∷◌, ◌≡◌, ◌≤◌, ◌⊎◌}
use Rattle.std.proofs.lemmas.Bool.{ne_eqb}
use Rattle.kms_host.proofs.Moments.{at_now}
use Rattle.kms_host.specs.Disk.{IsImage, files}
use Rattle.kms_host.specs.Line.{failed_on, sent, times}
use Rattle.kms_host.specs.Moment.{AtEach}
use Rattle.kms_host.specs.Random.{drawn}
use Rattle.kms_host.specs.Store.{apart_from_files, syncs}
use Rattle.kms_host.specs.declared.call.Call.{Call}
use Rattle.kms_host.specs.declared.call.Call.TheVariants.{Attached, Came, Drew, Gave, Listened, OnFile, Shut, Text, Told, Took}
use Rattle.kms_host.specs.declared.call.FileCall.{FileCall}
use Rattle.kms_host.specs.declared.call.Purpose.TheVariants.{OrderKey}
use Rattle.kms_journal.specs.Device.{IsQuietStore}
use Rattle.kms_model.specs.Course.{AllFit, Course, Mark, course_at, outcome_at}
use Rattle.kms_serve.proofs.AnswerLaws.{alive_off}
use Rattle.kms_serve.proofs.BatchLaws.{apart_in_batch, batch_open, few_open, open_first}
use Rattle.kms_serve.proofs.CrashLaws.{holds_settling}
use Rattle.kms_serve.proofs.ReplyLaws.{on_event, replies-cut}
use Rattle.kms_serve.proofs.StoreCallLaws.{same_by_files}
use Rattle.kms_serve.specs.Allowed.{InTurn}
use Rattle.kms_serve.specs.Answered.{Answered}
use Rattle.kms_serve.specs.Batches.{batch_size, before_batch, before_open, in_batch, is_settled, settles}
use Rattle.kms_serve.specs.Crash.{IsSafe, KeepsAfter}
use Rattle.kms_serve.specs.Events.{LineEvent, events, events_at, requests}
use Rattle.kms_serve.specs.Marks.{FewDraws}
use Rattle.kms_serve.specs.Owing.{GivingAt, OwingAt, on_line}
use Rattle.kms_serve.specs.Plan.{Command, IsAlive, line_now, replies_on_lines}
use Rattle.kms_serve.specs.Plan.Command.{Check, Pipe, Serve}
use Rattle.kms_serve.specs.Renewals.{IsRenewed, renewals}
use Rattle.kms_serve.specs.Replies.{answered_if, course_by, due_if, event_of, fault_on, newest_batch, owed_to, replies, reply_to, steps_by}
use Rattle.kms_serve.specs.RunStart.{RunStart, history}
use Rattle.kms_serve.specs.StoreCalls.{OnlyFiles, store_failed}

-- What a settle says of each of its moments: an image keeps what came before the batch, or the batch too; at most two syncs
-- were made, and three for each snapshot; and the generation rose by these.
pub record IsSettlingAt (b : RunStart) (ms : List Mark) (x : List Call) (calls : List Call) : Type 0 where
  pub images : IsQuietStore b.was → (image : List ℕ × List ℕ) → IsImage (history b calls) image
      → KeepsAfter b ms (events b.plan (before_open x)) image ⊎ KeepsAfter b ms (events b.plan x) image
  pub few : syncs (history b calls).calls + 3 * renewals x ≤ syncs (history b x).calls + 2 + 3 * renewals calls
  pub renewed : IsRenewed b calls

-- Behind a batch that is answered a file is called: the theorem holds at each moment of the settle, whether a call of it fails or not.
module _ (b : RunStart) (ms : List Mark) (owed : List ℕ) (x : List Call) (n : ℕ) (o : OwingAt b ms owed x) (open_batch : in_batch x ≡ suc n) where
  abbrev pub all : List LineEvent
  all = events b.plan x

  abbrev pub settled : List LineEvent
  settled = events b.plan (before_open x)

  before : before_batch x ≡ before_open x
  before = batch_open x n open_batch

  settle_silent : replies_on_lines b.plan.command ≡ false → (line : ℕ) → sent line x ≡ []
  settle_silent off line = o.given line (alive_off b.plan.command line x off) ∙ ap (λ z. cond z (replies line b.plan.endpoint b.first settled ms) []) off

  few_sent : replies_on_lines b.plan.command ≡ true → (line : ℕ) → length (sent line x) ≤ length (replies line b.plan.endpoint b.first settled ms)
  few_sent on line =
      let same : owed_to line b ms settled ≡ replies line b.plan.endpoint b.first settled ms = ap (λ z. cond z (replies line b.plan.endpoint b.first settled ms) []) on in
      omega (arith, o.few line, ap (λ (z : List ℕ). length z) same)

  first_settled : (more : List LineEvent) × (all ≡ settled ++ more)
  first_settled = open_first b.plan x

  few_settled_marks : length settled ≤ length ms
  few_settled_marks = omega (arith, few_open b.plan x, o.are_marks.marked)

  events_files : (files : List Call) → OnlyFiles files → events b.plan (files ++ x) ≡ all
  events_files files only = same_by_files (events b.plan) (λ file c calls. refl) files x only

  batch_files : (files : List Call) → OnlyFiles files → events b.plan (before_batch (files ++ x)) ≡ settled
  batch_files files only = ap (λ (y : List Call). events b.plan y) (same_by_files before_batch (λ file c calls. refl) files x only ∙ before)

  sent_files : (line : ℕ) (files : List Call) → OnlyFiles files → sent line (files ++ x) ≡ sent line x
  sent_files line files only = same_by_files (sent line) (λ file c calls. refl) files x only

  answered_files : (files : List Call) → OnlyFiles files → (failed : Bool) → (failed ≡ true → answered_if failed b.plan (files ++ x) ≡ settled) × (failed ≡ false → answered_if failed b.plan (files ++ x) ≡ events b.plan (files ++ x))
  answered_files files only true = (λ e. batch_files files only, λ e. absurd (let no : true ≡ false = e in cc))
  answered_files files only false = (λ e. absurd (let no : false ≡ true = e in cc), λ e. refl)

  settling_safe : (files : List Call) → OnlyFiles files → is_settled (files ++ x) ≡ false → IsSettlingAt b ms x (files ++ x) → IsSafe b ms (files ++ x)
  settling_safe files only busy s = record {
    images = λ quiet image is.
        let among = answered_files files only (store_failed (files ++ x)) in
        holds_settling b ms settled first_settled.0 (files ++ x) image (store_failed (files ++ x)) (events_files files only ∙ first_settled.1) among.0 among.1 few_settled_marks
        (λ on line. subst (λ (z : List ℕ). length z ≤ length (replies line b.plan.endpoint b.first settled ms)) (sym (sent_files line files only)) (few_sent on line))
        (λ off. sent_files 0 files only ∙ settle_silent off 0)
        busy
        (subst (λ (es : List LineEvent). KeepsAfter b ms settled image ⊎ KeepsAfter b ms es image) (sym (events_files files only)) (s.images quiet image is));
  }

  alive_files : (command : Command) (line : ℕ) (files : List Call) → OnlyFiles files → IsAlive command line (files ++ x) → IsAlive command line x
  alive_files Pipe line files only h = tt
  alive_files (Serve address connections) line files only h = sym (same_by_files (failed_on line) (λ file c calls. refl) files x only) ∙ h
  alive_files Check line files only h = tt

  events_at_files : (command : Command) (es : List LineEvent) (t : ℕ) (files : List Call) → OnlyFiles files → events_at b.plan command es (files ++ x) t ≡ events_at b.plan command es x t
  events_at_files command es t files only = same_by_files (λ y. events_at b.plan command es y t) (λ file c calls. same command file c calls) files x only
    where
      same : (command : Command) (file : ℕ) (c : FileCall) (calls : List Call) → events_at b.plan command es (OnFile file c ∷ calls) t ≡ events_at b.plan command es calls t
      same Pipe file c calls = refl
      same (Serve address connections) file c calls = refl
      same Check file c calls = refl

  sound_files : (files : List Call) → OnlyFiles files → failed_on (line_now b.plan.command (files ++ x)) (files ++ x) ≡ failed_on (line_now b.plan.command x) x
  sound_files files only = same_by_files (λ y. failed_on (line_now b.plan.command y) y) (λ file c calls. same b.plan.command file c calls) files x only
    where
      same : (command : Command) (file : ℕ) (c : FileCall) (calls : List Call) → failed_on (line_now command (OnFile file c ∷ calls)) (OnFile file c ∷ calls) ≡ failed_on (line_now command calls) calls
      same Pipe file c calls = refl
      same (Serve address connections) file c calls = refl
      same Check file c calls = refl

  settling_turn : (file : ℕ) (c : FileCall) (files : List Call) → OnlyFiles files
      → failed_on (line_now b.plan.command x) x ≡ false → steps_by b.first settled ms < steps_by b.first all ms
      → (batch_size x % b.plan.batch ≡ 0) ⊎ ((t : ℕ) → events_at b.plan b.plan.command all x t ≡ [])
      → store_failed (files ++ x) ≡ false
      → InTurn b ms (OnFile file c ∷ (files ++ x))
  settling_turn file c files only sound needed full unfailed = record {
    given = λ line alive.
        sent_files line files only ∙ o.given line (alive_files b.plan.command line files only alive)
        ∙ ap (λ (es : List LineEvent). owed_to line b ms es) (sym (batch_files files only));
    needed = inr (record {
      answering = omega (arith, open_batch, apart_in_batch x, same_by_files (λ y. in_batch (apart_from_files y)) (λ file c calls. refl) files x only);
      needed = omega (arith, needed, ap (λ (es : List LineEvent). steps_by b.first es ms) (batch_files files only), ap (λ (es : List LineEvent). steps_by b.first es ms) (events_files files only));
      full = elim full [
        | inl size ↦ inl (ap (λ k. k % b.plan.batch) (same_by_files batch_size (λ file c calls. refl) files x only) ∙ size)
        | inr none ↦ inr (λ t. ap (λ (es : List LineEvent). events_at b.plan b.plan.command es (files ++ x) t) (events_files files only) ∙ events_at_files b.plan.command all t files only ∙ none t)
      ];
    });
    sound = sound_files files only ∙ sound;
    unfailed = unfailed;
  }

  -- what was sent is a prefix of what is due, whether the settle fails or not
  settling_printed : (failed on : Bool) → replies_on_lines b.plan.command ≡ on → (line : ℕ) (files : List Call) → OnlyFiles files
      → (rest : List ℕ) × (due_if failed on line b ms (files ++ x) ≡ sent line (files ++ x) ++ rest)
  settling_printed failed false off line files only =
      let none : sent line (files ++ x) ≡ [] = sent_files line files only ∙ settle_silent off line in
      (due_if failed false line b ms (files ++ x), ap (λ (z : List ℕ). z ++ due_if failed false line b ms (files ++ x)) (sym none))
  settling_printed false true on line files only =
      let a = at_now (Answered b ms) x o.each in
      let p = a.printed line in
      let before_it : replies line b.plan.endpoint b.first all ms ≡ sent line x ++ p.0 =
      ap (λ z. due_if false z line b ms x) (sym on) ∙ ap (λ z. due_if z (replies_on_lines b.plan.command) line b ms x) (sym o.unfailed) ∙ p.1 in
      (p.0, ap (λ (es : List LineEvent). replies line b.plan.endpoint b.first es ms) (events_files files only) ∙ before_it ∙ ap (λ (z : List ℕ). z ++ p.0) (sym (sent_files line files only)))
  settling_printed true true on line files only =
      let a = at_now (Answered b ms) x o.each in
      let p = a.printed line in
      let fault = fault_on line (newest_batch b.plan (files ++ x)) in
      let before_it : replies line b.plan.endpoint b.first all ms ≡ sent line x ++ p.0 =
      ap (λ z. due_if false z line b ms x) (sym on) ∙ ap (λ z. due_if z (replies_on_lines b.plan.command) line b ms x) (sym o.unfailed) ∙ p.1 in
      let whole : replies line b.plan.endpoint b.first all ms ≡ replies line b.plan.endpoint b.first settled ms ++ replies line b.plan.endpoint (course_by b.first settled ms) first_settled.0 (drop (length settled) ms) =
      replies_cut line first_settled.0 first_settled.1 in
      let front = front_of (sent line x) (replies line b.plan.endpoint b.first settled ms) p.0 _ (sym before_it ∙ whole) (few_sent on line) in (
        front.0 ++ fault,
        ap (λ (es : List LineEvent). replies line b.plan.endpoint b.first es ms ++ fault) (batch_files files only)
            ∙ ap (λ (z : List ℕ). z ++ fault) front.1
            ∙ append_assoc (sent line x) front.0 fault
            ∙ ap (λ (z : List ℕ). z ++ (front.0 ++ fault)) (sym (sent_files line files only)),
      )
    where
      front_of : (u v r s : List ℕ) → u ++ r ≡ v ++ s → length u ≤ length v → (w : List ℕ) × (v ≡ u ++ w)
      front_of [] v r s e le = (v, refl)
      front_of (a ∷ u) [] r s e le = absurd (omega (arith, le))
      front_of (a ∷ u) (c ∷ v) r s e le =
          let head : a ≡ c = ap (λ (z : List ℕ). get_or z 0 0) e in
          let tail : u ++ r ≡ v ++ s = ap (λ (z : List ℕ). drop 1 z) e in
          let w = front_of u v r s tail (omega (arith, le)) in
          (w.0, ap (λ k. k ∷ v) (sym head) ∙ ap (λ (z : List ℕ). a ∷ z) w.1)

      replies_cut : (line : ℕ) (more : List LineEvent) → all ≡ settled ++ more
          → replies line b.plan.endpoint b.first all ms ≡ replies line b.plan.endpoint b.first settled ms ++ replies line b.plan.endpoint (course_by b.first settled ms) more (drop (length settled) ms)
      replies_cut line more e = ap (λ (z : List LineEvent). replies line b.plan.endpoint b.first z ms) e ∙ replies-cut line b.plan.endpoint b.first settled more ms few_settled_marks

  settles_files : (file : ℕ) (c : FileCall) (files : List Call) → OnlyFiles files → settles (OnFile file c ∷ (files ++ x)) ≡ settles x + 1
  settles_files file c [] only = ap (λ k. cond (nat_eq k 0) (settles x) (settles x + 1)) open_batch ∙ ap (λ (z : Bool). cond z (settles x) (settles x + 1)) (ne_eqb (suc n) 0 (λ e. omega (arith, e)))
  settles_files file c (Text name room bytes ∷ files) only = absurd only
  settles_files file c (Attached name done ∷ files) only = absurd only
  settles_files file c (Listened address done ∷ files) only = absurd only
  settles_files file c (Came next ∷ files) only = absurd only
  settles_files file c (Took line room bytes ∷ files) only = absurd only
  settles_files file c (Gave line piece went ∷ files) only = absurd only
  settles_files file c (Shut line ∷ files) only = absurd only
  settles_files file c (OnFile f d ∷ files) only = settles_files f d files only
  settles_files file c (Told t ∷ files) only = absurd only
  settles_files file c (Drew purpose bytes ∷ files) only = absurd only

  pub settling_answered : (file : ℕ) (c : FileCall) (files : List Call) → OnlyFiles files
      → failed_on (line_now b.plan.command x) x ≡ false → steps_by b.first settled ms < steps_by b.first all ms
      → (batch_size x % b.plan.batch ≡ 0) ⊎ ((t : ℕ) → events_at b.plan b.plan.command all x t ≡ [])
      → store_failed (files ++ x) ≡ false
      → IsSettlingAt b ms x (OnFile file c ∷ (files ++ x)) → Answered b ms (OnFile file c ∷ (files ++ x))
  settling_answered file c files only sound needed full unfailed s =
      let a = at_now (Answered b ms) x o.each in
      let es = events_files (OnFile file c ∷ files) only in
      let told : times (OnFile file c ∷ (files ++ x)) ≡ times x = same_by_files times (λ file c calls. refl) (OnFile file c ∷ files) x only in
      record {
        within = omega (arith, ap (λ (z : List LineEvent). length z) es, a.within);
        timed = ap (λ (z : List ℕ). length z) told ∙ a.timed ∙ ap (λ (z : List LineEvent). requests z) (sym es);
        printed = λ line. settling_printed (store_failed (OnFile file c ∷ (files ++ x))) (replies_on_lines b.plan.command) refl line (OnFile file c ∷ files) only;
        in_turn = settling_turn file c files only sound needed full unfailed;
        still = tt;
        safe = settling_safe (OnFile file c ∷ files) only refl s;
        unasked = λ none. absurd (some (sym es ∙ none));
        few_syncs = omega (arith, s.few, a.few_syncs, settles_files file c files only);
        renewed = s.renewed;
      }
    where
      some : all ≡ [] → ⊥
      some none = omega (arith, needed, ap (λ (z : List LineEvent). steps_by b.first z ms) none)

-- the replies to what came before the batch are no more than those to all
pub owed_first : (b : RunStart) (ms : List Mark) (x : List Call) (l : ℕ) → length (owed_to l b ms (events b.plan (before_open x))) ≤ length (owed_to l b ms (events b.plan x))
owed_first b ms x l =
    let f = open_first b.plan x in
    subst (λ (z : List LineEvent). length (owed_to l b ms (events b.plan (before_open x))) ≤ length (owed_to l b ms z)) (sym f.1)
    (either (replies_on_lines b.plan.command) (replies l b.plan.endpoint b.first (events b.plan (before_open x)) ms) (replies l b.plan.endpoint b.first (events b.plan (before_open x) ++ f.0) ms) (fewer b.first (events b.plan (before_open x)) f.0 ms))
  where
    fewer : (c : Course) (es more : List LineEvent) (ms : List Mark) → length (replies l b.plan.endpoint c es ms) ≤ length (replies l b.plan.endpoint c (es ++ more) ms)
    fewer c [] more ms = omega arith
    fewer c (d ∷ es) more [] = omega arith
    fewer c (d ∷ es) more (m ∷ ms) =
        let here : List ℕ = on_event l d (reply_to b.plan.endpoint d (outcome_at c d.event m)) in
        omega (
          arith,
          fewer (course_at c d.event m) es more ms,
          length-append here (replies l b.plan.endpoint (course_at c d.event m) es ms),
          length-append here (replies l b.plan.endpoint (course_at c d.event m) (es ++ more) ms),
        )

    either : (z : Bool) (u v : List ℕ) → length u ≤ length v → length (cond z u []) ≤ length (cond z v [])
    either true u v h = h
    either false u v h = omega arith

-- each moment of the settle was as its clause says
abbrev pub SettlesEach : RunStart → List Mark → (x files : List Call) → Type 0
SettlesEach b ms x [] = Unit {0}
SettlesEach b ms x (c ∷ files) = IsSettlingAt b ms x (c ∷ (files ++ x)) × (store_failed (files ++ x) ≡ false) × SettlesEach b ms x files

pub settled_each : (b : RunStart) (ms : List Mark) (owed : List ℕ) (x : List Call) (n : ℕ) (o : OwingAt b ms owed x) → in_batch x ≡ suc n
    → failed_on (line_now b.plan.command x) x ≡ false → steps_by b.first (events b.plan (before_open x)) ms < steps_by b.first (events b.plan x) ms
    → (batch_size x % b.plan.batch ≡ 0) ⊎ ((t : ℕ) → events_at b.plan b.plan.command (events b.plan x) x t ≡ [])
    → (files : List Call) → OnlyFiles files → SettlesEach b ms x files → AtEach (Answered b ms) (files ++ x)
settled_each b ms owed x n o open_batch sound needed full [] only s = o.each
settled_each b ms owed x n o open_batch sound needed full (Text name room bytes ∷ files) only s = absurd only
settled_each b ms owed x n o open_batch sound needed full (Attached name done ∷ files) only s = absurd only
settled_each b ms owed x n o open_batch sound needed full (Listened address done ∷ files) only s = absurd only
settled_each b ms owed x n o open_batch sound needed full (Came next ∷ files) only s = absurd only
settled_each b ms owed x n o open_batch sound needed full (Took line room bytes ∷ files) only s = absurd only
settled_each b ms owed x n o open_batch sound needed full (Gave line piece went ∷ files) only s = absurd only
settled_each b ms owed x n o open_batch sound needed full (Shut line ∷ files) only s = absurd only
settled_each b ms owed x n o open_batch sound needed full (OnFile file c ∷ files) only s =
    (settling_answered b ms owed x n o open_batch file c files only sound needed full s.1 s.0, settled_each b ms owed x n o open_batch sound needed full files only s.2)
settled_each b ms owed x n o open_batch sound needed full (Told t ∷ files) only s = absurd only
settled_each b ms owed x n o open_batch sound needed full (Drew purpose bytes ∷ files) only s = absurd only

pub few_draws_files : (b : RunStart) (ms : List Mark) (k : ℕ) (files x : List Call) → OnlyFiles files → FewDraws b ms k x → FewDraws b ms k (files ++ x)
few_draws_files b ms k [] x only h = h
few_draws_files b ms k (Text name room bytes ∷ files) x only h = absurd only
few_draws_files b ms k (Attached name done ∷ files) x only h = absurd only
few_draws_files b ms k (Listened address done ∷ files) x only h = absurd only
few_draws_files b ms k (Came next ∷ files) x only h = absurd only
few_draws_files b ms k (Took line room bytes ∷ files) x only h = absurd only
few_draws_files b ms k (Gave line piece went ∷ files) x only h = absurd only
few_draws_files b ms k (Shut line ∷ files) x only h = absurd only
few_draws_files b ms k (OnFile file c ∷ files) x only h = few_draws_files b ms k files x only h
few_draws_files b ms k (Told t ∷ files) x only h = absurd only
few_draws_files b ms k (Drew purpose bytes ∷ files) x only h = absurd only

pub now_files : (b : RunStart) (files x : List Call) → OnlyFiles files → line_now b.plan.command (files ++ x) ≡ line_now b.plan.command x
now_files b files x only = same_by_files (line_now b.plan.command) (λ file c calls. skip b.plan.command file c calls) files x only
  where
    skip : (command : Command) (file : ℕ) (c : FileCall) (calls : List Call) → line_now command (OnFile file c ∷ calls) ≡ line_now command calls
    skip Pipe file c calls = refl
    skip (Serve address connections) file c calls = refl
    skip Check file c calls = refl

alive_over : (b : RunStart) (l : ℕ) (files x : List Call) → OnlyFiles files → IsAlive b.plan.command l (files ++ x) → IsAlive b.plan.command l x
alive_over b l files x only = either b.plan.command
  where
    either : (command : Command) → IsAlive command l (files ++ x) → IsAlive command l x
    either Pipe h = tt
    either (Serve address connections) h = sym (same_by_files (failed_on l) (λ file c calls. refl) files x only) ∙ h
    either Check h = tt

-- A batch with a step was settled well: its replies are to be given.
pub settled_well : (b : RunStart) (ms : List Mark) (owed : List ℕ) (x : List Call) (n : ℕ) (o : OwingAt b ms owed x) → in_batch x ≡ suc n
    → failed_on (line_now b.plan.command x) x ≡ false → steps_by b.first (events b.plan (before_open x)) ms < steps_by b.first (events b.plan x) ms
    → (batch_size x % b.plan.batch ≡ 0) ⊎ ((t : ℕ) → events_at b.plan b.plan.command (events b.plan x) x t ≡ [])
    → (files : List Call) → OnlyFiles files → SettlesEach b ms x files → store_failed (files ++ x) ≡ false
    → (IsQuietStore b.was → (image : List ℕ × List ℕ) → IsImage (history b (files ++ x)) image → KeepsAfter b ms (events b.plan x) image)
    → GivingAt b ms owed (files ++ x)
settled_well b ms owed x n o open_batch sound needed full files only s well kept =
    let all : events b.plan (files ++ x) ≡ events b.plan x = same_by_files (events b.plan) (λ file c calls. refl) files x only in
    let went : (l : ℕ) → sent l (files ++ x) ≡ sent l x = λ l. same_by_files (sent l) (λ file c calls. refl) files x only in
    let m = o.are_marks in
    record {
      each = settled_each b ms owed x n o open_batch sound needed full files only s;
      are_marks = record {
        marked = ap (λ (z : List LineEvent). length z) all ∙ m.marked;
        fit = subst (λ (z : List LineEvent). AllFit b.first (map event_of z) ms) (sym all) m.fit;
        keys = m.keys ∙ sym (same_by_files (drawn OrderKey) (λ file c calls. refl) files x only);
        few = few_draws_files b ms 0 files x only m.few;
      };
      few = λ l. omega (arith, o.few l, owed_first b ms x l, ap (λ (z : List ℕ). length z) (went l), ap (λ (z : List LineEvent). length (owed_to l b ms z)) all);
      owes = λ l alive.
          ap (λ (z : List LineEvent). owed_to l b ms z) all ∙ o.owes l (alive_over b l files x only alive)
          ∙ ap (λ z. z ++ on_line (line_now b.plan.command x) l owed) (sym (went l)) ∙ ap (λ k. sent l (files ++ x) ++ on_line k l owed) (sym (now_files b files x only));
      keeps = λ quiet image is. subst (λ (z : List LineEvent). KeepsAfter b ms z image) (sym all) (kept quiet image is);
      unfailed = well;
    }
