-- Moments of a run that the theorem refuses, for any number of workers and messages in a batch, and of many lines.
use Rattle.std.proofs.Common.{Bool, List, None, Option, Some, [], ap, arith, cond, drop, false, inl, inr, length, length-append, nat_eq, refl, subst, suc, sym, take, true, zero, ℕ, ◌%◌, ◌++◌, ◌+◌, ◌<◌, ◌∙◌, ◌∷◌, ◌≡◌, ◌≤◌}
use Rattle.std.specs.List.{AllByRecursion}
use Rattle.kms_aes.specs.Cipher.{IsBytes}
use Rattle.kms_core.proofs.StandsLaws.{one_state}
use Rattle.kms_core.specs.Stands.{Stands}
use Rattle.kms_host.specs.Disk.{IsImage}
use Rattle.kms_host.specs.Line.{sent}
use Rattle.kms_host.specs.declared.call.Call.{Call}
use Rattle.kms_host.specs.declared.call.Call.TheVariants.{Came, Drew, Gave, OnFile, Told, Took}
use Rattle.kms_host.specs.declared.call.FileCall.{FileCall}
use Rattle.kms_host.specs.declared.call.Purpose.{Purpose}
use Rattle.kms_host.specs.declared.call.Purpose.TheVariants.{Tag}
use Rattle.kms_http.specs.MessageStream.{after}
use Rattle.kms_http.specs.Reply.{fault_reply_of}
use Rattle.kms_http.specs.declared.fault.FaultReply.TheVariants.{F1}
use Rattle.kms_journal.specs.Device.{IsQuietStore}
use Rattle.kms_model.specs.Ask.{stores}
use Rattle.kms_model.specs.Course.{Course, Deed, Event, Fits, Mark, draw_marks, takes_memory, turn_in}
use Rattle.kms_model.specs.Course.Deed.{Works}
use Rattle.kms_model.specs.Course.Mark.{Draw, Memory}
use Rattle.kms_model.specs.Worker.{turn_stores}
use Rattle.kms_world.specs.State.{State}
use Rattle.kms_serve.specs.Allowed.{IsOpening}
use Rattle.kms_serve.specs.Answered.{Answered}
use Rattle.kms_serve.specs.Batches.{batch_size, before_batch, before_open, in_batch}
use Rattle.kms_serve.specs.Events.{LineEvent, events, events_at}
use Rattle.kms_serve.specs.Marks.{AreMarks}
use Rattle.kms_serve.specs.Plan.{Command, IsAlive, last_line, line_now, replies_on_lines}
use Rattle.kms_serve.specs.Plan.Command.{Pipe, Serve}
use Rattle.kms_serve.specs.Replies.{answered, course_by, due, due_if, fault_on, newest_batch, owed_to, replies, steps_by}
use Rattle.kms_serve.specs.RunStart.{RunStart, history}
use Rattle.kms_serve.specs.StoreCalls.{store_failed}

-- The first byte of a batch's replies is given, and then a file is called: nothing of the batch may have been given.
pub gives_before_it_settles : (b : RunStart) (marks : List Mark) (file line t : ℕ) (c : FileCall) (piece : List ℕ) (n : ℕ) (calls : List Call)
    → b.plan.command ≡ Pipe → 0 < n → 0 < length piece
    → Answered b marks (Told t ∷ calls)
    → Answered b marks (OnFile file c ∷ Gave line piece (Some n) ∷ Told t ∷ calls) → nat_eq line line ≡ true → ⊥
gives_before_it_settles b marks file line t c piece n calls pipe some filled told settled same =
    let alive : (l : ℕ) (x : List Call) → IsAlive b.plan.command l x = λ l x. subst (λ (k : Command). IsAlive k l x) (sym pipe) tt in
    let before : sent line calls ≡ owed_to line b marks (events b.plan (before_open calls)) = told.in_turn.given line (alive line calls) in
    let now : sent line (Gave line piece (Some n) ∷ Told t ∷ calls) ≡ owed_to line b marks (events b.plan (before_open calls)) =
    settled.in_turn.given line (alive line (Gave line piece (Some n) ∷ Told t ∷ calls)) in
    let gave : sent line (Gave line piece (Some n) ∷ Told t ∷ calls) ≡ sent line calls ++ take n piece = rw same refl in
    let long : length (sent line calls ++ take n piece) ≡ length (sent line calls) = ap (λ (x : List ℕ). length x) (sym gave ∙ now ∙ sym before) in
    some_taken n piece some filled (omega (arith, long, length-append (sent line calls) (take n piece)))
  where
    some_taken : (n : ℕ) (piece : List ℕ) → 0 < n → 0 < length piece → length (take n piece) ≡ 0 → ⊥
    some_taken zero piece some filled none = omega (arith, some)
    some_taken (suc n) [] some filled none = omega (arith, filled)
    some_taken (suc n) (x ∷ piece) some filled none = omega (arith, none)

-- It gives a byte of a reply while a stop may leave the store without a step of the batch's events up to that one.
pub replies_too_early : (b : RunStart) (marks : List Mark) (line k m : ℕ) (calls : List Call) (image : List ℕ × List ℕ)
    → Answered b marks calls → replies_on_lines b.plan.command ≡ true → IsQuietStore b.was → IsImage (history b calls) image
    → AllByRecursion (IsBytes 32) b.masters → (s : State) → Stands b.masters image s (b.steps + m)
    → length (replies line b.plan.endpoint b.first (take k (answered b.plan calls)) marks) < length (sent line calls)
    → m < steps_by b.first (take (k + 1) (answered b.plan calls)) marks → ⊥
replies_too_early b marks line k m calls image a on_lines quiet is fit s stands begun stores =
    let h = a.safe.images quiet image is in
    let same = one_state b.masters fit image s (course_by b.first (take h.count (events b.plan calls)) marks).state (b.steps + m) (b.steps + steps_by b.first (take h.count (events b.plan calls)) marks) stands h.keeps.stands in
    omega (arith, h.acknowledged on_lines line k begun, stores, same.1)

-- The newest event is answered that there are no random bytes, and no draw failed since its time was told.
pub no_draw_failed : (b : RunStart) (before rest : List Mark) (t : ℕ) (calls : List Call)
    → length before ≡ length (events b.plan calls) → 0 < length (events_at b.plan b.plan.command (events b.plan calls) calls t)
    → AreMarks b (before ++ Draw ∷ rest) (Told t ∷ calls) → ⊥
no_draw_failed b before rest t calls is some h =
    let few : draw_marks (take (length (events_at b.plan b.plan.command (events b.plan calls) calls t)) (drop (length (events b.plan calls)) (before ++ Draw ∷ rest))) ≤ 0 = h.few.0 in
    one_at_least (length (events_at b.plan b.plan.command (events b.plan calls) calls t)) (length (events b.plan calls)) before some is few
  where
    dropped : (before : List Mark) (n : ℕ) → length before ≡ n → drop n (before ++ Draw ∷ rest) ≡ Draw ∷ rest
    dropped [] zero h = refl
    dropped [] (suc n) h = absurd (omega (arith, h))
    dropped (m ∷ before) zero h = absurd (omega (arith, h))
    dropped (m ∷ before) (suc n) h = dropped before n (omega (arith, h))

    first : (k : ℕ) → 0 < k → draw_marks (take k (Draw ∷ rest)) ≤ 0 → ⊥
    first zero some few = omega (arith, some)
    first (suc k) some few = omega (arith, few)

    one_at_least : (k n : ℕ) (before : List Mark) → 0 < k → length before ≡ n → draw_marks (take k (drop n (before ++ Draw ∷ rest))) ≤ 0 → ⊥
    one_at_least k n before some is few = first k some (subst (λ (x : List Mark). draw_marks (take k x) ≤ 0) (dropped before n is) few)

-- A worker's turn that stores nothing and draws nothing has neither mark: it can't put off its work so.
pub idles_out_of_memory : (c : Course) (e : Event) (worker : ℕ) → e.deed ≡ Works worker → turn_stores (turn_in c worker) ≡ false → Fits c e Memory → ⊥
idles_out_of_memory c e worker is stores fits =
    let here : turn_stores (turn_in c worker) ≡ true = subst (λ (d : Deed). takes_memory c e.time d ≡ true) is fits in
    let no : false ≡ true = sym stores ∙ here in cc

-- Behind whole replies to what came before the batch it gave some bytes of the batch's replies, and then the fault.
pub fault_inside_a_batch : (b : RunStart) (marks : List Mark) (line : ℕ) (reply : List ℕ) (calls : List Call)
    → Answered b marks calls → b.plan.command ≡ Pipe → store_failed calls ≡ true → 0 < length reply
    → sent line calls ≡ replies line b.plan.endpoint b.first (events b.plan (before_batch calls)) marks ++ (reply ++ fault_reply_of F1) → ⊥
fault_inside_a_batch b marks line reply calls a pipe failed some sent_is =
    let before = replies line b.plan.endpoint b.first (events b.plan (before_batch calls)) marks in
    let batch = newest_batch b.plan calls in
    let printed = a.printed line in
    let owed : due line b marks calls ≡ before ++ fault_on line batch =
    ap (λ (k : Command). due_if (store_failed calls) (replies_on_lines k) line b marks calls) pipe ∙ ap (λ z. due_if z true line b marks calls) failed in
    let long : length (before ++ fault_on line batch) ≡ length ((before ++ (reply ++ fault_reply_of F1)) ++ printed.0) =
    ap (λ (x : List ℕ). length x) (sym owed ∙ printed.1 ∙ ap (λ (x : List ℕ). x ++ printed.0) sent_is) in
    let most = short line batch in
    omega (
      arith,
      some,
      long,
      most,
      length-append before (fault_on line batch),
      length-append (before ++ (reply ++ fault_reply_of F1)) printed.0,
      length-append before (reply ++ fault_reply_of F1),
      length-append reply (fault_reply_of F1),
    )
  where
    short : (line : ℕ) (es : List LineEvent) → length (fault_on line es) ≤ length (fault_reply_of F1)
    short line [] = omega arith
    short line (e ∷ es) = either (nat_eq e.line line)
      where
        either : (z : Bool) → length (cond z (fault_reply_of F1) []) ≤ length (fault_reply_of F1)
        either true = omega arith
        either false = omega arith

-- it draws between two batches
pub draws_without_an_event : (b : RunStart) (marks : List Mark) (purpose : Purpose) (bytes : Option (List ℕ)) (line : ℕ) (piece : List ℕ) (went : Option ℕ) (calls : List Call)
    → Answered b marks (Drew purpose bytes ∷ Gave line piece went ∷ calls) → ⊥
draws_without_an_event b marks purpose bytes line piece went calls a = omega (arith, a.in_turn.answering)

-- it draws a tag
pub draws_a_tag : (b : RunStart) (marks : List Mark) (bytes : List ℕ) (calls : List Call) → Answered b marks (Drew Tag (Some bytes) ∷ calls) → ⊥
draws_a_tag b marks bytes calls a = a.in_turn.size

-- it asks for the next line while one is served
pub leaves_a_line : (b : RunStart) (marks : List Mark) (next : Option (Option ℕ)) (line room : ℕ) (bytes : Option (List ℕ))
    → Answered b marks (Came next ∷ Took line room bytes ∷ Came (Some (Some line)) ∷ []) → ⊥
leaves_a_line b marks next line room bytes a = elim a.in_turn.shut [
  | inl none ↦ omega (arith, none)
  | inr shut ↦ let no : false ≡ true = shut in cc
]

-- it takes from a line that came earlier
pub goes_back_to_a_line : (b : RunStart) (marks : List Mark) (line room : ℕ) (bytes : Option (List ℕ)) (address : List ℕ) (connections : ℕ) (calls : List Call)
    → b.plan.command ≡ Serve address connections → (line ≡ last_line calls → ⊥) → Answered b marks (Took line room bytes ∷ calls) → ⊥
goes_back_to_a_line b marks line room bytes address connections calls serve older a =
    let of_line : line ≡ last_line calls = a.in_turn.of_line ∙ ap (λ (k : Command). line_now k calls) serve in
    older of_line

-- a time is told after a whole batch, or after a turn of `rewrap`, of which a step waits
pub tells_over_a_batch : (b : RunStart) (marks : List Mark) (t : ℕ) (calls : List Call) → in_batch calls % b.plan.batch ≡ 0
    → steps_by b.first (events b.plan (before_open calls)) marks < steps_by b.first (events b.plan calls) marks → Answered b marks (Told t ∷ calls) → ⊥
tells_over_a_batch b marks t calls whole waits a = omega (arith, a.in_turn.settled whole, waits)

-- two replies in one call
pub gives_two_replies : (b : RunStart) (marks : List Mark) (line k : ℕ) (piece : List ℕ) (went : Option ℕ) (calls : List Call)
    → length (sent line calls) < length (owed_to line b marks (take k (answered b.plan calls)))
    → length (owed_to line b marks (take k (answered b.plan calls))) < length (sent line calls) + length piece
    → Answered b marks (Gave line piece went ∷ calls) → ⊥
gives_two_replies b marks line k piece went calls before after a = elim (a.in_turn.in_one k) [
  | inl h ↦ omega (arith, h, before)
  | inr h ↦ omega (arith, h, after)
]

-- a reply while a message is left that the batch has room for
pub replies_before_the_batch_is_full : (b : RunStart) (marks : List Mark) (line u : ℕ) (piece : List ℕ) (went : Option ℕ) (calls : List Call)
    → (batch_size calls % b.plan.batch ≡ 0 → ⊥) → 0 < length (events_at b.plan b.plan.command (events b.plan calls) calls u)
    → Answered b marks (Gave line piece went ∷ calls) → ⊥
replies_before_the_batch_is_full b marks line u piece went calls few left a = elim a.in_turn.full [
  | inl h ↦ few h
  | inr h ↦ omega (arith, left, ap (λ (x : List LineEvent). length x) (h u))
]

-- a draw of a tag that fails
pub asks_for_a_tag : (b : RunStart) (marks : List Mark) (calls : List Call) → Answered b marks (Drew Tag None ∷ calls) → ⊥
asks_for_a_tag b marks calls a = a.in_turn.size

-- a file is called between two lines
pub calls_a_file_between_lines : (b : RunStart) (marks : List Mark) (file line : ℕ) (c : FileCall) (calls : List Call)
    → (IsOpening b (Came (Some (Some line)) ∷ calls) → ⊥) → Answered b marks (OnFile file c ∷ Came (Some (Some line)) ∷ calls) → ⊥
calls_a_file_between_lines b marks file line c calls later a = elim a.in_turn.needed [
  | inl opening ↦ later opening
  | inr s ↦ omega (arith, s.answering)
]
