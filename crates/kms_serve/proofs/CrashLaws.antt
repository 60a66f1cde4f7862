-- What a stop leaves of the store, as calls are made.
use Rattle.std.proofs.Common.{Bool, List, Option, [], ap, arith, false, get_or, inl, inr, length, length-append, refl, subst, sym, take, true, ℕ, ◌++◌, ◌+◌, ◌<◌, ◌∙◌, ◌∷◌, ◌≡◌, ◌≤◌, ◌⊎◌}
use Rattle.std.proofs.lemmas.List.{append-nil}
use Rattle.kms_core.specs.Stands.{Stands}
use Rattle.kms_core.specs.Steps.{Held, IsSettled}
use Rattle.kms_host.proofs.DiskLaws.{is_image}
use Rattle.kms_host.proofs.Moments.{then_calls-append}
use Rattle.kms_host.specs.Disk.{Disk, IsImage, MayLeave, at_rest, disk, files, reads}
use Rattle.kms_host.specs.History.{History, then_call}
use Rattle.kms_host.specs.Line.{OnlyGives, sent}
use Rattle.kms_host.specs.Moment.{then_calls}
use Rattle.kms_host.specs.Store.{is_attached, others, syncs}
use Rattle.kms_host.specs.declared.call.Call.{Call}
use Rattle.kms_host.specs.declared.call.Call.TheVariants.{Attached, Came, Drew, Gave, Listened, OnFile, Shut, Text, Told, Took}
use Rattle.kms_http.specs.MessageStream.{after}
use Rattle.kms_journal.proofs.OpeningLaws.{untouched_keeps}
use Rattle.kms_journal.proofs.ReadingLaws.{untouched}
use Rattle.kms_journal.specs.Device.{IsQuietStore}
use Rattle.kms_journal.specs.Standing.{standing_of}
use Rattle.kms_model.specs.Course.{Mark}
use Rattle.kms_world.specs.State.{State}
use Rattle.kms_serve.proofs.BatchLaws.{steps-more}
use Rattle.kms_serve.proofs.ReplyLaws.{steps-begun, steps-front, take_front}
use Rattle.kms_serve.specs.Batches.{is_settled}
use Rattle.kms_serve.specs.Crash.{Holds, KeepsAfter}
use Rattle.kms_serve.specs.Events.{LineEvent, events}
use Rattle.kms_serve.specs.Opening.{IsAsBefore}
use Rattle.kms_serve.specs.Owed.{OnlyDraws}
use Rattle.kms_serve.specs.Owing.{KeepsAnswered}
use Rattle.kms_serve.specs.Plan.{replies_on_lines}
use Rattle.kms_serve.specs.Replies.{answered, answered_if, course_by, replies, steps_by}
use Rattle.kms_serve.specs.RunStart.{RunStart, history}

-- Nothing was done to the store in between.
pub record Same (was now : History) : Type 0 where
  pub disk : (f : ℕ) → disk f now ≡ disk f was
  pub attached : is_attached now.calls ≡ is_attached was.calls

pub same_then : (a b c : History) → Same a b → Same b c → Same a c
same_then a b c x y = record { disk = λ f. y.disk f ∙ x.disk f; attached = y.attached ∙ x.attached }

pub same_took : (h : History) (l room : ℕ) (bytes : Option (List ℕ)) → Same h (then_call h (Took l room bytes))
same_took h l room bytes = record { disk = λ f. refl; attached = refl }

pub same_gave : (h : History) (l : ℕ) (piece : List ℕ) (went : Option ℕ) → Same h (then_call h (Gave l piece went))
same_gave h l piece went = record { disk = λ f. refl; attached = refl }

pub same_shut : (h : History) (l : ℕ) → Same h (then_call h (Shut l))
same_shut h l = record { disk = λ f. refl; attached = refl }

pub same_told : (h : History) (t : ℕ) → Same h (then_call h (Told t))
same_told h t = record { disk = λ f. refl; attached = refl }

pub same_gave_all : (line : ℕ) (h : History) (gives : List Call) → OnlyGives line gives → Same h (then_calls h gives)
same_gave_all line h [] only = record { disk = λ f. refl; attached = refl }
same_gave_all line h (Text name room bytes ∷ gives) only = absurd only
same_gave_all line h (Listened address done ∷ gives) only = absurd only
same_gave_all line h (Came next ∷ gives) only = absurd only
same_gave_all line h (Attached name done ∷ gives) only = absurd only
same_gave_all line h (Took l room bytes ∷ gives) only = absurd only
same_gave_all line h (Gave l piece went ∷ gives) only =
    same_then h (then_calls h gives) (then_call (then_calls h gives) (Gave l piece went)) (same_gave_all line h gives only.1) (same_gave (then_calls h gives) l piece went)
same_gave_all line h (Shut l ∷ gives) only = absurd only
same_gave_all line h (OnFile file c ∷ gives) only = absurd only
same_gave_all line h (Told t ∷ gives) only = absurd only
same_gave_all line h (Drew purpose bytes ∷ gives) only = absurd only

pub same_gives : (line : ℕ) (b : RunStart) (gives calls : List Call) → OnlyGives line gives → Same (history b calls) (history b (gives ++ calls))
same_gives line b gives calls only =
    subst (Same (history b calls)) (sym (then_calls-append b.was gives calls)) (same_gave_all line (history b calls) gives only)

pub image_same : (was now : History) (image : List ℕ × List ℕ) → Same was now → IsImage now image → IsImage was image
image_same was now image same is = record {
  file_0 = subst (λ (d : Disk). MayLeave d image.0) (same.disk 0) is.file_0;
  file_1 = subst (λ (d : Disk). MayLeave d image.1) (same.disk 1) is.file_1;
}

pub as_before_same : (start was now : History) → Same was now → syncs now.calls ≡ syncs was.calls → IsAsBefore start was → IsAsBefore start now
as_before_same start was now same few before = record {
  images = λ quiet image is. before.images quiet image (image_same was now image same is);
  none = λ no f. same.disk f ∙ before.none no f;
  other = λ s stands f elsewhere. same.disk f ∙ before.other s stands f elsewhere;
  syncs = omega (arith, few, before.syncs);
}

pub quiet_same : (was now : History) → Same was now → IsQuietStore was → IsQuietStore now
quiet_same was now same quiet = λ f lt. same.disk f ∙ quiet f lt ∙ ap (λ (d : Disk). at_rest d.reads) (sym (same.disk f))

same_reads : (was now : History) → Same was now → (f : ℕ) → reads f now ≡ reads f was
same_reads was now same f = ap (λ (d : Disk). d.reads) (same.disk f)

pub same_files : (was now : History) → Same was now → files now ≡ files was
same_files was now same =
    ap (λ (l : List ℕ). let x : List ℕ × List ℕ = (l, reads 1 now) in x) (same_reads was now same 0)
    ∙ ap (λ (l : List ℕ). let x : List ℕ × List ℕ = (reads 0 was, l) in x) (same_reads was now same 1)

pub same_draws : (h : History) (draws : List Call) → OnlyDraws draws → Same h (then_calls h draws)
same_draws h [] only = record { disk = λ f. refl; attached = refl }
same_draws h (Text name room bytes ∷ draws) only = absurd only
same_draws h (Listened address done ∷ draws) only = absurd only
same_draws h (Came next ∷ draws) only = absurd only
same_draws h (Attached name done ∷ draws) only = absurd only
same_draws h (Took line room bytes ∷ draws) only = absurd only
same_draws h (Gave line piece went ∷ draws) only = absurd only
same_draws h (Shut line ∷ draws) only = absurd only
same_draws h (OnFile file c ∷ draws) only = absurd only
same_draws h (Told t ∷ draws) only = absurd only
same_draws h (Drew purpose bytes ∷ draws) only =
    let before = same_draws h draws only.1 in
    record { disk = before.disk; attached = before.attached }

pub settled_same : {masters : List (List ℕ)} (engine : Held) (n : ℕ) (state : State) (was now : History) → Same was now → IsSettled masters engine n state was → IsSettled masters engine n state now
settled_same engine n state was now same s =
    let k = s.opened in
    let o = k.opened in
    let p = o.placed in
    let here = same_reads was now same o.standing.file in
    record {
      idle = s.idle;
      opened = record {
        settled = k.settled;
        opened = record {
          standing = o.standing;
          placed = record {
            attached = record { done = same.attached ∙ p.attached.done };
            current = ap standing_of (same_files was now same) ∙ p.current;
            whole = p.whole;
            here = p.here;
            read = p.read;
            last = ap length here ∙ p.last;
            clear = ap (λ (l : List ℕ). get_or l o.standing.stop 0) here ∙ p.clear;
          };
          keeps = o.keeps;
          counted = o.counted;
          leads = o.leads;
          total = o.total;
        };
        first = k.first;
        now = k.now;
      };
    }

-- what a store stands for that is settled
pub settled_stands : {masters : List (List ℕ)} (engine : Held) (n : ℕ) (state : State) (h : History) → IsSettled masters engine n state h → Stands masters (files h) state n
settled_stands engine n state h s =
    let o = s.opened.opened in
    record { kept = s.opened.settled; keeps = record { standing = o.standing; current = o.placed.current; keeps = o.keeps; counted = o.counted }; opens = s.opened.first }

pub stands_by : {masters : List (List ℕ)} (two others : List ℕ × List ℕ) (state : State) (n : ℕ) → standing_of two ≡ standing_of others → Stands masters others state n → Stands masters two state n
stands_by two others state n same s =
    record { kept = s.kept; keeps = record { standing = s.keeps.standing; current = same ∙ s.keeps.current; keeps = s.keeps.keeps; counted = s.keeps.counted }; opens = s.opens }

-- the files as they read are a crash image, where nothing is pending
pub files_image : (h : History) → IsQuietStore h → IsImage h (files h)
files_image h quiet = record {
  file_0 = subst (λ (d : Disk). MayLeave d (reads 0 h)) (sym (quiet 0 (omega arith))) (is_image (reads 0 h));
  file_1 = subst (λ (d : Disk). MayLeave d (reads 1 h)) (sym (quiet 1 (omega arith))) (is_image (reads 1 h));
}

pub quiet_image : (h : History) (image : List ℕ × List ℕ) → IsQuietStore h → IsImage h image → standing_of image ≡ standing_of (files h)
quiet_image h image quiet is = (untouched_keeps h h (untouched h)).images quiet image is

pub stands_as : {masters : List (List ℕ)} (two : List ℕ × List ℕ) (s t : State) (m n : ℕ) → s ≡ t → m ≡ n → Stands masters two s m → Stands masters two t n
stands_as {masters} two s t m n state steps p = subst (λ (k : ℕ). Stands masters two t k) steps (subst (λ (x : State). Stands masters two x m) state p)

-- what no call on a file changes, an image keeps
pub keeps_by : (b : RunStart) (marks : List Mark) (es : List LineEvent) (image others : List ℕ × List ℕ) → standing_of image ≡ standing_of others → KeepsAfter b marks es others → KeepsAfter b marks es image
keeps_by b marks es image others same k =
    record { stands = stands_by image others (course_by b.first es marks).state (b.steps + steps_by b.first es marks) same k.stands }

-- where all is settled each image keeps the state that was settled
pub settled_keeps : (b : RunStart) (marks : List Mark) (es : List LineEvent) (engine : Held) (h : History)
    → IsSettled b.masters engine (b.steps + steps_by b.first es marks) (course_by b.first es marks).state h → KeepsAfter b marks es (files h)
settled_keeps b marks es engine h settled = record { stands = settled_stands engine (b.steps + steps_by b.first es marks) (course_by b.first es marks).state h settled }

pub images_keep : (b : RunStart) (marks : List Mark) (es : List LineEvent) (calls : List Call) → (IsQuietStore b.was → IsQuietStore (history b calls)) → KeepsAfter b marks es (files (history b calls))
    → IsQuietStore b.was → (image : List ℕ × List ℕ) → IsImage (history b calls) image → KeepsAfter b marks es image
images_keep b marks es calls quiet keeps was_quiet image is = keeps_by b marks es image (files (history b calls)) (quiet_image (history b calls) image (quiet was_quiet) is) keeps

-- what has the steps of all events that are answered holds what was acknowledged on lines
pub holds_answered : (b : RunStart) (marks : List Mark) (calls : List Call) (image : List ℕ × List ℕ) → replies_on_lines b.plan.command ≡ true → KeepsAnswered b marks calls image → Holds b marks calls image
holds_answered b marks calls image on k = record {
  count = k.count;
  within = k.within;
  keeps = k.keeps;
  acknowledged = λ lines line n begun. omega (arith, steps-front b.first (answered b.plan calls) marks (n + 1), k.all);
  shown = λ off begun. let no : true ≡ false = sym on ∙ off in cc;
  whole = λ settled well. subst (λ z. steps_by b.first (answered_if z b.plan calls) marks ≤ steps_by b.first (take k.count (events b.plan calls)) marks) well k.all;
}

-- An image that keeps the first events holds what was acknowledged, if no more was sent on any line than the replies to these. So it
-- is while a batch is answered, with what came before the batch; and in a settle that has kept nothing yet.
pub holds_first : (b : RunStart) (marks : List Mark) (es more later : List LineEvent) (calls : List Call) (image : List ℕ × List ℕ)
    → events b.plan calls ≡ es ++ more → answered b.plan calls ≡ es ++ later → length es ≤ length marks
    → (replies_on_lines b.plan.command ≡ true → (line : ℕ) → length (sent line calls) ≤ length (replies line b.plan.endpoint b.first es marks))
    → (replies_on_lines b.plan.command ≡ false → sent 0 calls ≡ [])
    → is_settled calls ≡ false
    → KeepsAfter b marks es image → Holds b marks calls image
holds_first b marks es more later calls image all among long few silent busy k =
    let front : take (length es) (events b.plan calls) ≡ es = ap (λ (x : List LineEvent). take (length es) x) all ∙ take_front es more in
    let same : steps_by b.first (take (length es) (events b.plan calls)) marks ≡ steps_by b.first es marks = ap (λ (x : List LineEvent). steps_by b.first x marks) front in
    record {
      count = length es;
      within = omega (arith, ap (λ (x : List LineEvent). length x) all, length-append es more);
      keeps = subst (λ (x : List LineEvent). KeepsAfter b marks x image) (sym front) k;
      acknowledged = λ on_lines line n begun.
          let fewer : length (replies line b.plan.endpoint b.first (take n (es ++ later)) marks) < length (sent line calls) =
          subst (λ (x : List LineEvent). length (replies line b.plan.endpoint b.first (take n x) marks) < length (sent line calls)) among begun in
          let held = steps-begun line b.plan.endpoint b.first es later marks n long (omega (arith, fewer, few on_lines line)) in
          let goal : steps_by b.first (take (n + 1) (answered b.plan calls)) marks ≤ steps_by b.first es marks =
          subst (λ (x : List LineEvent). steps_by b.first (take (n + 1) x) marks ≤ steps_by b.first es marks) (sym among) held in
          omega (arith, goal, same);
      shown = λ off begun. let none : length (sent 0 calls) ≡ 0 = ap (λ (x : List ℕ). length x) (silent off) in omega (arith, none, begun);
      whole = λ settled well. let no : false ≡ true = sym busy ∙ settled in cc;
    }

-- An image that keeps all events holds what was acknowledged, whatever was sent. So it is from the end of a settle on.
pub holds_all : (b : RunStart) (marks : List Mark) (later : List LineEvent) (calls : List Call) (image : List ℕ × List ℕ)
    → events b.plan calls ≡ answered b.plan calls ++ later → KeepsAfter b marks (events b.plan calls) image → Holds b marks calls image
holds_all b marks later calls image among k =
    let es = events b.plan calls in
    let front : take (length es) es ≡ es = ap (λ (x : List LineEvent). take (length es) x) (sym (append-nil es)) ∙ take_front es [] in
    let same : steps_by b.first (take (length es) es) marks ≡ steps_by b.first es marks = ap (λ (x : List LineEvent). steps_by b.first x marks) front in
    let first : steps_by b.first (answered b.plan calls) marks ≤ steps_by b.first es marks =
    subst (λ (x : List LineEvent). steps_by b.first (answered b.plan calls) marks ≤ steps_by b.first x marks) (sym among) (steps-more b.first (answered b.plan calls) later marks) in
    record {
      count = length es;
      within = omega arith;
      keeps = subst (λ (x : List LineEvent). KeepsAfter b marks x image) (sym front) k;
      acknowledged = λ on_lines line n begun. omega (arith, same, first, steps-front b.first (answered b.plan calls) marks (n + 1));
      shown = λ off begun. omega (arith, same);
      whole = λ settled well. omega (arith, same);
    }

-- In a settle an image keeps what came before the batch, or all of the batch too.
pub holds_settling : (b : RunStart) (marks : List Mark) (es more : List LineEvent) (calls : List Call) (image : List ℕ × List ℕ) (failed : Bool)
    → events b.plan calls ≡ es ++ more → (failed ≡ true → answered b.plan calls ≡ es) → (failed ≡ false → answered b.plan calls ≡ events b.plan calls)
    → length es ≤ length marks
    → (replies_on_lines b.plan.command ≡ true → (line : ℕ) → length (sent line calls) ≤ length (replies line b.plan.endpoint b.first es marks))
    → (replies_on_lines b.plan.command ≡ false → sent 0 calls ≡ [])
    → is_settled calls ≡ false
    → KeepsAfter b marks es image ⊎ KeepsAfter b marks (events b.plan calls) image → Holds b marks calls image
holds_settling b marks es more calls image true all among sound long few silent busy k = elim k [
  | inl before ↦ holds_first b marks es more [] calls image all (among refl ∙ sym (append-nil es)) long few silent busy before
  | inr after ↦ holds_all b marks more calls image (all ∙ ap (λ (x : List LineEvent). x ++ more) (sym (among refl))) after
]
holds_settling b marks es more calls image false all among sound long few silent busy k = elim k [
  | inl before ↦ holds_first b marks es more more calls image all (sound refl ∙ all) long few silent busy before
  | inr after ↦ holds_all b marks [] calls image (sym (append-nil (events b.plan calls)) ∙ ap (λ (x : List LineEvent). x ++ []) (sym (sound refl))) after
]
