-- The store of a run is opened, or refused, before a line is served.
use Rattle.std.proofs.Common.{Bool, Err, List, None, Ok, Option, Result, Some, [], ap, append_assoc, arith, drop, false, inl, inr, length, refl, subst, sym, take, true, ℕ, ◌++◌, ◌+◌, ◌∙◌, ◌∷◌, ◌≡◌}
use Rattle.std.specs.Prelude.{◌||◌}
use Rattle.kms_aes.specs.Cipher.{IsBytes}
use Rattle.std.specs.List.{AllByRecursion}
use Rattle.kms_kept.specs.Kept.{Kept}
use Rattle.kms_opened.specs.Opened.{Opened}
use Rattle.kms_ring.proofs.UniqueLaws.{one_file, sound_file}
use Rattle.kms_ring.specs.KeyFile.{IsBadLine, IsKeyFile}
use Rattle.kms_sealing.proofs.UniqueLaws.{open_is_no_refusal}
use Rattle.kms_sealing.specs.KeyFile.{HasText, Reads}
use Rattle.kms_sealing.specs.Opening.{IsUnknown, IsDamaged as IsPayloadDamaged, IsRefusal as IsKeptRefusal}
use Rattle.kms_sealing.specs.declared.fault.KeyFileFault.{KeyFileFault}
use Rattle.kms_sealing.specs.declared.fault.KeyFileFault.TheVariants as key_faults
use Rattle.kms_sealing.specs.declared.fault.OpeningFault.{OpeningFault}
use Rattle.kms_sealing.specs.declared.fault.OpeningFault.TheVariants as opening
use Rattle.kms_store.proofs.StandsLaws.{some_is, stand_for_one}
use Rattle.kms_host.specs.KeyFiles.{named}
use Rattle.kms_host.specs.declared.call.NameFault.TheVariants as names
use Rattle.kms_core.proofs.StandsLaws.{no_damage, one_state}
use Rattle.kms_core.specs.Stands.{Stands}
use Rattle.kms_core.specs.Starting.{IsEngineOf, IsKeptSo, Starts, is_failed_start}
use Rattle.kms_core.specs.Steps.{Held, IsSettled}
use Rattle.kms_core.specs.declared.start_fault.StartFault.{StartFault}
use Rattle.kms_host.proofs.Moments.{at_last, at_map, at_more, at_now, known_after, known_after_told, known_with_told, since_since, since_told, tells_then, tells_with, then_calls-append, then_calls-calls, then_calls-key_files}
use Rattle.kms_host.proofs.ToldLaws.{tells_both}
use Rattle.kms_host.specs.Disk.{files}
use Rattle.kms_host.specs.History.{History, Tells, WhereTold, then_call}
use Rattle.kms_host.specs.Line.{IsOpen, IsStill, at_end, failed_on, is_shut, sent, taken, times}
use Rattle.kms_host.specs.Moment.{AtEach, Since, Throughout, then_calls}
use Rattle.kms_host.specs.Random.{drawn}
use Rattle.kms_host.specs.Store.{OnlyAttached, apart_from_files, others}
use Rattle.kms_host.specs.declared.call.Call.{Call}
use Rattle.kms_host.specs.declared.call.Call.TheVariants.{Attached, Came, Drew, Gave, Listened, OnFile, Shut, Text, Told, Took}
use Rattle.kms_host.specs.declared.call.FileCall.{FileCall}
use Rattle.kms_host.specs.declared.call.NameFault.{NameFault}
use Rattle.kms_host.specs.declared.call.Purpose.TheVariants.{OrderKey}
use Rattle.kms_journal.specs.Device.{IsQuietStore}
use Rattle.kms_journal.specs.Fault.{Fails}
use Rattle.kms_journal.specs.Position.{Position}
use Rattle.kms_journal.specs.Recovery.{KeepsStanding}
use Rattle.kms_journal.specs.Standing.{Standing, standing_of}
use Rattle.kms_world.specs.State.{State}
use Rattle.kms_serve.proofs.BatchLaws.{no_batch}
use Rattle.kms_serve.proofs.CrashLaws.{files_image, images_keep, quiet_image, settled_keeps, stands_as, stands_by}
use Rattle.kms_serve.proofs.EventLaws.{after-first}
use Rattle.kms_serve.proofs.GiveLaws.{on_line-nil}
use Rattle.kms_serve.proofs.RenewalLaws.{renewals-unasked}
use Rattle.kms_serve.proofs.StoreCallLaws.{before_more, failed_once, failed_since, only_files, same_by_files, store_failed-append, unfailed_before}
use Rattle.kms_serve.specs.Allowed.{InTurn}
use Rattle.kms_serve.specs.Answered.{Answered}
use Rattle.kms_serve.specs.Batches.{before_batch, in_batch}
use Rattle.kms_serve.specs.Crash.{KeepsAfter}
use Rattle.kms_serve.specs.Ends.{KeyFileFailed}
use Rattle.kms_serve.specs.Events.{LineEvent, events, requests, requests_on}
use Rattle.kms_serve.specs.Marks.{AreMarks, FewDraws}
use Rattle.kms_serve.specs.Opening.{AttachingAlone, AttachingCalls, IsAsBefore, IsOpenedBy, IsRefused, IsRefusedUnder, IsUnopened, OpensStore, OpensUnder, ReadingCall, StaysAsBefore, key_refusal_of, refusal_of}
use Rattle.kms_serve.specs.Owing.{EndedAt, GoodAt}
use Rattle.kms_serve.specs.Plan.{pipe_plan}
use Rattle.kms_serve.specs.Renewals.{is_asked}
use Rattle.kms_serve.specs.Replies.{course_by, due, due_if, fault_on, owed_to, replies, steps_by}
use Rattle.kms_serve.specs.RunStart.{Found, HasKeys, IsFound, RunStart, history, run_start}
use Rattle.kms_serve.specs.StoreCalls.{IfAttached, IsUnfailedBefore, OnlyFiles, key_file_failed, store_failed}
use Rattle.kms_serve.specs.Turns.{CanServe, serving_of}
use Rattle.kms_serve.specs.declared.status.Status.{Status}
use Rattle.kms_core.specs.declared.start_fault.StartFault.TheVariants as start
use Rattle.kms_serve.specs.declared.status.Status.TheVariants as status
use Rattle.kms_journal.proofs.OpeningLaws.{some_is as standing_is}

abbrev pub failure : StartFault → Result Held StartFault
failure fault = Err fault

-- The store is as before.
pub before_all : (was : History) → IsAsBefore was was
before_all was = record { images = λ quiet image is. quiet_image was image quiet is; none = λ no f. refl; other = λ s stands f elsewhere. refl; syncs = omega arith }

-- no call that is on no file changes it
named_as_before : (was : History) (name : List ℕ) (done : Result (Unit {0}) NameFault) → IsAsBefore was (then_call was (Attached name done))
named_as_before was name done = record { images = λ quiet image is. quiet_image was image quiet (record { file_0 = is.file_0; file_1 = is.file_1 }); none = λ no f. refl; other = λ s stands f elsewhere. refl; syncs = omega arith }

read_as_before : (was : History) (name : List ℕ) (room : ℕ) (read : Result (List ℕ) NameFault) → IsAsBefore was (then_call was (Text name room read))
read_as_before was name room read = record { images = λ quiet image is. quiet_image was image quiet (record { file_0 = is.file_0; file_1 = is.file_1 }); none = λ no f. refl; other = λ s stands f elsewhere. refl; syncs = omega arith }

or_false : (f : Bool) → (f || false) ≡ f
or_false true = refl
or_false false = refl

pub unnamed : {a c : Option History} (store : List ℕ) (masters : List (List ℕ)) (fault : NameFault) (s : Status) → Tells a c (λ was now. now ≡ then_call was (Attached store (Err fault)))
    → ((was : History) → IsRefusedUnder masters s was (Attached store (Err fault) ∷ [])) → Since a c (λ was calls. OpensUnder store masters (Err s) was calls)
unnamed store masters fault s told why =
    since_told (λ was calls. OpensUnder store masters (Err s) was calls) told
    (λ was now is. (
      Attached store (Err fault) ∷ [],
      is,
      (
        record { done = Err fault; on_files = []; made = refl; only = tt; attached = refl; unfailed = refl },
        (named_as_before was store (Err fault), before_all was),
        why was,
      ),
    ))

-- The store was attached, and then opened.
module _ (store : List ℕ) (masters : List (List ℕ)) (was now : History) where
  abbrev pub mid : History
  mid = then_call was (Attached store (Ok tt))

  quiet_mid : IsQuietStore was → IsQuietStore mid
  quiet_mid quiet = λ f lt. quiet f lt

  kept : (h : History) → KeepsStanding mid h → IsAsBefore was h
  kept h k = record { images = λ quiet image is. k.images (quiet_mid quiet) image is; none = λ no f. (k.none no).disk f; other = k.other; syncs = k.syncs }

  -- of the calls up to here only the newest may have failed
  before_now : (t : Throughout (KeepsStanding mid) mid now) (failed : Bool) → Fails failed mid now → IsUnfailedBefore (t.more ++ Attached store (Ok tt) ∷ [])
  before_now t failed fails = before_more t.more (Attached store (Ok tt) ∷ []) (failed_once mid t.more failed (subst (Fails failed mid) t.extends fails)) refl

  opening_of : (t : Throughout (KeepsStanding mid) mid now) (failed : Bool) → Fails failed mid now → AttachingAlone store (t.more ++ Attached store (Ok tt) ∷ [])
  opening_of t failed fails = record {
    unfailed = before_now t failed fails;
    done = Ok tt;
    on_files = t.more;
    made = refl;
    only = only_files mid t.more (ap (λ (h : History). others h) (sym t.extends) ∙ (at_last (KeepsStanding mid) mid now t).others);
    attached = tt;
  }

  stays : (t : Throughout (KeepsStanding mid) mid now) → StaysAsBefore was (t.more ++ Attached store (Ok tt) ∷ [])
  stays t =
      at_more (λ x. IsAsBefore was (then_calls was x)) t.more (Attached store (Ok tt) ∷ []) (named_as_before was store (Ok tt), before_all was)
      (at_map (λ x. KeepsStanding mid (then_calls mid x)) (λ x. IsAsBefore was (then_calls was (x ++ Attached store (Ok tt) ∷ []))) t.more
      (λ x k. subst (IsAsBefore was) (sym (then_calls-append was x (Attached store (Ok tt) ∷ []))) (kept (then_calls mid x) k)) t.each)

  opened_now : (t : Throughout (KeepsStanding mid) mid now) → now ≡ then_calls was (t.more ++ Attached store (Ok tt) ∷ [])
  opened_now t = t.extends ∙ sym (then_calls-append was t.more (Attached store (Ok tt) ∷ []))

  failed_then : (more : List Call) (failed : Bool) → now ≡ then_calls mid more → Fails failed mid now → store_failed (more ++ Attached store (Ok tt) ∷ []) ≡ failed
  failed_then more failed extends fails =
      store_failed-append more (Attached store (Ok tt) ∷ []) ∙ ap (λ f. f || false) (failed_since mid more failed (subst (Fails failed mid) extends fails)) ∙ or_false failed

  refused_by : (fault : StartFault) (calls : List Call) → Starts masters (Err fault) mid now → store_failed calls ≡ is_failed_start (failure fault) → IsRefusedUnder masters (refusal_of fault) was calls
  refused_by start.NoStore calls s fails = (s.answer, fails)
  refused_by (start.Damaged place) calls s fails = (s.answer, fails)
  refused_by (start.UnknownMaster project) calls s fails = let r = s.answer in (record { kept = r.kept; steps = r.steps; keeps = r.keeps; is = r.is }, fails)
  refused_by (start.DamagedPayload secret) calls s fails = let r = s.answer in (record { kept = r.kept; steps = r.steps; keeps = r.keeps; is = r.is }, fails)
  refused_by start.StoreFault calls s fails = fails
  refused_by start.NoMemory calls s fails = fails

  pub unstarted : (fault : StartFault) (s : Status) → s ≡ refusal_of fault → Starts masters (Err fault) mid now → Fails (is_failed_start (failure fault)) mid now
      → (calls : List Call) × (now ≡ then_calls was calls) × OpensUnder store masters (Err s) was calls
  unstarted fault s is starts fails =
      let t = starts.throughout in (
        t.more ++ Attached store (Ok tt) ∷ [],
        opened_now t,
        (
          opening_of t (is_failed_start (failure fault)) fails,
          stays t,
          subst (λ (x : Status). IsRefusedUnder masters x was (t.more ++ Attached store (Ok tt) ∷ [])) (sym is) (refused_by fault (t.more ++ Attached store (Ok tt) ∷ []) starts (failed_then t.more _ t.extends fails)),
        ),
      )

  engine_of : (engine : Held) → IsEngineOf masters engine mid now → IsEngineOf masters engine was now
  engine_of engine a = record {
    state = a.state;
    steps = a.steps;
    stands = a.stands;
    masters_are = a.masters_are;
    kept = a.kept;
    settled = a.settled;
    quiet = λ quiet. a.quiet (quiet_mid quiet);
    rests = a.rests;
  }

  pub started_by : (engine : Held) → Starts masters (Ok engine) mid now → Fails false mid now → (calls : List Call) × (now ≡ then_calls was calls) × OpensUnder store masters (Ok engine) was calls
  started_by engine starts fails =
      let t = starts.throughout in (
        t.more ++ Attached store (Ok tt) ∷ [],
        opened_now t,
        (
          opening_of t false fails,
          stays t,
          subst (IsEngineOf masters engine was) (opened_now t) (engine_of engine starts.answer),
          failed_then t.more false t.extends fails,
        ),
      )

  pub can_serve : (engine : Held) → Starts masters (Ok engine) mid now → IsOpen 0 was → CanServe engine now
  can_serve engine starts unshut =
      let t = starts.throughout in
      let a = starts.answer in
      let only = only_files mid t.more (ap (λ (h : History). others h) (sym t.extends) ∙ (at_last (KeepsStanding mid) mid now t).others) in
      let here : is_shut 0 (then_calls mid t.more).calls ≡ is_shut 0 was.calls =
      ap (is_shut 0) (then_calls-calls mid t.more) ∙ same_by_files (is_shut 0) (λ file c calls. refl) t.more mid.calls only in
      record {
        unshut = subst (IsOpen 0) (sym t.extends) (record { came = omega arith; not_shut = here ∙ unshut.not_shut });
        state = a.state;
        steps = a.steps;
        settled = subst (λ (m : List (List ℕ)). IsSettled m engine a.steps a.state now) (sym a.masters_are) a.settled;
      }

some_calls : List ℕ → List (List ℕ) → Result Held Status → History → History → Type 0
some_calls store masters result was now = (calls : List Call) × (now ≡ then_calls was calls) × OpensUnder store masters result was calls

pub opened_by : {a d c : Option History} (store : List ℕ) (masters : List (List ℕ)) (engine : Held) → Tells a d (λ was now. now ≡ then_call was (Attached store (Ok tt)))
    → Tells d c (Starts masters (Ok engine)) → Tells d c (Fails false) → Since a c (λ was calls. OpensUnder store masters (Ok engine) was calls)
unfolding some_calls
opened_by store masters engine attached starts fails =
    since_told (λ was calls. OpensUnder store masters (Ok engine) was calls)
    (tells_then (some_calls store masters (Ok engine)) attached (tells_both starts fails)
    (λ was mid now is k. started_by store masters was now engine (subst (λ (h : History). Starts masters (Ok engine) h now) is k.0) (subst (λ (h : History). Fails false h now) is k.1)))
    (λ was now r. r)

pub refused_opening : {a d c : Option History} (store : List ℕ) (masters : List (List ℕ)) (fault : StartFault) (s : Status) → s ≡ refusal_of fault → Tells a d (λ was now. now ≡ then_call was (Attached store (Ok tt)))
    → Tells d c (Starts masters (Err fault)) → Tells d c (Fails (is_failed_start (failure fault))) → Since a c (λ was calls. OpensUnder store masters (Err s) was calls)
unfolding some_calls
refused_opening store masters fault s status attached starts fails =
    since_told (λ was calls. OpensUnder store masters (Err s) was calls)
    (tells_then (some_calls store masters (Err s)) attached (tells_both starts fails)
    (λ was mid now is k. unstarted store masters was now fault s status (subst (λ (h : History). Starts masters (Err fault) h now) is k.0) (subst (λ (h : History). Fails (is_failed_start (failure fault)) h now) is k.1)))
    (λ was now r. r)

pub ready_opened : {a d c : Option History} (store : List ℕ) (masters : List (List ℕ)) (engine : Held) → WhereTold a (IsOpen 0) → Tells a d (λ was now. now ≡ then_call was (Attached store (Ok tt)))
    → Tells d c (Starts masters (Ok engine)) → WhereTold c (CanServe engine)
ready_opened store masters engine unshut attached starts =
    known_after_told (CanServe engine)
    (tells_then (λ was now. CanServe engine now)
    (tells_with (λ was now. IsOpen 0 was × (now ≡ then_call was (Attached store (Ok tt)))) unshut attached (λ was now k is. (k, is)))
    starts
    (λ was mid now k s. can_serve store masters was now engine (subst (λ (h : History). Starts masters (Ok engine) h now) k.1 s) k.0))
    (λ was now k. k)

-- ---- the key file comes before

-- the line stays open when a key file is read, and no other store is attached
pub open_read : {a d : Option History} {P : History → History → Type 0} → WhereTold a (IsOpen 0) → Tells a d P → ((was now : History) → P was now → (name : List ℕ) × (read : Result (List ℕ) NameFault) × (now ≡ then_call was (Text name 1024 read)))
    → WhereTold d (IsOpen 0)
open_read unshut told read =
    known_with_told (IsOpen 0) unshut told (λ was now k p. let r = read was now p in subst (IsOpen 0) (sym r.2) (record { came = k.came; not_shut = k.not_shut }))

pub named_read : {a d : Option History} {P : History → History → Type 0} (store : List ℕ) → WhereTold a (λ h. OnlyAttached store h.calls) → Tells a d P
    → ((was now : History) → P was now → (name : List ℕ) × (read : Result (List ℕ) NameFault) × (now ≡ then_call was (Text name 1024 read))) → WhereTold d (λ h. OnlyAttached store h.calls)
named_read store named told read =
    known_with_told (λ h. OnlyAttached store h.calls) named told (λ was now k p. let r = read was now p in subst (λ (h : History). OnlyAttached store h.calls) (sym r.2) k)

-- what a key file that is good leaves
pub is_read : (name : List ℕ) (masters : List (List ℕ)) (was now : History) → (let r : Result (List (List ℕ)) KeyFileFault = Ok masters in Reads name r was now)
    → (key_file : List ℕ) × (read : Result (List ℕ) NameFault) × (now ≡ then_call was (Text key_file 1024 read))
is_read name masters was now r = (name, Ok (take 1024 r.file), r.called)

-- The store was opened under the master keys of the key file, or not.
module _ (key_file store : List ℕ) (masters : List (List ℕ)) (was mid : History) (r : HasText key_file was mid (λ text. IsKeyFile text masters)) (calls : List Call) where
  abbrev pub read_text : List ℕ
  read_text = take 1024 r.file

  abbrev pub first : History
  first = then_call was (Text key_file 1024 (Ok read_text))

  quiet_first : IsQuietStore was → IsQuietStore first
  quiet_first quiet = λ f lt. quiet f lt

  as_before : (h : History) → IsAsBefore first h → IsAsBefore was h
  as_before h k = record { images = λ quiet image is. k.images (quiet_first quiet) image is; none = k.none; other = k.other; syncs = k.syncs }

  stays_all : StaysAsBefore first calls → StaysAsBefore was (calls ++ Text key_file 1024 (Ok read_text) ∷ [])
  stays_all each =
      at_more (λ x. IsAsBefore was (then_calls was x)) calls (Text key_file 1024 (Ok read_text) ∷ []) (read_as_before was key_file 1024 (Ok read_text), before_all was)
      (at_map (λ x. IsAsBefore first (then_calls first x)) (λ x. IsAsBefore was (then_calls was (x ++ Text key_file 1024 (Ok read_text) ∷ []))) calls
      (λ x k. subst (IsAsBefore was) (sym (then_calls-append was x (Text key_file 1024 (Ok read_text) ∷ []))) (as_before (then_calls first x) k)) each)

  attaching : AttachingAlone store calls → AttachingCalls key_file store (calls ++ Text key_file 1024 (Ok read_text) ∷ [])
  attaching o = record {
    text = read_text;
    done = o.done;
    on_files = o.on_files;
    made = ap (λ (z : List Call). z ++ Text key_file 1024 (Ok read_text) ∷ []) o.made ∙ append_assoc o.on_files (Attached store o.done ∷ []) (Text key_file 1024 (Ok read_text) ∷ []);
    only = o.only;
    attached = o.attached;
    unfailed = before_more calls (Text key_file 1024 (Ok read_text) ∷ []) o.unfailed refl;
  }

  failed_all : store_failed (calls ++ Text key_file 1024 (Ok read_text) ∷ []) ≡ store_failed calls
  failed_all = store_failed-append calls (Text key_file 1024 (Ok read_text) ∷ []) ∙ or_false (store_failed calls)

  keyed_all : AttachingAlone store calls → key_file_failed (calls ++ Text key_file 1024 (Ok read_text) ∷ []) ≡ false
  keyed_all o = let a = attaching o in ap key_file_failed a.made ∙ same_by_files key_file_failed (λ f d x. refl) a.on_files (Attached store a.done ∷ Text key_file 1024 (Ok a.text) ∷ []) a.only

  keys_are : HasKeys was key_file masters
  keys_are = record { file = r.file; there = r.there; good = r.is }

  kept_so : (P : Kept → Type 0) → IsKeptSo first P → IsKeptSo was P
  kept_so P k = record { kept = k.kept; steps = k.steps; keeps = k.keeps; is = k.is }

  why : (s : Status) → AttachingAlone store calls → IsRefusedUnder masters s first calls → IsRefused key_file s was (calls ++ Text key_file 1024 (Ok read_text) ∷ [])
  why status.NoStore o h = (record { masters = masters; keys = keys_are; is = h.0 }, failed_all ∙ h.1)
  why (status.Damaged place) o h = (record { masters = masters; keys = keys_are; is = h.0 }, failed_all ∙ h.1)
  why (status.UnknownMaster project) o h = (record { masters = masters; keys = keys_are; is = kept_so (λ (k : Kept). IsUnknown masters k.keys project) h.0 }, failed_all ∙ h.1)
  why (status.DamagedPayload secret) o h = (record { masters = masters; keys = keys_are; is = kept_so (λ (k : Kept). IsPayloadDamaged masters k secret) h.0 }, failed_all ∙ h.1)
  why status.StoreFault o h = (record { masters = masters; keys = keys_are; is = tt }, failed_all ∙ h)
  why status.NoMemory o h = (failed_all ∙ h, keyed_all o)
  why status.KeyFileFault o h = absurd h
  why (status.BadKeyFile bad) o h = absurd h
  why status.Done o h = absurd h
  why status.Words o h = absurd h
  why status.StoreExists o h = absurd h
  why status.LinkFault o h = absurd h
  why status.DrawFault o h = absurd h
  why (status.Rest place) o h = absurd h
  why (status.Unreadable place) o h = absurd h

  engine_from : (engine : Held) → IsEngineOf masters engine first (then_calls first calls) → IsEngineOf masters engine was (then_calls was (calls ++ Text key_file 1024 (Ok read_text) ∷ []))
  engine_from engine a =
      subst (IsEngineOf masters engine was) (sym (then_calls-append was calls (Text key_file 1024 (Ok read_text) ∷ []))) (record {
        state = a.state;
        steps = a.steps;
        stands = a.stands;
        masters_are = a.masters_are;
        kept = a.kept;
        settled = a.settled;
        quiet = λ quiet. a.quiet (quiet_first quiet);
        rests = a.rests;
      })

  opens_all : (result : Result Held Status) → OpensUnder store masters result first calls → OpensStore key_file store result was (calls ++ Text key_file 1024 (Ok read_text) ∷ [])
  opens_all (Ok engine) o = record {
    opening = attaching o.0;
    each = stays_all o.1;
    masters = masters;
    keys = keys_are;
    start = engine_from engine o.2;
    unfailed = failed_all ∙ o.3;
  }
  opens_all (Err s) o = record { opening = inr (attaching o.0); each = stays_all o.1; why = why s o.0 o.2 }

  pub opens_from : (result : Result Held Status) → OpensUnder store masters result mid calls → OpensStore key_file store result was (calls ++ Text key_file 1024 (Ok read_text) ∷ [])
  opens_from result o = opens_all result (subst (λ (h : History). OpensUnder store masters result h calls) r.called o)

pub opened_with_keys : {a d c : Option History} (key_file store : List ℕ) (masters : List (List ℕ)) (result : Result Held Status) → (let r : Result (List (List ℕ)) KeyFileFault = Ok masters in Tells a d (Reads key_file r))
    → Since d c (λ was calls. OpensUnder store masters result was calls) → Since a c (λ was calls. OpensStore key_file store result was calls)
opened_with_keys key_file store masters result read opens =
    since_since (λ was calls. OpensStore key_file store result was calls)
    (since_told (λ was calls. (t : HasText key_file was (then_calls was calls) (λ text. IsKeyFile text masters)) × (calls ≡ Text key_file 1024 (Ok (take 1024 t.file)) ∷ [])) read
    (λ was now r. (Text key_file 1024 (Ok (take 1024 r.file)) ∷ [], r.called, (record { file = r.file; there = r.there; called = refl; is = r.is }, refl))))
    opens
    (λ was x y t o. subst (λ (z : List Call). OpensStore key_file store result was (y ++ z)) (sym t.1)
    (opens_from key_file store masters was (then_calls was x) t.0 y result o))

-- there are no master keys
pub no_keys : {a c : Option History} (key_file store : List ℕ) (fault : KeyFileFault) (s : Status) → s ≡ key_refusal_of fault
    → (let r : Result (List (List ℕ)) KeyFileFault = Err fault in Tells a c (Reads key_file r)) → Since a c (λ was calls. OpensStore key_file store (Err s) was calls)
no_keys key_file store key_faults.Failed s is told =
    since_told (λ was calls. OpensStore key_file store (Err s) was calls) told
    (λ was now called. (
      Text key_file 1024 (Err names.Failed) ∷ [],
      called,
      record {
        opening = inl (Err names.Failed, refl);
        each = (read_as_before was key_file 1024 (Err names.Failed), before_all was);
        why = subst (λ (x : Status). IsRefused key_file x was (Text key_file 1024 (Err names.Failed) ∷ [])) (sym is) refl;
      },
    ))
no_keys key_file store (key_faults.Bad bad) s is told =
    since_told (λ was calls. OpensStore key_file store (Err s) was calls) told
    (λ was now t. (
      Text key_file 1024 (Ok (take 1024 t.file)) ∷ [],
      t.called,
      record {
        opening = inl (Ok (take 1024 t.file), refl);
        each = (read_as_before was key_file 1024 (Ok (take 1024 t.file)), before_all was);
        why = subst (λ (x : Status). IsRefused key_file x was (Text key_file 1024 (Ok (take 1024 t.file)) ∷ [])) (sym is) (record { file = t.file; there = t.there; read = refl; is_bad = t.is });
      },
    ))
no_keys key_file store key_faults.NoMemory s is told =
    since_told (λ was calls. OpensStore key_file store (Err s) was calls) told
    (λ was now called. (
      Text key_file 1024 (Err names.NoMemory) ∷ [],
      called,
      record {
        opening = inl (Err names.NoMemory, refl);
        each = (read_as_before was key_file 1024 (Err names.NoMemory), before_all was);
        why = subst (λ (x : Status). IsRefused key_file x was (Text key_file 1024 (Err names.NoMemory) ∷ [])) (sym is) (refl, refl);
      },
    ))

-- the key file says the same later
pub keys_later : {a c : Option History} (key_file store : List ℕ) (engine : Held) → Since a c (λ was calls. OpensStore key_file store (Ok engine) was calls) → WhereTold c (λ h. HasKeys h key_file engine.masters)
keys_later key_file store engine opens =
    known_after (λ h. HasKeys h key_file engine.masters) opens
    (λ was calls o.
    let k = o.keys in record {
      file = k.file;
      there = subst (λ (files : List (List ℕ × List ℕ)). named key_file files ≡ Some k.file) (sym (then_calls-key_files was calls)) k.there;
      good = subst (IsKeyFile (take 1024 k.file)) (sym o.start.masters_are) k.good;
    })

-- At each moment of an opening nothing was asked and nothing was sent.
module _ (endpoint key_file store : List ℕ) (was : History) (found : Found) (is_found : IsFound (pipe_plan store key_file endpoint) was found) where
  abbrev pub b : RunStart
  b = run_start (pipe_plan store key_file endpoint) was found

  -- the master keys are bytes
  pub fit : AllByRecursion (IsBytes 32) found.masters
  fit = is_found.keys.good.good.each

  pub found_stands : Stands found.masters (files was) found.state found.steps
  found_stands = record { kept = found.kept; keeps = is_found.keeps; opens = is_found.opens }

  plus_none : (n : ℕ) → n ≡ n + 0
  plus_none n = omega arith

  keeps_first : (image : List ℕ × List ℕ) → standing_of image ≡ standing_of (files was) → (es : List LineEvent) → es ≡ [] → KeepsAfter b [] es image
  keeps_first image same es none =
      let here : KeepsAfter b [] [] image = record { stands = stands_as image found.state found.state found.steps (found.steps + 0) refl (plus_none found.steps) (stands_by image (files was) found.state found.steps same found_stands) } in
      subst (λ (l : List LineEvent). KeepsAfter b [] l image) (sym none) here

  pub answered_as_before : (calls : List Call) → events b.plan calls ≡ [] → times calls ≡ [] → is_asked calls ≡ false → ((line : ℕ) → sent line calls ≡ []) → InTurn b [] calls → IsStill calls
      → IsAsBefore was (history b calls) → Answered b [] calls
  answered_as_before calls none untold unasked unsent in_turn still before = record {
    within = omega (arith, ap (λ (l : List LineEvent). length l) none);
    timed = omega (arith, ap (λ (l : List LineEvent). requests l) none, ap (λ (l : List ℕ). length l) untold);
    printed = λ line. (due line b [] calls, ap (λ z. z ++ due line b [] calls) (sym (unsent line)));
    in_turn = in_turn;
    still = still;
    safe = record {
      images = λ quiet image is. record {
        count = 0;
        within = omega arith;
        keeps = keeps_first image (before.images quiet image is) [] refl;
        acknowledged = λ on line k begun. absurd (omega (arith, begun, ap (λ (l : List ℕ). length l) (unsent line)));
        shown = λ off begun. absurd (omega (arith, begun, ap (λ (l : List ℕ). length l) (unsent 0)));
        whole = λ settled well. omega (arith, ap (λ (l : List LineEvent). steps_by b.first l []) none);
      };
    };
    unasked = λ none. before;
    few_syncs = omega (arith, before.syncs);
    renewed = record {
      images = λ quiet image is s t first now.
          let same : t ≡ s = standing_is t s (sym now ∙ before.images quiet image is ∙ first) in
          let generation : t.generation ≡ s.generation = ap (λ (x : Standing). x.generation) same in
          (omega (arith, generation, renewals-unasked calls unasked), omega (arith, generation, renewals-unasked calls unasked));
    };
  }

  nothing : {A : Type 0} (F : List Call → A) (on_files early : List Call) → ((file : ℕ) (c : FileCall) (x : List Call) → F (OnFile file c ∷ x) ≡ F x) → OnlyFiles on_files → F (on_files ++ early) ≡ F early
  nothing F on_files early skips only = same_by_files F skips on_files early only

  pub opening_each : (on_files : List Call) (text : List ℕ) (done : Result (Unit {0}) NameFault) → OnlyFiles on_files → IfAttached done on_files → IsUnfailedBefore (on_files ++ Attached store done ∷ Text key_file 1024 (Ok text) ∷ [])
      → StaysAsBefore was (on_files ++ Attached store done ∷ Text key_file 1024 (Ok text) ∷ []) → AtEach (Answered b []) (on_files ++ Attached store done ∷ Text key_file 1024 (Ok text) ∷ [])
  opening_each [] text done only attached unfailed each = (
    answered_as_before (Attached store done ∷ Text key_file 1024 (Ok text) ∷ []) refl refl refl (λ line. refl) (record { of_words = refl; at_first = (refl, refl) }) tt each.0,
    (
      answered_as_before (Text key_file 1024 (Ok text) ∷ []) refl refl refl (λ line. refl) (record { of_size = refl; only = (refl, refl); later = []; of_words = refl }) tt each.1.0,
      answered_as_before [] refl refl refl (λ line. refl) tt tt each.1.1,
    ),
  )
  opening_each (Text name room bytes ∷ on_files) text done only attached unfailed each = absurd only
  opening_each (Listened address heard ∷ on_files) text done only attached unfailed each = absurd only
  opening_each (Came next ∷ on_files) text done only attached unfailed each = absurd only
  opening_each (Attached name d ∷ on_files) text done only attached unfailed each = absurd only
  opening_each (Took line room bytes ∷ on_files) text done only attached unfailed each = absurd only
  opening_each (Gave line piece went ∷ on_files) text done only attached unfailed each = absurd only
  opening_each (Shut line ∷ on_files) text done only attached unfailed each = absurd only
  opening_each (OnFile file c ∷ on_files) text (Err fault) only attached unfailed each = absurd (cc)
  opening_each (OnFile file c ∷ on_files) text (Ok done) only attached unfailed each =
      let early : List Call = Attached store (Ok done) ∷ Text key_file 1024 (Ok text) ∷ [] in (
        answered_as_before (OnFile file c ∷ (on_files ++ early)) (nothing (events b.plan) on_files early (λ f d calls. refl) only)
            (nothing times on_files early (λ f d calls. refl) only)
            (nothing is_asked on_files early (λ f d calls. refl) only) (λ line. nothing (sent line) on_files early (λ f d calls. refl) only)
            (record {
              given = λ line alive. nothing (sent line) on_files early (λ f d calls. refl) only
                  ∙ sym (ap (λ (es : List LineEvent). owed_to line b [] es) (ap (λ (z : List Call). events b.plan z) (nothing before_batch on_files early (λ f d calls. refl) only)));
              needed = inl (record { read = Text key_file 1024 (Ok text) ∷ []; only = (refl, refl); apart = nothing apart_from_files on_files early (λ f d calls. refl) only });
              sound = nothing (failed_on 0) on_files early (λ f d calls. refl) only;
              unfailed = unfailed;
            }) tt each.0,
        opening_each on_files text (Ok done) only tt (unfailed_before (on_files ++ early) unfailed) each.1,
      )
  opening_each (Told t ∷ on_files) text done only attached unfailed each = absurd only
  opening_each (Drew purpose bytes ∷ on_files) text done only attached unfailed each = absurd only

  -- what an opening leaves as it is at first
  pub record IsUnasked (calls : List Call) : Type 0 where
    pub none : events b.plan calls ≡ []
    pub none_before : events b.plan (before_batch calls) ≡ []
    pub between : in_batch calls ≡ 0
    pub unsent : (line : ℕ) → sent line calls ≡ []
    pub bytes : taken 0 calls ≡ []
    pub unfinished : at_end 0 calls ≡ false
    pub sound : failed_on 0 calls ≡ false
    pub unshut : is_shut 0 calls ≡ false
    pub unasked : is_asked calls ≡ false
    pub each : AtEach (Answered b []) calls
    pub are_marks : AreMarks b [] calls

  few_draws_opening : (on_files : List Call) (text : List ℕ) (done : Result (Unit {0}) NameFault) → OnlyFiles on_files → FewDraws b [] 0 (on_files ++ Attached store done ∷ Text key_file 1024 (Ok text) ∷ [])
  few_draws_opening [] text done only = tt
  few_draws_opening (Text name room bytes ∷ on_files) text done only = absurd only
  few_draws_opening (Listened address heard ∷ on_files) text done only = absurd only
  few_draws_opening (Came next ∷ on_files) text done only = absurd only
  few_draws_opening (Attached name d ∷ on_files) text done only = absurd only
  few_draws_opening (Took line room bytes ∷ on_files) text done only = absurd only
  few_draws_opening (Gave line piece went ∷ on_files) text done only = absurd only
  few_draws_opening (Shut line ∷ on_files) text done only = absurd only
  few_draws_opening (OnFile file c ∷ on_files) text done only = few_draws_opening on_files text done only
  few_draws_opening (Told t ∷ on_files) text done only = absurd only
  few_draws_opening (Drew purpose bytes ∷ on_files) text done only = absurd only

  -- no batch is answered in an opening
  between_opening : (on_files : List Call) (text : List ℕ) (done : Result (Unit {0}) NameFault) → OnlyFiles on_files → in_batch (on_files ++ Attached store done ∷ Text key_file 1024 (Ok text) ∷ []) ≡ 0
  between_opening [] text done only = refl
  between_opening (Text name room bytes ∷ on_files) text done only = refl
  between_opening (Listened address heard ∷ on_files) text done only = refl
  between_opening (Came next ∷ on_files) text done only = refl
  between_opening (Attached name d ∷ on_files) text done only = refl
  between_opening (Took line room bytes ∷ on_files) text done only = refl
  between_opening (Gave line piece went ∷ on_files) text done only = refl
  between_opening (Shut line ∷ on_files) text done only = refl
  between_opening (OnFile file c ∷ on_files) text done only = refl
  between_opening (Told t ∷ on_files) text done only = absurd only
  between_opening (Drew purpose bytes ∷ on_files) text done only = absurd only

  pub attached_unasked : (calls : List Call) → StaysAsBefore was calls → AttachingCalls key_file store calls → IsUnasked calls
  attached_unasked calls each o =
      let early : List Call = Attached store o.done ∷ Text key_file 1024 (Ok o.text) ∷ [] in
      subst IsUnasked (sym o.made) (record {
        none = nothing (events b.plan) o.on_files early (λ f d x. refl) o.only;
        none_before = ap (λ (z : List Call). events b.plan z) (nothing before_batch o.on_files early (λ f d x. refl) o.only);
        between = between_opening o.on_files o.text o.done o.only;
        unsent = λ line. nothing (sent line) o.on_files early (λ f d x. refl) o.only;
        bytes = nothing (taken 0) o.on_files early (λ f d x. refl) o.only;
        unfinished = nothing (at_end 0) o.on_files early (λ f d x. refl) o.only;
        sound = nothing (failed_on 0) o.on_files early (λ f d x. refl) o.only;
        unshut = nothing (is_shut 0) o.on_files early (λ f d x. refl) o.only;
        unasked = nothing is_asked o.on_files early (λ f d x. refl) o.only;
        each = opening_each o.on_files o.text o.done o.only o.attached (subst IsUnfailedBefore o.made o.unfailed) (subst (StaysAsBefore was) o.made each);
        are_marks = record {
          marked = ap (λ (l : List LineEvent). length l) (nothing (events b.plan) o.on_files early (λ f d x. refl) o.only);
          fit = rw (nothing (events b.plan) o.on_files early (λ f d x. refl) o.only) tt;
          keys = sym (nothing (drawn OrderKey) o.on_files early (λ f d x. refl) o.only);
          few = few_draws_opening o.on_files o.text o.done o.only;
        };
      })

  pub read_unasked : (calls : List Call) → StaysAsBefore was calls → ReadingCall key_file calls → IsUnasked calls
  read_unasked calls each o =
      let at = subst (StaysAsBefore was) o.1 each in
      subst IsUnasked (sym o.1) (record {
        none = refl;
        none_before = refl;
        between = refl;
        unsent = λ line. refl;
        bytes = refl;
        unfinished = refl;
        sound = refl;
        unshut = refl;
        unasked = refl;
        each = (
          answered_as_before (Text key_file 1024 o.0 ∷ []) refl refl refl (λ line. refl) (record { of_size = refl; only = (refl, refl); later = []; of_words = refl }) tt at.0,
          answered_as_before [] refl refl refl (λ line. refl) tt tt at.1,
        );
        are_marks = record { marked = refl; fit = tt; keys = refl; few = tt };
      })

  -- the master keys of the key file are those that were found
  pub same_masters : (masters : List (List ℕ)) → HasKeys was key_file masters → masters ≡ found.masters
  same_masters masters keys =
      let text : keys.file ≡ is_found.keys.file = some_is keys.file is_found.keys.file (sym keys.there ∙ is_found.keys.there) in
      one_file (take 1024 is_found.keys.file) masters found.masters (subst (λ (f : List ℕ). IsKeyFile (take 1024 f) masters) text keys.good) is_found.keys.good

  -- before the first turn
  pub good_opened : (engine : Held) (calls : List Call) → IsOpenedBy key_file store engine was calls → GoodAt b (serving_of engine) calls
  good_opened engine calls o =
      let s = o.start in
      let u = attached_unasked calls o.each o.opening in
      let masters : o.masters ≡ found.masters = same_masters o.masters o.keys in
      let one = one_state found.masters fit (files was) s.state found.state s.steps found.steps (subst (λ (m : List (List ℕ)). Stands m (files was) s.state s.steps) masters s.stands) found_stands in
      let settled : IsSettled found.masters engine (found.steps + 0) found.state (then_calls was calls) =
      subst (λ (m : List (List ℕ)). IsSettled m engine (found.steps + 0) found.state (then_calls was calls)) masters
      (subst (λ (q : State). IsSettled o.masters engine (found.steps + 0) q (then_calls was calls)) one.0
      (subst (λ (n : ℕ). IsSettled o.masters engine n s.state (then_calls was calls)) (one.1 ∙ plus_none found.steps) s.settled)) in
      let here : IsSettled b.masters engine (b.steps + steps_by b.first (events b.plan calls) []) (course_by b.first (events b.plan calls) []).state (history b calls) = rw u.none settled in
      record {
        giving = record {
          marks = [];
          giving = record {
            each = u.each;
            are_marks = u.are_marks;
            few = λ line. omega (arith, ap (λ (l : List ℕ). length l) (u.unsent line));
            owes = λ line alive. rw (u.none, u.unsent line) (sym (on_line-nil 0 line));
            keeps = images_keep b [] (events b.plan calls) calls s.quiet (settled_keeps b [] (events b.plan calls) engine (history b calls) here);
            unfailed = o.unfailed;
          };
          line = record {
            counted = sym (ap (λ (l : List LineEvent). requests_on 0 l) u.none);
            held = rw u.bytes (after-first [] refl);
            stops = tt;
            place = rw u.bytes refl;
            unfinished = u.unfinished;
            sound = u.sound;
            unshut = u.unshut;
            keyed = ap key_file_failed o.opening.made ∙ nothing key_file_failed o.opening.on_files (Attached store o.opening.done ∷ Text key_file 1024 (Ok o.opening.text) ∷ []) (λ f d x. refl) o.opening.only;
          };
          quiet = s.quiet;
          above = λ quiet t is_first.
              let placed = s.settled.opened.opened.placed in
              let now : standing_of (files (then_calls was calls)) ≡ standing_of (files was) =
              (at_now (λ x. IsAsBefore was (then_calls was x)) calls o.each).images quiet (files (then_calls was calls)) (files_image (then_calls was calls) (s.quiet quiet)) in
              let same : s.settled.opened.opened.standing ≡ t = standing_is s.settled.opened.opened.standing t (sym placed.current ∙ now ∙ is_first) in
              let unasked = renewals-unasked calls u.unasked in
              omega (arith, ap (λ (p : Position). p.generation) placed.here, ap (λ (x : Standing). x.generation) same, unasked);
          masters = s.masters_are ∙ masters;
          settled = here;
        };
        between = u.between;
      }

  -- what is kept opens, so nothing in it is refused
  unrefused : (masters : List (List ℕ)) (fault : OpeningFault) → masters ≡ found.masters → IsKeptSo was (λ (k : Kept). IsKeptRefusal masters k fault) → fault ≡ opening.NoMemory
  unrefused masters fault same k =
      let one = stand_for_one (files was) k.kept found.kept k.steps found.steps k.keeps is_found.keeps in
      let opens : Opened found.masters k.kept found.state = subst (λ (x : Kept). Opened found.masters x found.state) (sym one.0) is_found.opens in
      open_is_no_refusal masters k.kept fault (found.state, subst (λ (m : List (List ℕ)). Opened m k.kept found.state) (sym same) opens) k.is

  -- a run that is refused has a bad key file, or its store stood for no state under it; or a call failed, or it was out of memory
  pub ended_unopened : (s : Status) (calls : List Call) → IsUnopened key_file store s was calls → EndedAt b s calls
  ended_unopened s calls u = by_status s u.why
    where
      unasked : IsUnasked calls
      unasked = elim u.opening [
        | inl read ↦ read_unasked calls u.each read
        | inr attached ↦ attached_unasked calls u.each attached
      ]

      by_status : (s : Status) → IsRefused key_file s was calls → EndedAt b s calls
      by_status status.KeyFileFault why = record { marks = []; each = unasked.each; are_marks = unasked.are_marks; end = subst KeyFileFailed (sym why) tt }
      by_status (status.BadKeyFile bad) why =
          let text : why.file ≡ is_found.keys.file = some_is why.file is_found.keys.file (sym why.there ∙ is_found.keys.there) in
          absurd (sound_file (take 1024 is_found.keys.file) found.masters bad is_found.keys.good (subst (λ (f : List ℕ). IsBadLine (take 1024 f) bad) text why.is_bad))
      by_status status.NoStore why = let no : None ≡ Some is_found.keeps.standing = sym why.0.is ∙ is_found.keeps.current in absurd (cc)
      by_status (status.Damaged place) why =
          let d = why.0.is in
          absurd (no_damage found.masters (files was) found.state found.steps d.0 d.1 found_stands d.2 d.4)
      by_status (status.UnknownMaster project) why =
          let k = why.0.is in
          let no : opening.UnknownMaster project ≡ opening.NoMemory = unrefused why.0.masters (opening.UnknownMaster project) (same_masters why.0.masters why.0.keys) (record { kept = k.kept; steps = k.steps; keeps = k.keeps; is = k.is }) in
          absurd (cc)
      by_status (status.DamagedPayload secret) why =
          let k = why.0.is in
          let no : opening.Damaged secret ≡ opening.NoMemory = unrefused why.0.masters (opening.Damaged secret) (same_masters why.0.masters why.0.keys) (record { kept = k.kept; steps = k.steps; keeps = k.keeps; is = k.is }) in
          absurd (cc)
      by_status status.StoreFault why = record {
        marks = [];
        each = unasked.each;
        are_marks = unasked.are_marks;
        end = (
          record {
            failed = why.1;
            given = inl (λ line alive.
                unasked.unsent line
                ∙ sym (ap (λ z. due_if z true line b [] calls) why.1
                ∙ ap (λ (l : List LineEvent). replies line endpoint b.first l [] ++ fault_on line (drop (length l) (events b.plan calls))) unasked.none_before
                ∙ ap (λ (l : List LineEvent). fault_on line l) unasked.none));
          },
          unasked.unfinished,
        );
      }
      by_status status.NoMemory why = record {
        marks = [];
        each = unasked.each;
        are_marks = unasked.are_marks;
        end = (
          (
            record {
              given = λ line alive. unasked.unsent line ∙ sym (ap (λ (es : List LineEvent). replies line endpoint b.first es []) (no_batch b.plan calls unasked.between ∙ unasked.none));
              room = omega (arith, unasked.between);
            },
            ([], rw (unasked.none, unasked.bytes) (after-first [] refl)),
            unasked.unfinished,
            unasked.sound,
          ),
          why.0,
          why.1,
        );
      }
      by_status status.Done why = absurd why
      by_status status.Words why = absurd why
      by_status status.StoreExists why = absurd why
      by_status status.LinkFault why = absurd why
      by_status status.DrawFault why = absurd why
      by_status (status.Rest place) why = absurd why
      by_status (status.Unreadable place) why = absurd why
