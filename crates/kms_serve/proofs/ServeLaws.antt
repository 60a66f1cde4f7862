-- A run that serves a store carries the theorem.
use Rattle.std.proofs.Common.{Bool, Err, List, None, Ok, Option, Result, Some, [], ap, append_assoc, arith, cond, false, get_or, inl, inr, refl, subst, sym, true, ℕ, ◌++◌, ◌+◌, ◌∙◌, ◌∷◌, ◌≡◌, ◌⊎◌}
use Rattle.kms_core.proofs.StandsLaws.{one_state}
use Rattle.kms_core.specs.Stands.{Stands}
use Rattle.kms_core.specs.Steps.{Held, IsSettled}
use Rattle.kms_host.proofs.Moments.{known_both, since_nothing, since_since, since_weaker}
use Rattle.kms_host.proofs.ToldLaws.{since_both}
use Rattle.kms_host.specs.Disk.{files}
use Rattle.kms_host.specs.History.{History, WhereTold}
use Rattle.kms_host.specs.Moment.{Since}
use Rattle.kms_host.specs.declared.call.Call.{Call}
use Rattle.kms_host.specs.declared.call.Call.TheVariants.{Attached, Text}
use Rattle.kms_journal.specs.Position.{Position}
use Rattle.kms_journal.specs.Standing.{Standing}
use Rattle.kms_store.proofs.StandsLaws.{some_is}
use Rattle.kms_world.specs.State.{State}
use Rattle.kms_serve.proofs.CrashLaws.{images_keep, settled_keeps, settled_stands}
use Rattle.kms_serve.proofs.EndLaws.{serves}
use Rattle.kms_serve.proofs.EventLaws.{after-first}
use Rattle.kms_serve.proofs.GiveLaws.{on_line-nil}
use Rattle.kms_serve.proofs.OpeningLaws.{answered_as_before, before_all, ended_unopened, fit, found_stands, good_opened, keys_later, same_masters}
use Rattle.kms_serve.specs.Init.{IsInitDone, IsInitStatus}
use Rattle.kms_serve.specs.Opening.{AttachingCalls, BeginsWith, IsRefusalStatus, IsUnopened, OpensStore, ReadingCall}
use Rattle.kms_serve.specs.Owing.{GoodAt}
use Rattle.kms_serve.specs.Plan.{pipe_plan}
use Rattle.kms_serve.specs.RunStart.{FromStore, HasKeys, run_start}
use Rattle.kms_serve.specs.Theorem.{Carries, IsPipeStatus, IsUnfaulted, RunPromise}
use Rattle.kms_serve.specs.Turns.{CanServe, Good, HasEnded, IsServedEnd, serving_of}
use Rattle.kms_serve.specs.Words.{endpoint_of, is_pipe, key_file_of, pipe_of, store_of}
use Rattle.kms_serve.specs.declared.status.Status.{Status}
use Rattle.kms_serve.specs.declared.status.Status.TheVariants as status

-- an engine that can serve begins well, from any moment at which the key file has its master keys
good_from : (endpoint key_file store : List ℕ) (engine : Held) (was : History) → CanServe engine was → HasKeys was key_file engine.masters → FromStore (pipe_plan store key_file endpoint) was (λ b. GoodAt b (serving_of engine) [])
good_from endpoint key_file store engine was can keys found is_found =
    let b = run_start (pipe_plan store key_file endpoint) was found in
    let masters : engine.masters ≡ found.masters = same_masters endpoint key_file store was found is_found engine.masters keys in
    let under : IsSettled found.masters engine can.steps can.state was = subst (λ (m : List (List ℕ)). IsSettled m engine can.steps can.state was) masters can.settled in
    let one = one_state found.masters (fit endpoint key_file store was found is_found) (files was) can.state found.state can.steps found.steps (settled_stands engine can.steps can.state was under)
    (found_stands endpoint key_file store was found is_found) in
    let settled : IsSettled found.masters engine (found.steps + 0) found.state was =
    subst (λ (q : State). IsSettled found.masters engine (found.steps + 0) q was) one.0 (subst (λ (n : ℕ). IsSettled found.masters engine n can.state was) (one.1 ∙ plus_none found.steps) under) in
    record {
      giving = record {
        marks = [];
        giving = record {
          each = answered_as_before endpoint key_file store was found is_found [] refl refl refl (λ line. refl) tt tt (before_all was);
          are_marks = record { marked = refl; fit = tt; keys = refl; few = tt };
          few = λ line. omega arith;
          owes = λ line alive. sym (on_line-nil 0 line);
          keeps = images_keep b [] [] [] (λ quiet. quiet) (settled_keeps b [] [] engine was settled);
          unfailed = refl;
        };
        line = record { counted = refl; held = after-first [] refl; stops = tt; place = refl; unfinished = refl; sound = refl; unshut = refl; keyed = refl };
        quiet = λ quiet. quiet;
        above = λ quiet t is_first.
            let o = can.settled.opened.opened in
            let same : o.standing ≡ t = some_is o.standing t (sym o.placed.current ∙ is_first) in
            ap (λ (p : Position). p.generation) o.placed.here ∙ ap (λ (x : Standing). x.generation) same ∙ plus_none t.generation;
        masters = masters;
        settled = settled;
      };
      between = refl;
    }
  where
    plus_none : (n : ℕ) → n ≡ n + 0
    plus_none n = omega arith

-- the key file has these master keys, the store stood for a state under them, and they were called for first
record Stood (key_file store : List ℕ) (was : History) (calls : List Call) : Type 0 where
  masters : List (List ℕ)
  keys : HasKeys was key_file masters
  state : State
  steps : ℕ
  stands : Stands masters (files was) state steps
  begins : BeginsWith key_file store calls

begins_attaching : (key_file store : List ℕ) (calls later : List Call) → AttachingCalls key_file store calls → BeginsWith key_file store (later ++ calls)
begins_attaching key_file store calls later o = record {
  read = Ok o.text;
  later = later ++ (o.on_files ++ Attached store o.done ∷ []);
  first = ap (λ (l : List Call). later ++ l) (o.made ∙ sym (append_assoc o.on_files (Attached store o.done ∷ []) (Text key_file 1024 (Ok o.text) ∷ [])))
      ∙ sym (append_assoc later (o.on_files ++ Attached store o.done ∷ []) (Text key_file 1024 (Ok o.text) ∷ []));
  second = inr (o.done, later ++ o.on_files, sym (append_assoc later o.on_files (Attached store o.done ∷ [])));
}

begins_with : (key_file store : List ℕ) (calls : List Call) → ReadingCall key_file calls ⊎ AttachingCalls key_file store calls → BeginsWith key_file store calls
begins_with key_file store calls (inl o) = record { read = o.0; later = []; first = o.1; second = inl refl }
begins_with key_file store calls (inr o) = begins_attaching key_file store calls [] o

-- the one key file of the words
only_name : (a b : List ℕ) (names : List (List ℕ)) → a ∷ [] ≡ b ∷ names → a ≡ b
only_name a b names same = ap (λ (l : List (List ℕ)). get_or l 0 []) same

pub carried : {a d c : Option History} (endpoint key_file store : List ℕ) (engine : Held) (s : Status) → Since a d (λ was calls. OpensStore key_file store (Ok engine) was calls) → WhereTold d (CanServe engine)
    → ((key_file store : List ℕ) (start : Option History) → Good endpoint key_file store start d (serving_of engine) → HasEnded endpoint key_file store start c s)
    → Since a c (λ was calls. Carries (pipe_plan store key_file endpoint) s was calls)
carried {a} {d} {c} endpoint key_file store engine s opens ready ended =
    let good = since_weaker (λ was calls. FromStore (pipe_plan store key_file endpoint) was (λ b. GoodAt b (serving_of engine) calls)) opens (λ was calls o found is_found. good_opened endpoint key_file store was found is_found engine calls o) in
    let whole = ended key_file store a good in
    let part = ended key_file store d (since_nothing (λ was calls. FromStore (pipe_plan store key_file endpoint) was (λ b. GoodAt b (serving_of engine) calls)) (known_both ready (keys_later key_file store engine opens))
    (λ was k. good_from endpoint key_file store engine was k.0 k.1)) in
    let stood = since_since (Stood key_file store) opens part (λ was x y o e. record {
      masters = o.masters;
      keys = o.keys;
      state = o.start.state;
      steps = o.start.steps;
      stands = o.start.stands;
      begins = begins_attaching key_file store x y o.opening;
    }) in
    since_weaker (λ was calls. Carries (pipe_plan store key_file endpoint) s was calls) (since_both whole stood)
    (λ was calls k. record {
      begins = λ name names same. subst (λ (n : List ℕ). BeginsWith n store calls) (only_name key_file name names same) k.1.begins;
      serves = λ found is_found. serves endpoint key_file store was found s calls (k.0 found is_found);
      refuses = λ none. absurd (none k.1.masters k.1.state k.1.steps k.1.keys k.1.stands);
    })

pub refused : {a c : Option History} (endpoint key_file store : List ℕ) (s : Status) → Since a c (λ was calls. OpensStore key_file store (Err s) was calls) → Since a c (λ was calls. Carries (pipe_plan store key_file endpoint) s was calls)
refused endpoint key_file store s opens =
    since_weaker (λ was calls. Carries (pipe_plan store key_file endpoint) s was calls) opens
    (λ was calls u. record {
      begins = λ name names same. subst (λ (n : List ℕ). BeginsWith n store calls) (only_name key_file name names same) (begins_with key_file store calls u.opening);
      serves = λ found is_found. serves endpoint key_file store was found s calls (ended_unopened endpoint key_file store was found is_found s calls u);
      refuses = λ none name names same. subst (λ (n : List ℕ). IsUnopened n store s was calls) (only_name key_file name names same) u;
    })

-- Which statuses a run ends with.

pub pipe_served : (s : Status) → IsServedEnd s → IsPipeStatus s
pipe_served status.Done h = tt
pipe_served status.NoMemory h = tt
pipe_served status.LinkFault h = tt
pipe_served status.StoreFault h = tt
pipe_served (status.Rest place) h = tt
pipe_served (status.Unreadable place) h = tt
pipe_served status.Words h = absurd h
pipe_served status.NoStore h = absurd h
pipe_served status.StoreExists h = absurd h
pipe_served status.DrawFault h = absurd h
pipe_served (status.Damaged place) h = absurd h
pipe_served status.KeyFileFault h = absurd h
pipe_served (status.BadKeyFile bad) h = absurd h
pipe_served (status.UnknownMaster project) h = absurd h
pipe_served (status.DamagedPayload secret) h = absurd h

pub pipe_refused : (T : Type 0) (s : Status) → (let r : Result T Status = Err s in IsRefusalStatus r) → IsPipeStatus s
pipe_refused T status.NoStore h = tt
pipe_refused T status.NoMemory h = tt
pipe_refused T status.StoreFault h = tt
pipe_refused T (status.Damaged place) h = tt
pipe_refused T status.KeyFileFault h = tt
pipe_refused T (status.BadKeyFile bad) h = tt
pipe_refused T (status.UnknownMaster project) h = tt
pipe_refused T (status.DamagedPayload secret) h = tt
pipe_refused T status.Done h = absurd h
pipe_refused T status.LinkFault h = absurd h
pipe_refused T (status.Rest place) h = absurd h
pipe_refused T (status.Unreadable place) h = absurd h
pipe_refused T status.Words h = absurd h
pipe_refused T status.StoreExists h = absurd h
pipe_refused T status.DrawFault h = absurd h

pub no_link_fault : (T : Type 0) (s : Status) → (let r : Result T Status = Err s in IsRefusalStatus r) → s ≡ status.LinkFault → ⊥
no_link_fault T s h e = subst (λ (x : Status). let r : Result T Status = Err x in IsRefusalStatus r) e h

-- a line that is served isn't refused for its key file
pub no_key_fault : (s : Status) → IsServedEnd s → s ≡ status.KeyFileFault → ⊥
no_key_fault s h e = subst IsServedEnd e h

pub no_key_fault_init : (s : Status) → IsInitStatus s → s ≡ status.KeyFileFault → ⊥
no_key_fault_init s h e = subst IsInitStatus e h

pub unfaulted_pipe : (s : Status) (link store key_file : Type 0) → IsPipeStatus s → (s ≡ status.LinkFault → link) → (s ≡ status.StoreFault → store) → (s ≡ status.KeyFileFault → key_file)
    → (link → ⊥) → (store → ⊥) → (key_file → ⊥) → IsUnfaulted s
unfaulted_pipe status.Done link store key_file h l f k no_link no_store no_key_file = tt
unfaulted_pipe status.NoStore link store key_file h l f k no_link no_store no_key_file = tt
unfaulted_pipe status.NoMemory link store key_file h l f k no_link no_store no_key_file = tt
unfaulted_pipe status.StoreFault link store key_file h l f k no_link no_store no_key_file = absurd (no_store (f refl))
unfaulted_pipe status.LinkFault link store key_file h l f k no_link no_store no_key_file = absurd (no_link (l refl))
unfaulted_pipe status.KeyFileFault link store key_file h l f k no_link no_store no_key_file = absurd (no_key_file (k refl))
unfaulted_pipe (status.Rest place) link store key_file h l f k no_link no_store no_key_file = tt
unfaulted_pipe (status.Unreadable place) link store key_file h l f k no_link no_store no_key_file = tt
unfaulted_pipe (status.Damaged place) link store key_file h l f k no_link no_store no_key_file = tt
unfaulted_pipe (status.BadKeyFile bad) link store key_file h l f k no_link no_store no_key_file = tt
unfaulted_pipe (status.UnknownMaster project) link store key_file h l f k no_link no_store no_key_file = tt
unfaulted_pipe (status.DamagedPayload secret) link store key_file h l f k no_link no_store no_key_file = tt
unfaulted_pipe status.Words link store key_file h l f k no_link no_store no_key_file = absurd h
unfaulted_pipe status.StoreExists link store key_file h l f k no_link no_store no_key_file = absurd h
unfaulted_pipe status.DrawFault link store key_file h l f k no_link no_store no_key_file = absurd h

pub unfaulted_init : (s : Status) → IsInitDone s → IsUnfaulted s
unfaulted_init status.Done h = tt
unfaulted_init status.StoreExists h = tt
unfaulted_init status.NoMemory h = tt
unfaulted_init status.StoreFault h = absurd h
unfaulted_init status.DrawFault h = absurd h
unfaulted_init status.Words h = absurd h
unfaulted_init status.NoStore h = absurd h
unfaulted_init status.LinkFault h = absurd h
unfaulted_init (status.Rest place) h = absurd h
unfaulted_init (status.Unreadable place) h = absurd h
unfaulted_init (status.Damaged place) h = absurd h
unfaulted_init status.KeyFileFault h = absurd h
unfaulted_init (status.BadKeyFile bad) h = absurd h
unfaulted_init (status.UnknownMaster project) h = absurd h
unfaulted_init (status.DamagedPayload secret) h = absurd h

pub no_words_init : (s : Status) → IsInitStatus s → s ≡ status.Words → ⊥
no_words_init s h e = subst IsInitStatus e h

pub no_link_init : (s : Status) → IsInitStatus s → s ≡ status.LinkFault → ⊥
no_link_init s h e = subst IsInitStatus e h

pub no_words_pipe : (s : Status) → IsPipeStatus s → s ≡ status.Words → ⊥
no_words_pipe s h e = subst IsPipeStatus e h

pub no_draw_pipe : (s : Status) → IsPipeStatus s → s ≡ status.DrawFault → ⊥
no_draw_pipe s h e = subst IsPipeStatus e h

-- What the words say, and what the run promises for them.

same_plan : (t : Bool) (c e g store key_file endpoint : List ℕ) → Some store ≡ store_of (cond t (Some (pipe_plan c e g)) None) → Some key_file ≡ key_file_of (cond t (Some (pipe_plan c e g)) None)
    → Some endpoint ≡ endpoint_of (cond t (Some (pipe_plan c e g)) None) → cond t (Some (pipe_plan c e g)) None ≡ Some (pipe_plan store key_file endpoint)
same_plan true c e g store key_file endpoint first second third =
    let one : store ≡ c = some_is store c first in
    let two : key_file ≡ e = some_is key_file e second in
    let three : endpoint ≡ g = some_is endpoint g third in
    rw (one, two, three) refl
same_plan false c e g store key_file endpoint first second third = absurd (cc)

-- the plan of words is known by its store, its key file and its endpoint
planned : (words : List (List ℕ)) (store key_file endpoint : List ℕ) → Some store ≡ store_of (pipe_of words) → Some key_file ≡ key_file_of (pipe_of words) → Some endpoint ≡ endpoint_of (pipe_of words)
    → pipe_of words ≡ Some (pipe_plan store key_file endpoint)
planned [] store key_file endpoint first second third = absurd (cc)
planned (a ∷ []) store key_file endpoint first second third = absurd (cc)
planned (a ∷ b ∷ []) store key_file endpoint first second third = absurd (cc)
planned (a ∷ b ∷ c ∷ []) store key_file endpoint first second third = absurd (cc)
planned (a ∷ b ∷ c ∷ d ∷ []) store key_file endpoint first second third = absurd (cc)
planned (a ∷ b ∷ c ∷ d ∷ e ∷ []) store key_file endpoint first second third = absurd (cc)
planned (a ∷ b ∷ c ∷ d ∷ e ∷ f ∷ []) store key_file endpoint first second third = absurd (cc)
planned (a ∷ b ∷ c ∷ d ∷ e ∷ f ∷ g ∷ []) store key_file endpoint first second third = same_plan (is_pipe a b c d e f g) c e g store key_file endpoint first second third
planned (a ∷ b ∷ c ∷ d ∷ e ∷ f ∷ g ∷ h ∷ words) store key_file endpoint first second third = absurd (cc)

pub answers_pipe : {a c : Option History} (create : Option (List ℕ)) (words : List (List ℕ)) (store key_file endpoint : List ℕ) (s : Status) → None ≡ create → Some store ≡ store_of (pipe_of words)
    → Some key_file ≡ key_file_of (pipe_of words) → Some endpoint ≡ endpoint_of (pipe_of words)
    → IsPipeStatus s → Since a c (λ was calls. Carries (pipe_plan store key_file endpoint) s was calls) → RunPromise create (pipe_of words) a c s
answers_pipe (Some name) words store key_file endpoint s no_create is_store is_key_file is_endpoint ends k = absurd (cc)
answers_pipe None words store key_file endpoint s no_create is_store is_key_file is_endpoint ends k =
    rw (planned words store key_file endpoint is_store is_key_file is_endpoint) (no_words_pipe s ends, k)
