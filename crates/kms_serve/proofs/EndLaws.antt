-- The calls of a run determine its status.
use Rattle.std.proofs.Common.{Err, List, None, Ok, Some, [], ap, arith, false, inl, inr, length, length-append, nat_eq, refl, subst, sym, true, ℕ, ◌++◌, ◌∙◌, ◌∷◌, ◌≡◌}
use Rattle.std.specs.Prelude.{◌||◌}
use Rattle.kms_host.proofs.Moments.{at_moment}
use Rattle.kms_host.specs.History.{History}
use Rattle.kms_host.specs.Line.{at_end, failed_on, sent, taken}
use Rattle.kms_host.specs.Moment.{AtEach}
use Rattle.kms_host.specs.declared.call.Call.{Call}
use Rattle.kms_host.specs.declared.call.Call.TheVariants.{Attached, Came, Drew, Gave, Listened, OnFile, Shut, Text, Told, Took}
use Rattle.kms_host.specs.declared.call.NameFault.TheVariants as names
use Rattle.kms_http.specs.MessageStream.{after}
use Rattle.kms_http.specs.MessageStream.After.{Broken, Going, Over}
use Rattle.kms_model.specs.Course.{Mark}
use Rattle.kms_serve.proofs.EventLaws.{after-bad, after-first}
use Rattle.kms_serve.proofs.TakingLaws.{due_unfailed}
use Rattle.kms_serve.specs.Allowed.{keys_read}
use Rattle.kms_serve.specs.Answered.{Answered}
use Rattle.kms_serve.specs.Ends.{AllGiven, EndsClean, EndsFailed, EndsInside, EndsShut, EndsUnreadable, KeyFileFailed, StandsAt}
use Rattle.kms_serve.specs.Events.{events, requests_on}
use Rattle.kms_serve.specs.Owing.{EndedAt}
use Rattle.kms_serve.specs.Plan.{most, pipe_plan}
use Rattle.kms_serve.specs.RunStart.{Found, RunStart, run_start}
use Rattle.kms_serve.specs.StoreCalls.{key_file_failed, store_failed}
use Rattle.kms_serve.specs.Theorem.{Serves}
use Rattle.kms_serve.specs.declared.status.Status.{Status}
use Rattle.kms_serve.specs.declared.status.Status.TheVariants as status

some_same : {A : Type 0} (x y : A) → Some x ≡ Some y → x ≡ y
some_same x y e = cc

going_same : (x y : List ℕ) → Some (Going x) ≡ Some (Going y) → x ≡ y
going_same x y e = cc

going_over : (x : List ℕ) → Some (Going x) ≡ Some Over → ⊥
going_over x e = cc

going_broken : (x : List ℕ) → Some (Going x) ≡ Some Broken → ⊥
going_broken x e = cc

over_broken : Some Over ≡ Some Broken → ⊥
over_broken e = cc

true_false : true ≡ false → ⊥
true_false e = cc

module _ (endpoint key_file store : List ℕ) (was : History) (found : Found) where
  abbrev b : RunStart
  b = run_start (pipe_plan store key_file endpoint) was found

  broken : (place : ℕ) (calls : List Call) → EndsUnreadable b place calls → after most (requests_on 0 (events b.plan calls)) (taken 0 calls) ≡ Some Broken
  broken place calls u = ap (λ n. after most n (taken 0 calls)) u.last ∙ after-bad u.before (taken 0 calls) u.rest u.refusal u.held u.bad

  clean_inside : (place : ℕ) (calls : List Call) → EndsClean b 0 calls → EndsInside b place calls → ⊥
  clean_inside place calls (inl clean) i =
      let gone : length i.rest ≡ 0 = ap length (going_same i.rest [] (sym i.held ∙ clean.1)) in
      omega (arith, i.some, gone)
  clean_inside place calls (inr over) i = going_over i.rest (sym i.held ∙ over)

  clean_broken : (calls : List Call) → EndsClean b 0 calls → after most (requests_on 0 (events b.plan calls)) (taken 0 calls) ≡ Some Broken → ⊥
  clean_broken calls (inl clean) h = going_broken [] (sym clean.1 ∙ h)
  clean_broken calls (inr over) h = over_broken (sym over ∙ h)

  -- after a failed call not all was given, or the line went on
  failed_goes : (marks : List Mark) (calls : List Call) → AtEach (Answered b marks) calls → EndsFailed 0 calls
      → store_failed calls ≡ false → AllGiven b marks calls → (rest : List ℕ) × (after most (requests_on 0 (events b.plan calls)) (taken 0 calls) ≡ Some (Going rest))
  failed_goes marks [] each fails sound given = absurd fails
  failed_goes marks (Took l room (Some bytes) ∷ calls) each fails sound given = absurd fails
  failed_goes marks (Took l room None ∷ calls) each fails sound given =
      let ready = each.0.in_turn in
      (ready.rest, subst (λ k. after most (requests_on k (events b.plan calls)) (taken k calls) ≡ Some (Going ready.rest)) fails ready.goes_on)
  failed_goes marks (Gave l piece (Some n) ∷ calls) each fails sound given = absurd fails
  failed_goes marks (Gave l piece None ∷ calls) each fails sound given =
      let next = each.0.in_turn in
      let long = ap length (given l tt ∙ due_unfailed l b marks (Gave l piece None ∷ calls) refl sound ∙ sym (due_unfailed l b marks calls refl sound) ∙ next.next) in
      absurd (omega (arith, next.some, long, length-append (sent l calls) (piece ++ next.rest), length-append piece next.rest))
  failed_goes marks (Shut l ∷ calls) each fails sound given = absurd fails
  failed_goes marks (Text name room bytes ∷ calls) each fails sound given = absurd fails
  failed_goes marks (Listened address done ∷ calls) each fails sound given = absurd fails
  failed_goes marks (Came line ∷ calls) each fails sound given = absurd fails
  failed_goes marks (Attached name done ∷ calls) each fails sound given = absurd fails
  failed_goes marks (OnFile file c ∷ calls) each fails sound given = absurd fails
  failed_goes marks (Told t ∷ calls) each fails sound given = absurd fails
  failed_goes marks (Drew purpose bytes ∷ calls) each fails sound given = absurd fails

  failed_clean : (marks : List Mark) (calls : List Call) → AtEach (Answered b marks) calls → EndsFailed 0 calls
      → at_end 0 calls ≡ false → store_failed calls ≡ false → AllGiven b marks calls → EndsClean b 0 calls → ⊥
  failed_clean marks calls each fails unended sound given (inl clean) = true_false (sym clean.0 ∙ unended)
  failed_clean marks calls each fails unended sound given (inr over) =
      let goes = failed_goes marks calls each fails sound given in going_over goes.0 (sym goes.1 ∙ over)

  -- the line goes on, and isn't at its end
  clean_unfinished : (calls : List Call) → ((r : List ℕ) × StandsAt b 0 calls (Some (Going r))) → at_end 0 calls ≡ false → EndsClean b 0 calls → ⊥
  clean_unfinished calls goes unended (inl clean) = true_false (sym clean.0 ∙ unended)
  clean_unfinished calls goes unended (inr over) = going_over goes.0 (sym goes.1 ∙ over)

  -- the newest call failed, so one did, and it didn't shut the line
  fails_failed : (calls : List Call) → EndsFailed 0 calls → failed_on 0 calls ≡ false → ⊥
  fails_failed [] fails sound = fails
  fails_failed (Text name room bytes ∷ calls) fails sound = fails
  fails_failed (Listened address done ∷ calls) fails sound = fails
  fails_failed (Came line ∷ calls) fails sound = fails
  fails_failed (Attached name done ∷ calls) fails sound = fails
  fails_failed (Took l room (Some bytes) ∷ calls) fails sound = fails
  fails_failed (Took l room None ∷ calls) fails sound =
      let same : nat_eq l 0 ≡ true = rw fails refl in true_false (sym (ap (λ t. t || failed_on 0 calls) same) ∙ sound)
  fails_failed (Gave l piece (Some n) ∷ calls) fails sound = fails
  fails_failed (Gave l piece None ∷ calls) fails sound =
      let same : nat_eq l 0 ≡ true = rw fails refl in true_false (sym (ap (λ t. t || failed_on 0 calls) same) ∙ sound)
  fails_failed (Shut l ∷ calls) fails sound = fails
  fails_failed (OnFile file c ∷ calls) fails sound = fails
  fails_failed (Told t ∷ calls) fails sound = fails
  fails_failed (Drew purpose bytes ∷ calls) fails sound = fails

  fails_shut : (calls : List Call) → EndsFailed 0 calls → EndsShut calls → ⊥
  fails_shut [] fails shut = fails
  fails_shut (Text name room bytes ∷ calls) fails shut = fails
  fails_shut (Listened address done ∷ calls) fails shut = fails
  fails_shut (Came line ∷ calls) fails shut = fails
  fails_shut (Attached name done ∷ calls) fails shut = fails
  fails_shut (Took l room (Some bytes) ∷ calls) fails shut = fails
  fails_shut (Took l room None ∷ calls) fails shut = shut
  fails_shut (Gave l piece (Some n) ∷ calls) fails shut = fails
  fails_shut (Gave l piece None ∷ calls) fails shut = shut
  fails_shut (Shut l ∷ calls) fails shut = fails
  fails_shut (OnFile file c ∷ calls) fails shut = fails
  fails_shut (Told t ∷ calls) fails shut = fails
  fails_shut (Drew purpose bytes ∷ calls) fails shut = fails

  -- a key file that couldn't be read ends the run, and it was the first call
  first_of : (name : List ℕ) (read later : List (List ℕ)) → key_file ∷ [] ≡ read ++ name ∷ later → length read ≡ 0
  first_of name [] later same = refl
  first_of name (x ∷ read) later same =
      let long = ap (λ (l : List (List ℕ)). length l) same in absurd (omega (arith, long, length-append (x ∷ read) (name ∷ later)))

  empty : (calls : List Call) → length calls ≡ 0 → calls ≡ []
  empty [] none = refl
  empty (c ∷ calls) none = absurd (omega (arith, none))

  key_alone : (marks : List Mark) (calls : List Call) → AtEach (Answered b marks) calls → KeyFileFailed calls → (name : List ℕ) × (room : ℕ) × (calls ≡ Text name room (Err names.Failed) ∷ [])
  key_alone marks [] each fails = absurd fails
  key_alone marks (Text name room (Ok bytes) ∷ calls) each fails = absurd fails
  key_alone marks (Text name room (Err names.NoMemory) ∷ calls) each fails = absurd fails
  key_alone marks (Text name room (Err names.Failed) ∷ calls) each fails =
      let turn = each.0.in_turn in
      let none : length (keys_read calls) ≡ 0 = first_of name (keys_read calls) turn.later turn.of_words in
      let first : calls ≡ [] = empty calls (omega (arith, none, turn.only.1)) in
      (name, room, ap (λ (z : List Call). Text name room (Err names.Failed) ∷ z) first)
  key_alone marks (Listened address done ∷ calls) each fails = absurd fails
  key_alone marks (Came line ∷ calls) each fails = absurd fails
  key_alone marks (Attached name done ∷ calls) each fails = absurd fails
  key_alone marks (Took l room bytes ∷ calls) each fails = absurd fails
  key_alone marks (Gave l piece went ∷ calls) each fails = absurd fails
  key_alone marks (Shut l ∷ calls) each fails = absurd fails
  key_alone marks (OnFile file c ∷ calls) each fails = absurd fails
  key_alone marks (Told t ∷ calls) each fails = absurd fails
  key_alone marks (Drew purpose bytes ∷ calls) each fails = absurd fails

  clean_key : {calls : List Call} → (name : List ℕ) × (room : ℕ) × (calls ≡ Text name room (Err names.Failed) ∷ []) → EndsClean b 0 calls → ⊥
  clean_key k clean = alone k.0 k.1 (subst (λ (z : List Call). EndsClean b 0 z) k.2 clean)
    where
      alone : (name : List ℕ) (room : ℕ) → EndsClean b 0 (Text name room (Err names.Failed) ∷ []) → ⊥
      alone name room (inl c) = true_false (sym c.0)
      alone name room (inr over) = going_over [] (sym (after-first [] refl) ∙ over)

  done : (s : Status) (calls : List Call) (e : EndedAt b s calls) → EndsClean b 0 calls
      → AllGiven b e.marks calls → store_failed calls ≡ false → s ≡ status.Done
  done status.Done calls e clean given sound = refl
  done status.NoMemory calls e clean given sound = absurd (clean_unfinished calls e.end.0.1 e.end.0.2 clean)
  done status.LinkFault calls e clean given sound = absurd (failed_clean e.marks calls e.each e.end.1 e.end.3 sound given clean)
  done status.StoreFault calls e clean given sound = absurd (true_false (sym e.end.0.failed ∙ sound))
  done status.Words calls e clean given sound = absurd e.end
  done status.NoStore calls e clean given sound = absurd e.end
  done status.StoreExists calls e clean given sound = absurd e.end
  done status.DrawFault calls e clean given sound = absurd e.end
  done status.KeyFileFault calls e clean given sound = absurd (clean_key (key_alone e.marks calls e.each e.end) clean)
  done (status.BadKeyFile bad) calls e clean given sound = absurd e.end
  done (status.UnknownMaster project) calls e clean given sound = absurd e.end
  done (status.DamagedPayload secret) calls e clean given sound = absurd e.end
  done (status.Damaged place) calls e clean given sound = absurd e.end
  done (status.Rest place) calls e clean given sound = absurd (clean_inside place calls clean e.end.3)
  done (status.Unreadable place) calls e clean given sound = absurd (clean_broken calls clean (broken place calls e.end.3))

  rest : (s : Status) (calls : List Call) → EndedAt b s calls → (place : ℕ) → EndsInside b place calls → s ≡ status.Rest place
  rest status.Done calls e place i = absurd (clean_inside place calls e.end.2 i)
  rest status.NoMemory calls e place i = absurd (true_false (sym i.ended ∙ e.end.0.2))
  rest status.LinkFault calls e place i = absurd (true_false (sym i.ended ∙ e.end.3))
  rest status.StoreFault calls e place i = absurd (true_false (sym i.ended ∙ e.end.1))
  rest status.Words calls e place i = absurd e.end
  rest status.NoStore calls e place i = absurd e.end
  rest status.StoreExists calls e place i = absurd e.end
  rest status.DrawFault calls e place i = absurd e.end
  rest status.KeyFileFault calls e place i = absurd (let k = key_alone e.marks calls e.each e.end in true_false (sym i.ended ∙ ap (λ (z : List Call). at_end 0 z) k.2))
  rest (status.BadKeyFile bad) calls e place i = absurd e.end
  rest (status.UnknownMaster project) calls e place i = absurd e.end
  rest (status.DamagedPayload secret) calls e place i = absurd e.end
  rest (status.Damaged other) calls e place i = absurd e.end
  rest (status.Rest other) calls e place i =
      let same : length e.end.3.rest ≡ length i.rest = ap length (going_same e.end.3.rest i.rest (sym e.end.3.held ∙ i.held)) in
      let places : other ≡ place = omega (arith, e.end.3.at, i.at, same) in
      ap status.Rest places
  rest (status.Unreadable other) calls e place i = absurd (going_broken i.rest (sym i.held ∙ broken other calls e.end.3))

  unreadable : (s : Status) (calls : List Call) (e : EndedAt b s calls) → (place : ℕ) → EndsUnreadable b place calls
      → AllGiven b e.marks calls → store_failed calls ≡ false → s ≡ status.Unreadable place
  unreadable status.Done calls e place u given sound = absurd (clean_broken calls e.end.2 (broken place calls u))
  unreadable status.NoMemory calls e place u given sound = absurd (going_broken e.end.0.1.0 (sym e.end.0.1.1 ∙ broken place calls u))
  unreadable status.LinkFault calls e place u given sound =
      let goes = failed_goes e.marks calls e.each e.end.1 sound given in absurd (going_broken goes.0 (sym goes.1 ∙ broken place calls u))
  unreadable status.StoreFault calls e place u given sound = absurd (true_false (sym e.end.0.failed ∙ sound))
  unreadable status.Words calls e place u given sound = absurd e.end
  unreadable status.NoStore calls e place u given sound = absurd e.end
  unreadable status.StoreExists calls e place u given sound = absurd e.end
  unreadable status.DrawFault calls e place u given sound = absurd e.end
  unreadable status.KeyFileFault calls e place u given sound = absurd (let k = key_alone e.marks calls e.each e.end in omega (arith, u.last, ap (λ (z : List Call). requests_on 0 (events b.plan z)) k.2))
  unreadable (status.BadKeyFile bad) calls e place u given sound = absurd e.end
  unreadable (status.UnknownMaster project) calls e place u given sound = absurd e.end
  unreadable (status.DamagedPayload secret) calls e place u given sound = absurd e.end
  unreadable (status.Damaged other) calls e place u given sound = absurd e.end
  unreadable (status.Rest other) calls e place u given sound = absurd (going_broken e.end.3.rest (sym e.end.3.held ∙ broken place calls u))
  unreadable (status.Unreadable other) calls e place u given sound =
      let v = e.end.3 in
      let count : v.before ≡ u.before = omega (arith, v.last, u.last) in
      let same : length v.rest ≡ length u.rest = ap length (going_same v.rest u.rest (sym v.held ∙ ap (λ n. after most n (taken 0 calls)) count ∙ u.held)) in
      let places : other ≡ place = omega (arith, v.at, u.at, same) in
      ap status.Unreadable places

  link : (s : Status) (calls : List Call) → EndedAt b s calls → EndsFailed 0 calls → store_failed calls ≡ false → s ≡ status.LinkFault
  link status.Done calls e fails sound = absurd (fails_shut calls fails e.end.3)
  link status.NoMemory calls e fails sound = absurd (fails_failed calls fails e.end.0.3)
  link status.LinkFault calls e fails sound = refl
  link status.StoreFault calls e fails sound = absurd (true_false (sym e.end.0.failed ∙ sound))
  link status.Words calls e fails sound = absurd e.end
  link status.NoStore calls e fails sound = absurd e.end
  link status.StoreExists calls e fails sound = absurd e.end
  link status.DrawFault calls e fails sound = absurd e.end
  link status.KeyFileFault calls e fails sound = absurd (let k = key_alone e.marks calls e.each e.end in subst (λ (z : List Call). EndsFailed 0 z) k.2 fails)
  link (status.BadKeyFile bad) calls e fails sound = absurd e.end
  link (status.UnknownMaster project) calls e fails sound = absurd e.end
  link (status.DamagedPayload secret) calls e fails sound = absurd e.end
  link (status.Damaged place) calls e fails sound = absurd e.end
  link (status.Rest place) calls e fails sound = absurd (fails_shut calls fails e.end.4)
  link (status.Unreadable place) calls e fails sound = absurd (fails_shut calls fails e.end.4)

  store_fault : (s : Status) (calls : List Call) → EndedAt b s calls → store_failed calls ≡ true → s ≡ status.StoreFault
  store_fault status.Done calls e failed = absurd (true_false (sym failed ∙ e.end.1.unfailed))
  store_fault status.NoMemory calls e failed = absurd (true_false (sym failed ∙ e.end.1))
  store_fault status.LinkFault calls e failed = absurd (true_false (sym failed ∙ e.end.2.unfailed))
  store_fault status.StoreFault calls e failed = refl
  store_fault status.Words calls e failed = absurd e.end
  store_fault status.NoStore calls e failed = absurd e.end
  store_fault status.StoreExists calls e failed = absurd e.end
  store_fault status.DrawFault calls e failed = absurd e.end
  store_fault status.KeyFileFault calls e failed = absurd (let k = key_alone e.marks calls e.each e.end in true_false (sym failed ∙ ap store_failed k.2))
  store_fault (status.BadKeyFile bad) calls e failed = absurd e.end
  store_fault (status.UnknownMaster project) calls e failed = absurd e.end
  store_fault (status.DamagedPayload secret) calls e failed = absurd e.end
  store_fault (status.Damaged place) calls e failed = absurd e.end
  store_fault (status.Rest place) calls e failed = absurd (true_false (sym failed ∙ e.end.2.unfailed))
  store_fault (status.Unreadable place) calls e failed = absurd (true_false (sym failed ∙ e.end.2.unfailed))

  failed_key : (calls : List Call) → KeyFileFailed calls → key_file_failed calls ≡ true
  failed_key [] fails = absurd fails
  failed_key (Text name room (Ok bytes) ∷ calls) fails = absurd fails
  failed_key (Text name room (Err names.NoMemory) ∷ calls) fails = absurd fails
  failed_key (Text name room (Err names.Failed) ∷ calls) fails = refl
  failed_key (Listened address heard ∷ calls) fails = absurd fails
  failed_key (Came line ∷ calls) fails = absurd fails
  failed_key (Attached name named ∷ calls) fails = absurd fails
  failed_key (Took l room bytes ∷ calls) fails = absurd fails
  failed_key (Gave l piece went ∷ calls) fails = absurd fails
  failed_key (Shut l ∷ calls) fails = absurd fails
  failed_key (OnFile file c ∷ calls) fails = absurd fails
  failed_key (Told t ∷ calls) fails = absurd fails
  failed_key (Drew purpose bytes ∷ calls) fails = absurd fails

  key_fault : (s : Status) (calls : List Call) → EndedAt b s calls → KeyFileFailed calls → s ≡ status.KeyFileFault
  key_fault status.KeyFileFault calls e fails = refl
  key_fault status.Done calls e fails = let k = key_alone e.marks calls e.each fails in absurd (subst EndsShut k.2 e.end.3)
  key_fault status.NoMemory calls e fails = absurd (true_false (sym (failed_key calls fails) ∙ e.end.2))
  key_fault status.LinkFault calls e fails = let k = key_alone e.marks calls e.each fails in absurd (subst (λ (z : List Call). EndsFailed 0 z) k.2 e.end.1)
  key_fault status.StoreFault calls e fails = let k = key_alone e.marks calls e.each fails in absurd (true_false (sym e.end.0.failed ∙ ap store_failed k.2))
  key_fault status.Words calls e fails = absurd e.end
  key_fault status.NoStore calls e fails = absurd e.end
  key_fault status.StoreExists calls e fails = absurd e.end
  key_fault status.DrawFault calls e fails = absurd e.end
  key_fault (status.Damaged place) calls e fails = absurd e.end
  key_fault (status.BadKeyFile bad) calls e fails = absurd e.end
  key_fault (status.UnknownMaster project) calls e fails = absurd e.end
  key_fault (status.DamagedPayload secret) calls e fails = absurd e.end
  key_fault (status.Rest place) calls e fails = let k = key_alone e.marks calls e.each fails in absurd (subst EndsShut k.2 e.end.4)
  key_fault (status.Unreadable place) calls e fails = let k = key_alone e.marks calls e.each fails in absurd (subst EndsShut k.2 e.end.4)

  -- from what holds after each call to what holds at each moment by its number
  pub serves : (s : Status) (calls : List Call) → EndedAt b s calls → Serves b s calls
  serves s calls e = record {
    marks = e.marks;
    each = at_moment (Answered b e.marks) calls e.each;
    are_marks = e.are_marks;
    end = e.end;
    exact = record {
      done = λ pipe. done s calls e;
      rest = λ pipe. rest s calls e;
      unreadable = λ pipe. unreadable s calls e;
      link = λ one. link s calls e;
      store = store_fault s calls e;
      key_file = key_fault s calls e;
    };
  }
