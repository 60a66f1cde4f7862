-- Runs that the theorem refuses: from each wrong list of calls, the newest first, and the theorem follows anything.
use Rattle.std.proofs.Common.{Bool, Err, List, None, Ok, Option, Result, Some, [], ap, arith, false, get_or, inl, inr, length, length-append, refl, subst, suc, sym, take, true, ℕ, ◌++◌, ◌+◌, ◌<◌, ◌∙◌, ◌∷◌, ◌≡◌, ◌≤◌}
use Rattle.std.proofs.lemmas.List.{same_from_push}
use Rattle.std.specs.Prelude.{◌||◌}
use Rattle.std.specs.List.{AllByRecursion}
use Rattle.kms_aes.specs.Cipher.{IsBytes}
use Rattle.kms_core.proofs.StandsLaws.{one_state}
use Rattle.kms_core.specs.Stands.{Stands}
use Rattle.kms_host.proofs.Moments.{by_moment-last}
use Rattle.kms_host.specs.Disk.{IsImage, files}
use Rattle.kms_host.specs.History.{History}
use Rattle.kms_host.specs.Line.{sent}
use Rattle.kms_host.specs.Store.{file_call_failed}
use Rattle.kms_host.specs.declared.call.Call.{Call}
use Rattle.kms_host.specs.declared.call.Call.TheVariants.{Attached, Gave, OnFile, Shut, Text, Took}
use Rattle.kms_host.specs.declared.call.FileCall.{FileCall}
use Rattle.kms_host.specs.declared.call.FileCall.TheVariants.{Synced}
use Rattle.kms_host.specs.declared.call.NameFault.{NameFault}
use Rattle.kms_http.specs.MessageStream.{after}
use Rattle.kms_http.specs.MessageStream.After.{Going, Over}
use Rattle.kms_journal.specs.Device.{IsQuietStore}
use Rattle.kms_journal.specs.Standing.{Standing, standing_of}
use Rattle.kms_model.specs.Ask.{stores}
use Rattle.kms_serve.specs.Answered.{Answered}
use Rattle.kms_serve.specs.Events.{events}
use Rattle.kms_serve.specs.Plan.{pipe_plan}
use Rattle.kms_serve.specs.Renewals.{renewals}
use Rattle.kms_serve.specs.Replies.{answered, course_by, steps_by}
use Rattle.kms_serve.specs.RunStart.{Found, IsFound, RunStart, history, run_start}
use Rattle.kms_serve.specs.StoreCalls.{store_failed}
use Rattle.kms_serve.specs.Theorem.{Carries, Serves}
use Rattle.kms_serve.specs.declared.status.Status.{Status}
use Rattle.kms_serve.specs.declared.status.Status.TheVariants as status

module _ (endpoint key_file store : List ℕ) (was : History) (found : Found) (is_found : IsFound (pipe_plan store key_file endpoint) was found) where
  abbrev b : RunStart
  b = run_start (pipe_plan store key_file endpoint) was found

  -- the master keys are bytes
  fit : AllByRecursion (IsBytes 32) b.masters
  fit = is_found.keys.good.good.each

  -- what holds at the end of the run
  at_the_end : (s : Status) (calls : List Call) → (c : Serves b s calls) → Answered b c.marks calls
  at_the_end s calls c =
      subst (Answered b c.marks) (by_moment-last calls (length calls) refl) (c.each (length calls) (omega arith))

  -- it gives bytes on any line before a request came
  pub gives_at_once : (s : Status) (line : ℕ) (piece : List ℕ) (went : Option ℕ) → Serves b s (Gave line piece went ∷ []) → ⊥
  gives_at_once s line piece went c =
      let next = (at_the_end s (Gave line piece went ∷ []) c).in_turn in
      let none : 0 ≡ length (piece ++ next.rest) = ap length next.next in
      omega (arith, next.some, none, length-append piece next.rest)

  -- it takes again after a call that failed
  pub takes_after_a_fault : (s : Status) (room : ℕ) (bytes : Option (List ℕ)) → Serves b s (Took 0 room bytes ∷ Took 0 room None ∷ []) → ⊥
  takes_after_a_fault s room bytes c =
      let still : true ≡ false = (at_the_end s (Took 0 room bytes ∷ Took 0 room None ∷ []) c).still in cc

  -- it takes a byte at a time
  pub takes_too_little : (s : Status) (bytes : Option (List ℕ)) → Serves b s (Took 0 1 bytes ∷ []) → ⊥
  takes_too_little s bytes c =
      let size : 1 ≡ 65536 = (at_the_end s (Took 0 1 bytes ∷ []) c).in_turn.of_size in omega (arith, size)

  -- it takes from a line that isn't its own
  pub takes_from_another_line : (s : Status) (line room : ℕ) (bytes : Option (List ℕ)) → 0 < line → Serves b s (Took line room bytes ∷ []) → ⊥
  takes_from_another_line s line room bytes other c =
      let of_line = (at_the_end s (Took line room bytes ∷ []) c).in_turn.of_line in omega (arith, of_line, other)

  -- it takes again after the line's end
  pub takes_after_the_end : (s : Status) (room : ℕ) (bytes : Option (List ℕ)) → Serves b s (Took 0 room bytes ∷ Took 0 room (Some []) ∷ []) → ⊥
  takes_after_the_end s room bytes c =
      let unended : true ≡ false = (at_the_end s (Took 0 room bytes ∷ Took 0 room (Some []) ∷ []) c).in_turn.unended in cc

  -- it gives again after a call that failed
  pub gives_after_a_fault : (s : Status) (piece again : List ℕ) (went : Option ℕ) (calls : List Call)
      → Serves b s (Gave 0 again went ∷ Gave 0 piece None ∷ calls) → ⊥
  gives_after_a_fault s piece again went calls c =
      let still : true ≡ false = (at_the_end s (Gave 0 again went ∷ Gave 0 piece None ∷ calls) c).still in cc

  -- it gives nothing, as a part of a reply
  pub gives_no_bytes : (s : Status) (line : ℕ) (went : Option ℕ) (calls : List Call) → Serves b s (Gave line [] went ∷ calls) → ⊥
  gives_no_bytes s line went calls c =
      let some = (at_the_end s (Gave line [] went ∷ calls) c).in_turn.some in omega (arith, some)

  -- it shuts another line, or its own twice
  pub shuts_another_line : (s : Status) (line : ℕ) (calls : List Call) → 0 < line → Serves b s (Shut line ∷ calls) → ⊥
  shuts_another_line s line calls other c =
      let of_line = (at_the_end s (Shut line ∷ calls) c).in_turn.of_line in omega (arith, of_line, other)

  pub shuts_twice : (s : Status) (calls : List Call) → Serves b s (Shut 0 ∷ Shut 0 ∷ calls) → ⊥
  shuts_twice s calls c =
      let once : true ≡ false = (at_the_end s (Shut 0 ∷ Shut 0 ∷ calls) c).in_turn.once in cc

  -- it ends well without shutting the line
  pub leaves_the_line : (room : ℕ) (calls : List Call) → Serves b status.Done (Took 0 room (Some []) ∷ calls) → ⊥
  leaves_the_line room calls c = c.end.3

  going_over : (x : List ℕ) → Some (Going x) ≡ Some Over → ⊥
  going_over x e = cc

  -- it ends before it read the line
  pub done_at_once : Serves b status.Done [] → ⊥
  unfolding after
  done_at_once c = elim c.end.2 [
    | inl over ↦ let no : false ≡ true = over.0 in cc
    | inr over ↦ going_over [] over
  ]

  -- it answers a link fault though no call failed
  pub fault_without_a_call : Serves b status.LinkFault [] → ⊥
  fault_without_a_call c = c.end.1

  -- it takes bytes before it read a key file, or reads none
  pub takes_without_keys : (s : Status) (line room : ℕ) (bytes : Option (List ℕ)) (later : List Call)
      → Carries b.plan s was (later ++ Took line room bytes ∷ []) → ⊥
  takes_without_keys s line room bytes later c =
      let g = c.begins key_file [] refl in
      let first = (same_from_push later g.later (Took line room bytes) (Text key_file 1024 g.read) g.first).1 in cc

  -- it takes bytes before it attached a store
  pub takes_without_a_store : (s : Status) (line room : ℕ) (bytes : Option (List ℕ)) (text : List ℕ)
      → Carries b.plan s was (Took line room bytes ∷ Text key_file 1024 (Ok text) ∷ []) → ⊥
  takes_without_a_store s line room bytes text c =
      let g = c.begins key_file [] refl in
      let later : Took line room bytes ∷ [] ≡ g.later = (same_from_push (Took line room bytes ∷ []) g.later (Text key_file 1024 (Ok text)) (Text key_file 1024 g.read) g.first).0 in
      elim g.second [
        | inl none ↦ let no : Took line room bytes ∷ [] ≡ [] = later ∙ none in cc
        | inr more ↦ let no = (same_from_push [] more.1 (Took line room bytes) (Attached store more.0) (later ∙ more.2)).1 in cc
      ]

  -- it names another store
  pub names_another_store : (s : Status) (name : List ℕ) (done : Result (Unit {0}) NameFault) → (name ≡ b.plan.store → ⊥) → Serves b s (Attached name done ∷ []) → ⊥
  names_another_store s name done other c = other (at_the_end s (Attached name done ∷ []) c).in_turn.of_words

  -- it names the store again
  pub names_it_again : (s : Status) (name text : List ℕ) (done first : Result (Unit {0}) NameFault) → Serves b s (Attached name done ∷ Attached name first ∷ Text key_file 1024 (Ok text) ∷ []) → ⊥
  names_it_again s name text done first c =
      let at_first : 2 ≡ 1 = (at_the_end s (Attached name done ∷ Attached name first ∷ Text key_file 1024 (Ok text) ∷ []) c).in_turn.at_first.1 in omega (arith, at_first)

  -- it reads another key file
  pub reads_another_key_file : (s : Status) (name : List ℕ) (room : ℕ) (read : Result (List ℕ) NameFault) → (name ≡ key_file → ⊥) → Serves b s (Text name room read ∷ []) → ⊥
  reads_another_key_file s name room read other c =
      let words : key_file ∷ [] ≡ name ∷ _ = (at_the_end s (Text name room read ∷ []) c).in_turn.of_words in other (sym (ap (λ (l : List (List ℕ)). get_or l 0 []) words))

  -- it reads the key file twice
  pub reads_keys_twice : (s : Status) (name text : List ℕ) (room : ℕ) (read : Result (List ℕ) NameFault) → Serves b s (Text name room read ∷ Text key_file 1024 (Ok text) ∷ []) → ⊥
  reads_keys_twice s name text room read c =
      let words : key_file ∷ [] ≡ key_file ∷ name ∷ _ = (at_the_end s (Text name room read ∷ Text key_file 1024 (Ok text) ∷ []) c).in_turn.of_words in
      let long : 1 ≡ suc (suc _) = ap (λ (l : List (List ℕ)). length l) words in omega (arith, long)

  -- it reads more of it
  pub reads_more_of_the_key_file : (s : Status) (name : List ℕ) (read : Result (List ℕ) NameFault) → Serves b s (Text name 4096 read ∷ []) → ⊥
  reads_more_of_the_key_file s name read c = let size : 4096 ≡ 1024 = (at_the_end s (Text name 4096 read ∷ []) c).in_turn.of_size in omega (arith, size)

  -- it attaches the store before it has read the key file
  pub attaches_without_keys : (s : Status) (name : List ℕ) (done : Result (Unit {0}) NameFault) → Serves b s (Attached name done ∷ []) → ⊥
  attaches_without_keys s name done c =
      let one : 0 ≡ 1 = (at_the_end s (Attached name done ∷ []) c).in_turn.at_first.1 in omega (arith, one)

  -- it attaches the store though the key file couldn't be read
  pub attaches_after_a_fault : (s : Status) (name : List ℕ) (done : Result (Unit {0}) NameFault) (fault : NameFault) → Serves b s (Attached name done ∷ Text key_file 1024 (Err fault) ∷ []) → ⊥
  attaches_after_a_fault s name done fault c =
      let none : [] ≡ key_file ∷ [] = (at_the_end s (Attached name done ∷ Text key_file 1024 (Err fault) ∷ []) c).in_turn.at_first.0 in cc

  -- it sends a byte of a reply while a stop may leave the store without the request's step
  pub replies_too_early : (s : Status) (calls : List Call) (image : List ℕ × List ℕ) → (c : Serves b s calls)
      → IsQuietStore b.was → IsImage (history b calls) image → Stands b.masters image b.first.state b.steps
      → 0 < length (sent 0 calls) → 0 < steps_by b.first (take 1 (answered b.plan calls)) c.marks → ⊥
  replies_too_early s calls image c quiet is stands begun stores =
      let h = (at_the_end s calls c).safe.images quiet image is in
      let one = one_state b.masters fit image b.first.state (course_by b.first (take h.count (events b.plan calls)) c.marks).state b.steps (b.steps + steps_by b.first (take h.count (events b.plan calls)) c.marks) stands h.keeps.stands in
      omega (arith, h.acknowledged refl 0 0 begun, stores, one.1)

  -- it calls a file after a call of a file that failed
  pub goes_on_after_a_fault : (s : Status) (f g : ℕ) (c d : FileCall) (calls : List Call) → file_call_failed c ≡ true
      → Serves b s (OnFile g d ∷ OnFile f c ∷ calls) → ⊥
  goes_on_after_a_fault s f g c d calls failed k =
      let sound : (file_call_failed c || store_failed calls) ≡ false = (at_the_end s (OnFile g d ∷ OnFile f c ∷ calls) k).in_turn.unfailed in
      let no : true ≡ false = sym (ap (λ (x : Bool). x || store_failed calls) failed) ∙ sound in cc

  -- it tries again a sync that failed while its store was opened
  pub syncs_again : (s : Status) (store text : List ℕ)
      → Serves b s (OnFile 0 (Synced false) ∷ OnFile 0 (Synced false) ∷ Attached store (Ok tt) ∷ Text key_file 1024 (Ok text) ∷ []) → ⊥
  syncs_again s store text = goes_on_after_a_fault s 0 0 (Synced false) (Synced false) (Attached store (Ok tt) ∷ Text key_file 1024 (Ok text) ∷ []) refl

  -- it ends well and leaves a request's step after
  pub ends_without_a_step : (calls : List Call) → (c : Serves b status.Done calls) → Stands b.masters (files (history b calls)) b.first.state b.steps
      → 0 < steps_by b.first (events b.plan calls) c.marks → ⊥
  ends_without_a_step calls c stands stores =
      let one = one_state b.masters fit (files (history b calls)) b.first.state (course_by b.first (events b.plan calls) c.marks).state b.steps (b.steps + steps_by b.first (events b.plan calls) c.marks) stands c.end.1.keeps.stands in
      omega (arith, stores, one.1)

  -- it answers a store fault though no call failed
  pub store_fault_without_a_call : Serves b status.StoreFault [] → ⊥
  store_fault_without_a_call c = let failed : false ≡ true = c.end.0.failed in cc

  -- it answers that it is out of memory after a call that failed
  pub fault_as_out_of_memory : (room : ℕ) (calls : List Call) → Serves b status.NoMemory (Took 0 room None ∷ calls) → ⊥
  fault_as_out_of_memory room calls c = let sound : true ≡ false = c.end.0.3 in cc

  -- it calls a file though the store couldn't be attached
  pub calls_a_file_unattached : (s : Status) (f : ℕ) (c : FileCall) (fault : NameFault) (text : List ℕ)
      → Serves b s (OnFile f c ∷ Attached b.plan.store (Err fault) ∷ Text key_file 1024 (Ok text) ∷ []) → ⊥
  calls_a_file_unattached s f c fault text v = elim (at_the_end s (OnFile f c ∷ Attached b.plan.store (Err fault) ∷ Text key_file 1024 (Ok text) ∷ []) v).in_turn.needed [
    | inl opening ↦ let apart : Attached b.plan.store (Err fault) ∷ Text key_file 1024 (Ok text) ∷ [] ≡ Attached b.plan.store (Ok tt) ∷ opening.read = opening.apart in cc
    | inr step ↦ omega (arith, step.needed)
  ]

  -- it cuts files twice, and a stop may leave the generation with which it began
  pub cuts_in_vain : (s : Status) (calls : List Call) (image : List ℕ × List ℕ) (began left : Standing) → Serves b s calls
      → IsQuietStore b.was → IsImage (history b calls) image → standing_of (files b.was) ≡ Some began → standing_of image ≡ Some left → left.generation ≡ began.generation → 2 ≤ renewals calls → ⊥
  cuts_in_vain s calls image began left c quiet is began_is leaves same twice =
      omega (arith, ((at_the_end s calls c).renewed.images quiet image is began left began_is leaves).1, same, twice)
