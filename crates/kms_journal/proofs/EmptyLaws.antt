-- A file becomes one clear commit mark, at each moment.
use Rattle.std.proofs.Common.{◌≡◌, ◌≢◌, ◌⊎◌, inl, inr, ℕ, ◌+◌, ◌<◌, min, List, [], ◌∷◌, length, get_or, take, drop, refl, sym, ◌∙◌, ap, subst, arith, Bool, true, false, cond, length-append}
use Rattle.std.specs.Prelude.{Option, None, Ok, Err, unwrap_or}
use Rattle.std.proofs.lemmas.List.{get_or-take}
use Rattle.std.proofs.lemmas.Bool.{cases_eq}
use Rattle.kms_host.specs.History.{History, HasFirst, then_call}
use Rattle.kms_host.specs.Disk.{Disk, disk, reads, at_rest, put, after_write, after_cut, MayLeave, Cut}
use Rattle.kms_host.specs.Store.{IsAttached, others, syncs}
use Rattle.kms_host.specs.Moment.{Throughout}
use Rattle.kms_host.specs.declared.call.Call.TheVariants.{OnFile}
use Rattle.kms_host.specs.declared.call.FileCall.TheVariants.{Wrote, CutTo, Synced}
use Rattle.kms_host.proofs.DiskLaws.{only_image, torn_cut, disk_there, disk_elsewhere}
use Rattle.kms_host.proofs.Moments.{goes_on, throughout_weaker, at_last}
use Rattle.kms_journal.specs.Cuts.{cuts}
use Rattle.kms_journal.specs.Device.{IsQuiet, IsUntouched, HasPlace}
use Rattle.kms_journal.specs.Emptying.{IsNoNewer, IsEmptying, IsFirstClear, ClearsFirst, Empties}
use Rattle.kms_journal.proofs.CurrentLaws.{too_short}
use Rattle.kms_journal.proofs.FileLaws.{still_attached}
use Rattle.kms_journal.proofs.NoNewerLaws.{none_of, nothing_newer, same_newer, overwritten}

-- the first byte that was read
pub first_byte : (bytes room : List ℕ) (n : ℕ) → HasFirst bytes room n → length room ≡ 1 → (n ≡ min 1 (length bytes)) × (n ≡ 1 → get_or room 0 0 ≡ get_or bytes 0 0)
first_byte bytes room n first size = (
  omega (arith, first.count, size),
  λ one.
      sym (get_or-take n room 0 0 (omega (arith, one))) ∙ ap (λ (l : List ℕ). get_or l 0 0) first.same ∙ get_or-take n bytes 0 0 (omega (arith, one)),
)

-- it is to be overwritten
pub first_set : (bytes room : List ℕ) (n : ℕ) → HasFirst bytes room n → length room ≡ 1 → (n ≡ 0) ⊎ (get_or room 0 0 ≡ 1) → (length bytes ≡ 0) ⊎ (get_or bytes 0 0 ≡ 1)
first_set bytes room n first size set = elim (cases_eq (length bytes) 0) [
  | inl none ↦ inl none
  | inr some ↦
      let f = first_byte bytes room n first size in
      elim set [ inl none ↦ absurd (omega (arith, f.0, none, some)) | inr is ↦ inr (sym (f.1 (omega (arith, f.0, some))) ∙ is) ]
]

module _ (file : ℕ) (was : History) where
  -- while it is read
  emptying_untouched : (h : History) → IsUntouched was h → IsEmptying file was h
  emptying_untouched h u = record {
    no_newer = λ quiet image may. same_newer file (reads file was) image (only_image (reads file was) image (subst (λ (d : Disk). MayLeave d image) (u.disk file ∙ quiet) may));
    other = λ f ne. u.disk f;
    others = u.others;
    later = omega (arith, u.cuts);
    once = omega (arith, u.cuts);
    syncs = omega (arith, u.syncs, u.cuts);
  }

  pub reading : (mid : History) → Throughout (IsUntouched was) was mid → Throughout (IsEmptying file was) was mid
  reading mid t = throughout_weaker (IsUntouched was) (IsEmptying file was) was mid emptying_untouched t

  pub clear_already : {T E : Type 0} (x : T) (mid : History) → Throughout (IsUntouched was) was mid → 0 < length (reads file was) → get_or (reads file was) 0 0 ≢ 1 → ClearsFirst {T = T} {E = E} file (Ok x) was mid
  clear_already x mid t some ne = record {
    throughout = reading mid t;
    syncs = (at_last (IsUntouched was) was mid t).syncs;
    cuts = (at_last (IsUntouched was) was mid t).cuts;
    done = inl ((at_last (IsUntouched was) was mid t).disk file, some, ne);
  }

  pub reading_fails : {T E : Type 0} (e : E) (mid : History) → Throughout (IsUntouched was) was mid → ClearsFirst {T = T} {E = E} file (Err e) was mid
  reading_fails e mid t = record { throughout = reading mid t; syncs = (at_last (IsUntouched was) was mid t).syncs; cuts = (at_last (IsUntouched was) was mid t).cuts; done = tt }

  -- the write of the first byte
  module _ (mid now : History) (left : Option (List ℕ)) (t : Throughout (IsUntouched was) was mid) (first : (length (reads file was) ≡ 0) ⊎ (get_or (reads file was) 0 0 ≡ 1)) (is : now ≡ then_call mid (OnFile file (Wrote 0 (0 ∷ []) left))) where
    last : IsUntouched was mid
    last = at_last (IsUntouched was) was mid t

    made : disk file now ≡ after_write (disk file was) 0 (0 ∷ []) (unwrap_or left (put (reads file was) 0 (0 ∷ [])))
    made =
        ap (disk file) is ∙ disk_there mid file (Wrote 0 (0 ∷ []) left)
        ∙ ap (λ (d : Disk). after_write d 0 (0 ∷ []) (unwrap_or left (put d.reads 0 (0 ∷ [])))) ((at_last (IsUntouched was) was mid t).disk file)

    same_syncs : syncs now.calls ≡ syncs was.calls
    same_syncs = ap (λ (h : History). syncs h.calls) is ∙ last.syncs

    same_cuts : cuts now.calls ≡ cuts was.calls
    same_cuts = ap (λ (h : History). cuts h.calls) is ∙ last.cuts

    writing : IsEmptying file was now
    writing = record {
      no_newer = λ quiet image may.
          let d = after_write (at_rest (reads file was)) 0 (0 ∷ []) (unwrap_or left (put (reads file was) 0 (0 ∷ []))) in
          let is_d : disk file now ≡ d = made ∙ ap (λ (x : Disk). after_write x 0 (0 ∷ []) (unwrap_or left (put (reads file was) 0 (0 ∷ [])))) quiet in
          overwritten file (reads file was) d first refl refl refl image (subst (λ (x : Disk). MayLeave x image) is_d may);
      other = λ f ne. ap (disk f) is ∙ disk_elsewhere mid file f (Wrote 0 (0 ∷ []) left) ne ∙ last.disk f;
      others = ap others is ∙ last.others;
      later = omega (arith, same_cuts);
      once = omega (arith, same_cuts);
      syncs = omega (arith, same_syncs, same_cuts);
    }

    pub during_write : Throughout (IsEmptying file was) was now
    during_write = goes_on (IsEmptying file was) was mid now (OnFile file (Wrote 0 (0 ∷ []) left)) (reading mid t) is writing

    pub write_fails : {T E : Type 0} (e : E) → ClearsFirst {T = T} {E = E} file (Err e) was now
    write_fails e = record { throughout = during_write; syncs = same_syncs; cuts = same_cuts; done = tt }

    pub cleared : {T E : Type 0} (x : T) → left ≡ None → ClearsFirst {T = T} {E = E} file (Ok x) was now
    cleared x all = record {
      throughout = during_write;
      syncs = same_syncs;
      cuts = same_cuts;
      done = inr (made ∙ ap (λ (l : Option (List ℕ)). after_write (disk file was) 0 (0 ∷ []) (unwrap_or l (put (reads file was) 0 (0 ∷ [])))) all, first);
    }

  -- the file is not empty then
  pub can_cut : {T E : Type 0} (x : T) (mid : History) → IsAttached was → ClearsFirst {T = T} {E = E} file (Ok x) was mid → HasPlace file 1 mid
  can_cut x mid attached k = record {
    attached = still_attached was mid (at_last (IsEmptying file was) was mid k.throughout).others attached;
    within = elim k.done [
      | inl a ↦ omega (arith, a.1, ap (λ (d : Disk). length d.reads) a.0)
      | inr a ↦ omega (arith, ap (λ (d : Disk). length d.reads) a.0, length-append (0 ∷ []) (drop 1 (reads file was)))
    ];
  }

  -- the cut behind it
  module _ (mid now : History) (left : Option (List ℕ)) (k : Throughout (IsEmptying file was) was mid) (same : syncs mid.calls ≡ syncs was.calls) (uncut : cuts mid.calls ≡ cuts was.calls) (first : IsFirstClear file was mid) (is : now ≡ then_call mid (OnFile file (CutTo 1 left))) where
    before : IsEmptying file was mid
    before = at_last (IsEmptying file was) was mid k

    cut_disk : disk file now ≡ after_cut (disk file mid) 1 (unwrap_or left (take 1 (reads file mid)))
    cut_disk = ap (disk file) is ∙ disk_there mid file (CutTo 1 left)

    one_cut : cuts now.calls ≡ cuts was.calls + 1
    one_cut = ap (λ (h : History). cuts h.calls) is ∙ ap (λ (n : ℕ). n + 1) uncut

    pub cut_no_newer : IsQuiet file was → (image : List ℕ) → MayLeave (disk file now) image → IsNoNewer file (reads file was) image
    cut_no_newer quiet image may = elim first [
      | inl a ↦
          let d = after_cut (at_rest (reads file was)) 1 (unwrap_or left (take 1 (reads file mid))) in
          let is_d : disk file now ≡ d = cut_disk ∙ ap (λ (x : Disk). after_cut x 1 (unwrap_or left (take 1 (reads file mid)))) (a.0 ∙ quiet) in
          let part : Cut 1 (reads file was) image = torn_cut (reads file was) 1 (unwrap_or left (take 1 (reads file mid))) image (omega (arith, a.1)) (subst (λ (x : Disk). MayLeave x image) is_d may) in
          let byte : get_or image 0 0 ≡ get_or (reads file was) 0 0 = ap (λ (l : List ℕ). get_or l 0 0) part.front ∙ get_or-take (length image) (reads file was) 0 0 (omega (arith, part.no_shorter)) in
          nothing_newer file (reads file was) image (none_of file image (λ e. a.2 (sym byte ∙ e)))
      | inr a ↦
          let w = after_write (at_rest (reads file was)) 0 (0 ∷ []) (put (reads file was) 0 (0 ∷ [])) in
          let d = after_cut w 1 (unwrap_or left (take 1 (reads file mid))) in
          let is_w : disk file mid ≡ w = a.0 ∙ ap (λ (x : Disk). after_write x 0 (0 ∷ []) (put (reads file was) 0 (0 ∷ []))) quiet in
          let is_d : disk file now ≡ d = cut_disk ∙ ap (λ (x : Disk). after_cut x 1 (unwrap_or left (take 1 (reads file mid)))) is_w in
          overwritten file (reads file was) d a.1 refl refl refl image (subst (λ (x : Disk). MayLeave x image) is_d may)
    ]

    cutting : IsEmptying file was now
    cutting = record {
      no_newer = cut_no_newer;
      other = λ f ne. ap (disk f) is ∙ disk_elsewhere mid file f (CutTo 1 left) ne ∙ before.other f ne;
      others = ap others is ∙ before.others;
      later = omega (arith, one_cut);
      once = omega (arith, one_cut);
      syncs = let more : syncs now.calls ≡ syncs mid.calls = ap (λ (h : History). syncs h.calls) is in omega (arith, more, same, one_cut);
    }

    pub during_cut : Throughout (IsEmptying file was) was now
    during_cut = goes_on (IsEmptying file was) was mid now (OnFile file (CutTo 1 left)) k is cutting

    pub cut_fails : {T E : Type 0} (e : E) → Empties {T = T} {E = E} file (Err e) was now
    cut_fails e = record { throughout = during_cut; done = tt; cut = tt }

    -- what is left of it
    pub one_byte : left ≡ None → (byte : ℕ) × (byte ≢ 1) × (reads file now ≡ byte ∷ [])
    one_byte all =
        let read : reads file now ≡ take 1 (reads file mid) = ap (λ (d : Disk). d.reads) cut_disk ∙ ap (λ (l : Option (List ℕ)). unwrap_or l (take 1 (reads file mid))) all in
        elim first [
          | inl a ↦ (get_or (reads file was) 0 0, a.2, read ∙ ap (λ (d : Disk). take 1 d.reads) a.0 ∙ one (reads file was) a.1)
          | inr a ↦ (0, (λ e. cc), read ∙ ap (λ (d : Disk). take 1 d.reads) a.0)
        ]
      where
        one : (l : List ℕ) → 0 < length l → take 1 l ≡ get_or l 0 0 ∷ []
        one [] some = absurd (omega arith)
        one (x ∷ l) some = refl

    -- and the sync
    module _ (end : History) (ok : Bool) (all : left ≡ None) (synced : end ≡ then_call now (OnFile file (Synced ok))) where
      pub cut_then : cuts end.calls ≡ cuts was.calls + 1
      cut_then = ap (λ (h : History). cuts h.calls) synced ∙ one_cut

      syncing : IsEmptying file was end
      syncing = record {
        no_newer = λ quiet image may. by_answer ok quiet image (subst (λ (d : Disk). MayLeave d image) (ap (disk file) synced ∙ disk_there now file (Synced ok)) may);
        other = λ f ne. ap (disk f) synced ∙ disk_elsewhere now file f (Synced ok) ne ∙ (at_last (IsEmptying file was) was now during_cut).other f ne;
        others = ap others synced ∙ (at_last (IsEmptying file was) was now during_cut).others;
        later = omega (arith, cut_then);
        once = omega (arith, cut_then);
        syncs =
            let more : syncs end.calls ≡ syncs now.calls + 1 = ap (λ (h : History). syncs h.calls) synced in
            let cut : syncs now.calls ≡ syncs mid.calls = ap (λ (h : History). syncs h.calls) is in
            omega (arith, more, cut, same, cut_then);
      }
        where
          by_answer : (ok : Bool) → IsQuiet file was → (image : List ℕ) → MayLeave (cond ok (at_rest (reads file now)) (disk file now)) image → IsNoNewer file (reads file was) image
          by_answer true quiet image may =
              let byte = one_byte all in
              nothing_newer file (reads file was) image (too_short file image (omega (arith, ap length (only_image (reads file now) image may ∙ byte.2))))
          by_answer false quiet image may = cut_no_newer quiet image may

      pub during_sync : Throughout (IsEmptying file was) was end
      during_sync = goes_on (IsEmptying file was) was now end (OnFile file (Synced ok)) during_cut synced syncing

      pub sync_fails : {T E : Type 0} (e : E) → Empties {T = T} {E = E} file (Err e) was end
      sync_fails e = record { throughout = during_sync; done = tt; cut = tt }

    pub emptied : {T E : Type 0} (x : T) (end : History) → left ≡ None → end ≡ then_call now (OnFile file (Synced true)) → Empties {T = T} {E = E} file (Ok x) was end
    emptied x end all synced =
        let byte = one_byte all in
        record {
          throughout = during_sync end true all synced;
          done = (byte.0, byte.1, ap (disk file) synced ∙ disk_there now file (Synced true) ∙ ap at_rest byte.2);
          cut = cut_then end true all synced;
        }

-- the file is cut, and not synced yet
pub record IsCutBehind (file : ℕ) (was now : History) : Type 0 where
  pub mid : History
  pub left : Option (List ℕ)
  pub throughout : Throughout (IsEmptying file was) was mid
  pub same : syncs mid.calls ≡ syncs was.calls
  pub uncut : cuts mid.calls ≡ cuts was.calls
  pub first : IsFirstClear file was mid
  pub is : now ≡ then_call mid (OnFile file (CutTo 1 left))
  pub all : left ≡ None
