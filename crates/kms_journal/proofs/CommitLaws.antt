-- A commit, at each moment.
use Rattle.std.proofs.Common.{◌≡◌, ◌≢◌, inl, inr, ℕ, ◌+◌, ◌≤◌, ◌<◌, List, [], ◌∷◌, ◌++◌, length, get_or, refl, sym, ◌∙◌, ap, subst, arith, true, length-append}
use Rattle.std.specs.Prelude.{Some, None, Result, Ok, Err}
use Rattle.kms_host.specs.History.{History, then_call}
use Rattle.kms_host.specs.Disk.{Disk, disk, reads, files, of_file, at_rest, put, IsImage, Torn}
use Rattle.kms_host.specs.Store.{IsAttached, others, syncs}
use Rattle.kms_host.specs.Moment.{Throughout, then_calls}
use Rattle.kms_host.specs.declared.call.Call.TheVariants.{OnFile}
use Rattle.kms_host.specs.declared.call.FileCall.TheVariants.{Wrote, Synced}
use Rattle.kms_host.proofs.Moments.{throughout_weaker, joined, at_last}
use Rattle.kms_journal.specs.Standing.{Standing, standing, standing_of, with_framed}
use Rattle.kms_journal.specs.Cuts.{cuts}
use Rattle.kms_journal.specs.Device.{IsQuiet, IsQuietStore, HasPlace, IsWriting, WritesThrough}
use Rattle.kms_journal.specs.Position.{Position, IsPlaced}
use Rattle.kms_journal.specs.Commit.{IsFramed, IsBeforeOrAfter, Commits}
use Rattle.kms_journal.proofs.FileLaws.{own_standing, replaced, image_of, file_of, quiet_part, rested, still_quiet, still_attached}
use Rattle.kms_journal.proofs.FrameLaws.{Rests, rests, torn_frame, framed_bytes, torn_mark, set_bytes, adds, last_clear}

-- What the store stands for is of this file. Each file other than this one is as it was, and this one's part of an image stands for s.
pub by_file : (file : ℕ) (was q : History) (c s : Standing) → file < 2 → standing_of (files was) ≡ Some c → c.file ≡ file → IsQuietStore was → ((g : ℕ) → file ≢ g → disk g q ≡ disk g was)
    → (image : List ℕ × List ℕ) → IsImage q image → s.generation ≡ c.generation → standing file (of_file file image) ≡ Some s → standing_of image ≡ Some s
by_file file was q c s lt current in_file quiet other image is gen stands =
    replaced file lt (files was) image c s current in_file (λ g low ne. quiet_part g low was q (quiet g low) (other g ne) image is) gen stands

-- the same of the files as they read
pub by_reads : (file : ℕ) (was now : History) (c s : Standing) → file < 2 → standing_of (files was) ≡ Some c → c.file ≡ file → ((g : ℕ) → file ≢ g → disk g now ≡ disk g was)
    → s.generation ≡ c.generation → standing file (reads file now) ≡ Some s → standing_of (files now) ≡ Some s
by_reads file was now c s lt current in_file other gen stands =
    replaced file lt (files was) (files now) c s current in_file
    (λ g low ne. file_of g low now ∙ ap (λ (d : Disk). d.reads) (other g ne) ∙ sym (file_of g low was))
    gen (ap (standing file) (file_of file lt now) ∙ stands)

-- the store stands for s, and this file of it ends at this place
pub record Ends (file end : ℕ) (h : History) (s : Standing) : Type 0 where
  pub attached : IsAttached h
  pub current : standing_of (files h) ≡ Some s
  pub in_file : s.file ≡ file
  pub rests : Rests file end (reads file h) s

pub ends_placed : (p : Position) (h : History) (s : Standing) → p.file < 2 → IsPlaced p h s → Ends p.file p.end h s
ends_placed p h s lt placed =
    let in_file : s.file ≡ p.file = sym (ap (λ (q : Position). q.file) placed.here) in
    let at_end : s.stop ≡ p.end = sym (ap (λ (q : Position). q.end) placed.here) in
    let own : standing p.file (reads p.file h) ≡ Some s = ap (standing p.file) (sym (file_of p.file lt h)) ∙ own_standing p.file lt (files h) s placed.current in_file in
    let last : length (reads p.file h) ≡ p.end + 1 = ap (λ (f : ℕ). length (reads f h)) (sym in_file) ∙ placed.last ∙ ap (λ (e : ℕ). e + 1) at_end in
    let clear : get_or (reads p.file h) p.end 0 ≡ 0 =
    ap (λ (f : ℕ). get_or (reads f h) p.end 0) (sym in_file) ∙ ap (λ (e : ℕ). get_or (reads s.file h) e 0) (sym at_end) ∙ placed.clear in
    record { attached = placed.attached; current = placed.current; in_file = in_file; rests = rests p.file p.end (reads p.file h) s own placed.whole at_end last clear }

pub has_end : (p : Position) (h : History) (s : Standing) → p.file < 2 → IsPlaced p h s → HasPlace p.file (p.end + 1) h
has_end p h s lt placed =
    let e = ends_placed p h s lt placed in
    record { attached = placed.attached; within = omega (arith, ap length e.rests.split, length-append e.rests.front (0 ∷ []), e.rests.size) }

module _ (p new : Position) (framed : List ℕ) (was : History) (s : Standing) (lt : p.file < 2) (placed : IsPlaced p was s) (framed_ok : IsFramed framed) where
  e : Ends p.file p.end was s
  e = ends_placed p was s lt placed

  -- the first write, and the second on the file that the first made
  first_moment : (n : ℕ) (q : History) → IsWriting p.file (p.end + 1) n was q → IsBeforeOrAfter s framed was q
  first_moment n q w = record {
    images = λ quiet image is.
        inl (by_file p.file was q s s lt placed.current (ends_placed p was s lt placed).in_file quiet w.other image is refl
        (torn_frame p.file p.end framed (reads p.file was) s (ends_placed p was s lt placed).rests framed_ok (of_file p.file image) n (w.torn (quiet p.file lt) (of_file p.file image) (image_of p.file lt q image is))));
    other = λ f ne. w.other f (λ x. ne ((ends_placed p was s lt placed).in_file ∙ x));
    others = w.others;
    syncs = omega (arith, w.syncs);
    cuts = w.cuts;
  }

  pub first_fails : {T D E : Type 0} (d : D) (x : E) (now : History) → WritesThrough {T = T} {E = D} p.file (p.end + 1) framed (Err d) was now → Commits {T = T} {E = E} p new framed (Err x) s was now
  first_fails d x now w = record {
    throughout = throughout_weaker (IsWriting p.file (p.end + 1) (length framed) was) (IsBeforeOrAfter s framed was) was now (first_moment (length framed)) w.throughout;
    placed = tt;
    quiet = tt;
    rests = tt;
    calls = tt;
  }

  -- the framed record is on the disk
  pub record IsStaged (mid : History) : Type 0 where
    pub during : Throughout (IsBeforeOrAfter s framed was) was mid
    pub on_disk : disk p.file mid ≡ at_rest (put (reads p.file was) (p.end + 1) framed)
    pub other : (g : ℕ) → p.file ≢ g → disk g mid ≡ disk g was
    pub others : others mid ≡ others was
    pub syncs : syncs mid.calls ≤ syncs was.calls + 1
    pub cuts : cuts mid.calls ≡ cuts was.calls
    pub calls : mid ≡ then_calls was (OnFile p.file (Synced true) ∷ OnFile p.file (Wrote (p.end + 1) framed None) ∷ [])

  pub staged : {T E : Type 0} (x : T) (mid : History) → WritesThrough {T = T} {E = E} p.file (p.end + 1) framed (Ok x) was mid → IsStaged mid
  staged x mid w =
      let last = at_last (IsWriting p.file (p.end + 1) (length framed) was) was mid w.throughout in
      record {
        during = throughout_weaker (IsWriting p.file (p.end + 1) (length framed) was) (IsBeforeOrAfter s framed was) was mid (first_moment (length framed)) w.throughout;
        on_disk = w.done;
        other = last.other;
        others = last.others;
        syncs = last.syncs;
        cuts = last.cuts;
        calls = w.calls;
      }

  staged_bytes : (mid : History) → IsStaged mid → reads p.file mid ≡ (ends_placed p was s lt placed).rests.front ++ 0 ∷ framed
  staged_bytes mid st = ap (λ (d : Disk). d.reads) st.on_disk ∙ framed_bytes p.file p.end framed (reads p.file was) s (ends_placed p was s lt placed).rests framed_ok

  pub can_set : (mid : History) → IsStaged mid → HasPlace p.file p.end mid
  can_set mid st =
      let r = (ends_placed p was s lt placed).rests in
      record {
        attached = still_attached was mid st.others placed.attached;
        within = omega (arith, ap length (staged_bytes mid st), length-append r.front (0 ∷ framed), r.size);
      }

  second_moment : (mid q : History) → IsStaged mid → IsWriting p.file p.end 1 mid q → IsBeforeOrAfter s framed was q
  second_moment mid q st w = record {
    images = λ quiet image is.
        let part = of_file p.file image in
        let here : IsQuiet p.file mid = st.on_disk ∙ ap at_rest (sym (ap (λ (d : Disk). d.reads) st.on_disk)) in
        let torn = subst (λ l. Torn p.end 1 l part) (staged_bytes mid st) (w.torn here part (image_of p.file lt q image is)) in
        let join : (x : Standing) → x.generation ≡ s.generation → standing p.file part ≡ Some x → standing_of image ≡ Some x =
        λ x gen stands. by_file p.file was q s x lt placed.current (ends_placed p was s lt placed).in_file quiet (λ g ne. w.other g ne ∙ st.other g ne) image is gen stands in
        elim (torn_mark p.file p.end framed (reads p.file was) s (ends_placed p was s lt placed).rests framed_ok part torn) [
          | inl stands ↦ inl (join s refl stands)
          | inr stands ↦ inr (join (with_framed s framed) refl stands)
        ];
    other = λ f ne. let away : p.file ≢ f = λ x. ne ((ends_placed p was s lt placed).in_file ∙ x) in w.other f away ∙ st.other f away;
    others = w.others ∙ st.others;
    syncs = omega (arith, w.syncs, st.syncs);
    cuts = w.cuts ∙ st.cuts;
  }

  both : (mid now : History) → IsStaged mid → Throughout (IsWriting p.file p.end 1 mid) mid now → Throughout (IsBeforeOrAfter s framed was) was now
  both mid now st second =
      joined (IsBeforeOrAfter s framed was) was mid now st.during
      (throughout_weaker (IsWriting p.file p.end 1 mid) (IsBeforeOrAfter s framed was) mid now (λ q w. second_moment mid q st w) second)

  ends : new ≡ (let q : Position = record p { end = p.end + length framed; chain = None } in q) → (mid now : History) → IsStaged mid → IsWriting p.file p.end 1 mid now → disk p.file now ≡ at_rest (put (reads p.file mid) p.end (1 ∷ []))
      → IsPlaced new now (with_framed s framed)
  ends moved mid now st last on_disk =
      let r = (ends_placed p was s lt placed).rests in
      let in_file = (ends_placed p was s lt placed).in_file in
      let read : reads p.file now ≡ r.front ++ 1 ∷ framed =
      ap (λ (d : Disk). d.reads) on_disk ∙ ap (λ (l : List ℕ). put l p.end (1 ∷ [])) (staged_bytes mid st) ∙ set_bytes p.file p.end framed (reads p.file was) s r framed_ok in
      let here : reads s.file now ≡ r.front ++ 1 ∷ framed = ap (λ (f : ℕ). reads f now) in_file ∙ read in
      let other : (g : ℕ) → p.file ≢ g → disk g now ≡ disk g was = λ g ne. last.other g ne ∙ st.other g ne in
      let same : others now ≡ others was = last.others ∙ st.others in
      subst (λ (q : Position). IsPlaced q now (with_framed s framed)) (sym moved)
      (record {
        attached = still_attached was now same placed.attached;
        current = by_reads p.file was now s (with_framed s framed) lt placed.current in_file other refl
            (ap (standing p.file) read ∙ adds p.file p.end framed (reads p.file was) s r framed_ok);
        whole = placed.whole;
        here = ap (λ (q : Position). record q { end = q.end + length framed; chain = None }) placed.here;
        read = tt;
        last = ap length here ∙ omega (arith, length-append r.front (1 ∷ framed), r.size, r.stop_is);
        clear = ap (λ (l : List ℕ). get_or l (s.stop + length framed) 0) here ∙ ap (λ (n : ℕ). get_or (r.front ++ 1 ∷ framed) (n + length framed) 0) r.stop_is
            ∙ last_clear p.file p.end framed (reads p.file was) s r framed_ok;
      })

  pub second_fails : {T D E : Type 0} (d : D) (x : E) (mid now : History) → IsStaged mid → WritesThrough {T = T} {E = D} p.file p.end (1 ∷ []) (Err d) mid now → Commits {T = T} {E = E} p new framed (Err x) s was now
  second_fails d x mid now st w = record { throughout = both mid now st w.throughout; placed = tt; quiet = tt; rests = tt; calls = tt }

  pub second_done : {T E : Type 0} (x : T) → new ≡ (let q : Position = record p { end = p.end + length framed; chain = None } in q) → (mid now : History) → IsStaged mid → WritesThrough {T = T} {E = E} p.file p.end (1 ∷ []) (Ok x) mid now
      → Commits {T = T} {E = E} p new framed (Ok x) s was now
  second_done x moved mid now st w =
      let last = at_last (IsWriting p.file p.end 1 mid) mid now w.throughout in
      record {
        throughout = both mid now st w.throughout;
        placed = ends moved mid now st last w.done;
        quiet = λ quiet. still_quiet p.file was now (rested p.file now _ w.done) (λ g ne. last.other g ne ∙ st.other g ne) quiet;
        rests = subst (λ (f : ℕ). IsQuiet f now) (sym (ends_placed p was s lt placed).in_file) (rested p.file now _ w.done);
        calls = w.calls ∙ ap (λ (h : History). then_call (then_call h (OnFile p.file (Wrote p.end (1 ∷ []) None))) (OnFile p.file (Synced true))) st.calls;
      }

-- the same file and place
pub same_write : {T E : Type 0} (file f at n : ℕ) (same : file ≡ f) (place : at ≡ n) (piece : List ℕ) (result : Result T E) (was now : History)
    → WritesThrough {T = T} {E = E} file at piece result was now → WritesThrough {T = T} {E = E} f n piece result was now
same_write {T} {E} file f at n same place piece result was now w =
    subst (λ (x : ℕ). WritesThrough {T = T} {E = E} x n piece result was now) same
    (subst (λ (x : ℕ). WritesThrough {T = T} {E = E} file x piece result was now) place w)
