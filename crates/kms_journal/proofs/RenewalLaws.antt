-- A file that is written anew, at each moment.
use Rattle.std.proofs.Common.{◌≡◌, ◌≢◌, ◌⊎◌, inl, inr, ℕ, ◌+◌, ◌≤◌, ◌<◌, List, [], ◌∷◌, ◌++◌, length, get_or, sym, ◌∙◌, ap, subst, arith, Bool, true, false, cond}
use Rattle.std.specs.Prelude.{Result, Ok, Err}
use Rattle.std.proofs.lemmas.List.{drop_more}
use Rattle.std.proofs.lemmas.Bool.{cases_eq}
use Rattle.kms_host.specs.History.{History, then_call}
use Rattle.kms_host.specs.Disk.{Disk, disk, reads, at_rest, put, MayLeave, IsOutside, Torn}
use Rattle.kms_host.specs.Store.{IsAttached, others, syncs}
use Rattle.kms_host.specs.Moment.{Throughout}
use Rattle.kms_host.specs.declared.call.Call.TheVariants.{OnFile}
use Rattle.kms_host.specs.declared.call.FileCall.TheVariants.{Synced}
use Rattle.kms_host.proofs.DiskLaws.{only_image, disk_there, disk_elsewhere}
use Rattle.kms_host.proofs.Moments.{goes_on, joined, throughout_weaker, at_last}
use Rattle.kms_journal.specs.Cuts.{cuts}
use Rattle.kms_journal.specs.Device.{IsQuiet, HasPlace, IsWriting, WritesThrough}
use Rattle.kms_journal.specs.Emptying.{IsNoNewer, IsEmptying, Empties}
use Rattle.kms_journal.specs.Renewal.{IsEnd, IsGrowing, Appends, IsRenewing, Renews}
use Rattle.kms_journal.proofs.FileLaws.{rested, still_attached}
use Rattle.kms_journal.proofs.NoNewerLaws.{none_of, nothing_newer}

module _ (file : ℕ) (rest : List ℕ) (was : History) where
  -- The file is emptied.
  emptying : (h : History) → IsEmptying file was h → IsRenewing file rest was h
  emptying h e = record { images = λ quiet image may. inl (e.no_newer quiet image may); other = e.other; others = e.others; later = e.later; once = e.once; syncs = omega (arith, e.syncs, e.later, e.once) }

  pub empty_fails : {T E D : Type 0} (d : D) (e : E) (now : History) → Empties {T = T} {E = D} file (Err d) was now → Renews {T = T} {E = E} file rest (Err e) was now
  empty_fails d e now x = record { throughout = throughout_weaker (IsEmptying file was) (IsRenewing file rest was) was now emptying x.throughout; done = tt; cut = tt }

  -- it is one byte, and no commit mark that is set
  pub record IsBegun (now : History) : Type 0 where
    pub first : ℕ
    pub clear : first ≢ 1
    pub during : Throughout (IsRenewing file rest was) was now
    pub on_disk : disk file now ≡ at_rest (first ∷ [])
    pub other : (f : ℕ) → file ≢ f → disk f now ≡ disk f was
    pub others : others now ≡ others was
    pub syncs : syncs now.calls ≤ syncs was.calls + 1
    pub cuts : cuts now.calls ≡ cuts was.calls + 1

  pub begun : {T E : Type 0} (x : T) (now : History) → Empties {T = T} {E = E} file (Ok x) was now → IsBegun now
  begun x now e =
      let last = at_last (IsEmptying file was) was now e.throughout in
      record {
        first = e.done.0;
        clear = e.done.1;
        during = throughout_weaker (IsEmptying file was) (IsRenewing file rest was) was now emptying e.throughout;
        on_disk = e.done.2;
        other = last.other;
        others = last.others;
        syncs = omega (arith, last.syncs, e.cut);
        cuts = e.cut;
      }

  pub begun_end : (mid : History) → IsAttached was → IsBegun mid → IsEnd file 1 mid
  begun_end mid attached b = record { attached = still_attached was mid b.others attached; size = ap (λ (d : Disk). length d.reads) b.on_disk }

  -- What stands after the first byte is written.
  growing : (mid h : History) → IsBegun mid → IsGrowing file mid h → IsRenewing file rest was h
  growing mid h b g = record {
    images = λ quiet image may.
        let shortest : (disk file h).shortest ≡ 1 = g.shortest ∙ ap (λ (d : Disk). d.shortest) b.on_disk in
        let base : (disk file h).base ≡ b.first ∷ [] = g.base ∙ ap (λ (d : Disk). d.base) b.on_disk in
        let outside : IsOutside 0 (disk file h).ranges = g.outside (subst (λ (d : Disk). IsOutside 0 d.ranges) (sym b.on_disk) tt) in
        let byte : get_or image 0 0 ≡ b.first =
        may.stays 0 (omega (arith, may.no_shorter, shortest)) (omega (arith, ap length base)) outside ∙ ap (λ (l : List ℕ). get_or l 0 0) base in
        inl (nothing_newer file (reads file was) image (none_of file image (λ e. b.clear (sym byte ∙ e))));
    other = λ f ne. g.other f ne ∙ b.other f ne;
    others = g.others ∙ b.others;
    later = omega (arith, g.cuts, b.cuts);
    once = omega (arith, g.cuts, b.cuts);
    syncs = omega (arith, g.syncs, g.cuts, b.syncs, b.cuts);
  }

  during_growth : (mid now : History) → IsBegun mid → Throughout (IsGrowing file mid) mid now → Throughout (IsRenewing file rest was) was now
  during_growth mid now b g =
      joined (IsRenewing file rest was) was mid now b.during (throughout_weaker (IsGrowing file mid) (IsRenewing file rest was) mid now (λ h x. growing mid h b x) g)

  pub append_fails : {T E D : Type 0} (d : D) (e : E) (piece : List ℕ) (mid now : History) → IsBegun mid → Appends {T = T} {E = D} file piece (Err d) mid now → Renews {T = T} {E = E} file rest (Err e) was now
  append_fails d e piece mid now b a = record { throughout = during_growth mid now b a.throughout; done = tt; cut = tt }

  pub record IsFilled (now : History) : Type 0 where
    pub first : ℕ
    pub clear : first ≢ 1
    pub during : Throughout (IsRenewing file rest was) was now
    pub last : IsRenewing file rest was now
    pub reads_are : reads file now ≡ first ∷ rest
    pub syncs : syncs now.calls ≤ syncs was.calls + 1
    pub cuts : cuts now.calls ≡ cuts was.calls + 1

  pub filled : {T E : Type 0} (x : T) (mid now : History) → IsBegun mid → Appends {T = T} {E = E} file rest (Ok x) mid now → IsFilled now
  filled x mid now b a =
      let g = at_last (IsGrowing file mid) mid now a.throughout in
      record {
        first = b.first;
        clear = b.clear;
        during = during_growth mid now b a.throughout;
        last = growing mid now b g;
        reads_are = a.done ∙ ap (λ (d : Disk). d.reads ++ rest) b.on_disk;
        syncs = omega (arith, g.syncs, b.syncs);
        cuts = g.cuts ∙ b.cuts;
      }

  pub filled_attached : (mid : History) → IsAttached was → IsFilled mid → IsAttached mid
  filled_attached mid attached f = still_attached was mid f.last.others attached

  -- It is synced.
  syncing : (mid now : History) (ok : Bool) → IsFilled mid → now ≡ then_call mid (OnFile file (Synced ok)) → IsRenewing file rest was now
  syncing mid now ok f is = record {
    images = λ quiet image may. by_answer ok quiet image (subst (λ (d : Disk). MayLeave d image) (ap (disk file) is ∙ disk_there mid file (Synced ok)) may);
    other = λ g ne. ap (disk g) is ∙ disk_elsewhere mid file g (Synced ok) ne ∙ f.last.other g ne;
    others = ap others is ∙ f.last.others;
    later = omega (arith, same, f.cuts);
    once = omega (arith, same, f.cuts);
    syncs = let more : syncs now.calls ≡ syncs mid.calls + 1 = ap (λ (h : History). syncs h.calls) is in omega (arith, more, f.syncs, same, f.cuts);
  }
    where
      same : cuts now.calls ≡ cuts mid.calls
      same = ap (λ (h : History). cuts h.calls) is

      by_answer : (ok : Bool) → IsQuiet file was → (image : List ℕ) → MayLeave (cond ok (at_rest (reads file mid)) (disk file mid)) image → IsNoNewer file (reads file was) image ⊎ ((image ≡ 1 ∷ rest) × (cuts now.calls ≡ cuts was.calls + 1))
      by_answer true quiet image may =
          let byte : get_or image 0 0 ≡ f.first = ap (λ (l : List ℕ). get_or l 0 0) (only_image (reads file mid) image may ∙ f.reads_are) in
          inl (nothing_newer file (reads file was) image (none_of file image (λ e. f.clear (sym byte ∙ e))))
      by_answer false quiet image may = elim (f.last.images quiet image may) [
        | inl no_newer ↦ inl no_newer
        | inr new ↦ inr (new.0, same ∙ new.1)
      ]

  during_sync : (mid now : History) (ok : Bool) → IsFilled mid → now ≡ then_call mid (OnFile file (Synced ok)) → Throughout (IsRenewing file rest was) was now
  during_sync mid now ok f is = goes_on (IsRenewing file rest was) was mid now (OnFile file (Synced ok)) f.during is (syncing mid now ok f is)

  pub sync_fails : {T E : Type 0} (e : E) (mid now : History) → IsFilled mid → now ≡ then_call mid (OnFile file (Synced false)) → Renews {T = T} {E = E} file rest (Err e) was now
  sync_fails e mid now f is = record { throughout = during_sync mid now false f is; done = tt; cut = tt }

  pub record IsSynced (now : History) : Type 0 where
    pub first : ℕ
    pub clear : first ≢ 1
    pub during : Throughout (IsRenewing file rest was) was now
    pub on_disk : disk file now ≡ at_rest (first ∷ rest)
    pub other : (f : ℕ) → file ≢ f → disk f now ≡ disk f was
    pub others : others now ≡ others was
    pub syncs : syncs now.calls ≤ syncs was.calls + 2
    pub cuts : cuts now.calls ≡ cuts was.calls + 1

  pub synced : (mid now : History) → IsFilled mid → now ≡ then_call mid (OnFile file (Synced true)) → IsSynced now
  synced mid now f is =
      let last = syncing mid now true f is in
      let more : syncs now.calls ≡ syncs mid.calls + 1 = ap (λ (h : History). syncs h.calls) is in
      record {
        first = f.first;
        clear = f.clear;
        during = during_sync mid now true f is;
        on_disk = ap (disk file) is ∙ disk_there mid file (Synced true) ∙ ap at_rest f.reads_are;
        other = last.other;
        others = last.others;
        syncs = omega (arith, more, f.syncs);
        cuts = ap (λ (h : History). cuts h.calls) is ∙ f.cuts;
      }

  pub can_set : (mid : History) → IsAttached was → IsSynced mid → HasPlace file 0 mid
  can_set mid attached s = record { attached = still_attached was mid s.others attached; within = omega arith }

  -- And the commit mark is set.
  setting : (mid h : History) → IsSynced mid → IsWriting file 0 1 mid h → IsRenewing file rest was h
  setting mid h s w = record {
    images = λ quiet image may.
        let torn : Torn 0 1 (s.first ∷ rest) image =
        subst (λ (l : List ℕ). Torn 0 1 l image) (ap (λ (d : Disk). d.reads) s.on_disk) (w.torn (rested file mid (s.first ∷ rest) s.on_disk) image may) in
        let long : 0 < length image = omega (arith, torn.no_shorter) in
        let whole : image ≡ get_or image 0 0 ∷ rest = drop_more image 0 0 long ∙ ap (λ (l : List ℕ). get_or image 0 0 ∷ l) torn.after in
        elim (cases_eq (get_or image 0 0) 1) [
          | inl set ↦ inr (whole ∙ ap (λ (n : ℕ). n ∷ rest) set, w.cuts ∙ s.cuts)
          | inr ne ↦ inl (nothing_newer file (reads file was) image (none_of file image ne))
        ];
    other = λ f ne. w.other f ne ∙ s.other f ne;
    others = w.others ∙ s.others;
    later = omega (arith, w.cuts, s.cuts);
    once = omega (arith, w.cuts, s.cuts);
    syncs = omega (arith, w.syncs, s.syncs, w.cuts, s.cuts);
  }

  during_set : (mid now : History) → IsSynced mid → Throughout (IsWriting file 0 1 mid) mid now → Throughout (IsRenewing file rest was) was now
  during_set mid now s w =
      joined (IsRenewing file rest was) was mid now s.during (throughout_weaker (IsWriting file 0 1 mid) (IsRenewing file rest was) mid now (λ h x. setting mid h s x) w)

  pub renewed : {T E : Type 0} (result : Result T E) (mid now : History) → IsSynced mid → WritesThrough file 0 (1 ∷ []) result mid now → Renews file rest result was now
  renewed (Err e) mid now s w = record { throughout = during_set mid now s w.throughout; done = tt; cut = tt }
  renewed (Ok x) mid now s w = record {
    throughout = during_set mid now s w.throughout;
    done = w.done ∙ ap (λ (d : Disk). at_rest (put d.reads 0 (1 ∷ []))) s.on_disk;
    cut = (at_last (IsWriting file 0 1 mid) mid now w.throughout).cuts ∙ s.cuts;
  }
