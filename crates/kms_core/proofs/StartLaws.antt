-- What is started over a store, and what is refused.
use Rattle.std.proofs.Common.{◌≡◌, inl, inr, ℕ, Bool, false, ◌+◌, List, [], ◌∷◌, length, get_or, None, refl, sym, ap, subst, ◌∙◌, arith}
use Rattle.std.specs.Prelude.{Ok, Err, IsErrOf}
use Rattle.kms_host.specs.History.{History}
use Rattle.kms_host.specs.Disk.{Disk, MayLeave, at_rest}
use Rattle.kms_host.specs.Moment.{Throughout}
use Rattle.kms_host.proofs.Moments.{joined, throughout_weaker, at_last}
use Rattle.kms_kept.specs.Kept.{Kept}
use Rattle.kms_journal.specs.Answers.{chain_of, Gathers}
use Rattle.kms_journal.specs.Device.{IsQuiet, IsUntouched}
use Rattle.kms_journal.specs.Position.{Position, IsPlaced}
use Rattle.kms_journal.specs.Recovery.{KeepsStanding, Opens}
use Rattle.kms_journal.specs.Standing.{Standing, standing_of}
use Rattle.kms_journal.specs.declared.chain.Chain.{Chain}
use Rattle.kms_journal.specs.declared.fault.JournalFault.{JournalFault}
use Rattle.kms_journal.specs.declared.fault.JournalFault.TheVariants as journal
use Rattle.kms_journal.specs.declared.fault.Place.{Place}
use Rattle.kms_journal.specs.declared.fault.Place.TheVariants.{Body}
use Rattle.kms_journal.proofs.ReadingLaws.{same_reads, same_files, quiet_after, attached_after}
use Rattle.kms_store.specs.Checkpoint.{IsCountOf}
use Rattle.kms_store.specs.Loading.{IsBrokenAt, LeadsChain, Loads}
use Rattle.kms_store.specs.Staged.{Staging, StagingLeads, nothing_staged}
use Rattle.kms_store.specs.Stands.{LeadTo, KeptOf, BreakAt, HaveSteps, IsDamagedAt}
use Rattle.kms_store.specs.Store.{Stored}
use Rattle.kms_store.specs.declared.load_fault.LoadFault.{LoadFault}
use Rattle.kms_store.specs.declared.load_fault.LoadFault.TheVariants as load
use Rattle.kms_store.proofs.StagedLaws.{nothing_leads}
use Rattle.kms_store.proofs.StandsLaws.{kept_counts}
use Rattle.kms_sealing.specs.Opening.{IsOpen, IsRefusal as IsClosedSo}
use Rattle.kms_sealing.specs.ProjectKeys.{Unwrapped}
use Rattle.kms_sealing.specs.declared.fault.OpeningFault.{OpeningFault}
use Rattle.kms_sealing.specs.declared.fault.OpeningFault.TheVariants as opening
use Rattle.kms_core.specs.Refusing.{IsFirstDamage, Refuses, fault_of, start_fault}
use Rattle.kms_core.specs.Starting.{is_failed_start, IsStoreRefusal, LoadsStore, OpensJournal, Starts}
use Rattle.kms_core.specs.Steps.{Held}
use Rattle.kms_core.specs.declared.start_fault.StartFault.{StartFault}
use Rattle.kms_core.specs.declared.start_fault.StartFault.TheVariants as start

-- records that apply, and stop where they aren't whole
stops_there : (items : List (ℕ × List ℕ)) (stop at : ℕ) (is_whole : Bool) (kept after : Kept) → is_whole ≡ false → at ≡ stop → LeadTo items kept after → BreakAt items stop is_whole kept at
stops_there [] stop at is_whole kept after broken is leads = (broken, is)
stops_there (item ∷ items) stop at is_whole kept after broken is leads = inr (leads.0, leads.1, stops_there items stop at is_whole leads.0 after broken is leads.2)

broken_store : (s : Standing) (at : ℕ) → IsBrokenAt (chain_of s) at → IsDamagedAt s at
broken_store s at (inl not) = inl not
broken_store s at (inr broken) = inr (broken.0, broken.1, broken.2 s.stop s.is_whole)

first_damage : (s : Standing) (at : ℕ) → s.is_whole ≡ false → IsFirstDamage (chain_of s) s.stop at → IsDamagedAt s at
first_damage s at broken (inl before) = broken_store s at before
first_damage s at broken (inr last) =
    let leads = last.1.1 in
    inr (leads.first, leads.snapshot, stops_there s.records s.stop at s.is_whole leads.first last.1.0 broken last.0 leads.records)

abbrev stop_of : Place → ℕ
stop_of (Body file at) = at

pub refused : (fault : JournalFault) (e : StartFault) (was now : History) → Refuses fault e → Opens (Err fault) was now → OpensJournal (Err e) was now
refused fault e was now r o = record { throughout = o.throughout; answer = by_fault fault r o }
  where
    by_fault : (fault : JournalFault) → Refuses fault e → Opens (Err fault) was now → IsStoreRefusal e was
    by_fault journal.NoStore r o = subst (λ (x : StartFault). IsStoreRefusal x was) (sym r) (λ masters. o.answer.0)
    by_fault journal.StoreFault r o = subst (λ (x : StartFault). IsStoreRefusal x was) (sym r) (λ masters. tt)
    by_fault journal.NoMemory r o = subst (λ (x : StartFault). IsStoreRefusal x was) (sym r) (λ masters. tt)
    by_fault (journal.Damaged (Body file stop) chain) (inl none) o = subst (λ (x : StartFault). IsStoreRefusal x was) (sym none) (λ masters. tt)
    by_fault (journal.Damaged (Body file stop) chain) (inr r) o =
        let a = o.answer in
        let s = a.0 in
        let here : stop ≡ s.stop = ap stop_of a.3 in
        let first : IsFirstDamage (chain_of s) s.stop r.0 = subst (λ (n : ℕ). IsFirstDamage (chain_of s) n r.0) here (subst (λ (c : Chain). IsFirstDamage c stop r.0) a.4 r.2) in
        subst (λ (x : StartFault). IsStoreRefusal x was) (sym r.1)
        (λ masters. (s, r.0, a.1, ap (λ (c : Chain). Body c.file r.0) a.4, first_damage s r.0 a.2 first))

-- where what the opening read was taken
placed_after : (p : Position) (s : Standing) (mid now : History) → Throughout (IsUntouched mid) mid now → IsPlaced p mid s → IsPlaced (record p { chain = None }) now s
placed_after p s mid now t placed =
    let same = same_reads mid now t s.file in
    record {
      attached = attached_after mid now t placed.attached;
      current = ap standing_of (same_files mid now (at_last (IsUntouched mid) mid now t)) ∙ placed.current;
      whole = placed.whole;
      here = ap (λ (x : Position). record x { chain = None }) placed.here;
      read = tt;
      last = ap length same ∙ placed.last;
      clear = ap (λ (l : List ℕ). get_or l s.stop 0) same ∙ placed.clear;
    }

rests_after : (f : ℕ) (mid now : History) → IsUntouched mid now → IsQuiet f mid → IsQuiet f now
rests_after f mid now u rests = u.disk f ∙ rests ∙ ap (λ (d : Disk). at_rest d.reads) (sym (u.disk f))

still_keeps : (was mid : History) → KeepsStanding was mid → (h : History) → IsUntouched mid h → KeepsStanding was h
still_keeps was mid k h u = record {
  images = λ quiet image is. k.images quiet image (record {
    file_0 = subst (λ (d : Disk). MayLeave d image.0) (u.disk 0) is.file_0;
    file_1 = subst (λ (d : Disk). MayLeave d image.1) (u.disk 1) is.file_1;
  });
  other = λ s stands f elsewhere. u.disk f ∙ k.other s stands f elsewhere;
  none = λ no_store.
      let before = k.none no_store in
      record { disk = λ f. u.disk f ∙ before.disk f; others = u.others ∙ before.others; syncs = u.syncs ∙ before.syncs; cuts = u.cuts ∙ before.cuts };
  others = u.others ∙ k.others;
  syncs = omega (arith, u.syncs, k.syncs);
}

module _ (p : Position) (was mid now : History) (o : OpensJournal (Ok p) was mid) where
  during : Throughout (IsUntouched mid) mid now → Throughout (KeepsStanding was) was now
  during t =
      joined (KeepsStanding was) was mid now o.throughout
      (throughout_weaker (IsUntouched mid) (KeepsStanding was) mid now (still_keeps was mid (at_last (KeepsStanding was) was mid o.throughout)) t)

  pub unread : (fault : JournalFault) (e : StartFault) → Refuses fault e → ((s : Standing) → IsPlaced p mid s → Gathers s (Err fault) mid now) → LoadsStore (Err e) was now
  unread fault e r gathers = let g = gathers o.answer.0 o.answer.2 in record { throughout = during g.throughout; answer = by_fault fault r g }
    where
      by_fault : (fault : JournalFault) → Refuses fault e → Gathers o.answer.0 (Err fault) mid now → IsStoreRefusal e was
      by_fault journal.NoStore r g = absurd g.answer
      by_fault journal.StoreFault r g = subst (λ (x : StartFault). IsStoreRefusal x was) (sym r) (λ masters. tt)
      by_fault journal.NoMemory r g = subst (λ (x : StartFault). IsStoreRefusal x was) (sym r) (λ masters. tt)
      by_fault (journal.Damaged place chain) r g = absurd g.answer

  module _ (chain : Chain) (gathers : (s : Standing) → IsPlaced p mid s → Gathers s (Ok chain) mid now) where
    pub unloaded : (fault : LoadFault) → Loads {T = Stored} (λ store. store.kept) chain (Err fault) → LoadsStore (Err (fault_of chain fault)) was now
    unloaded fault l = let g = gathers o.answer.0 o.answer.2 in record { throughout = during g.throughout; answer = by_fault fault l g }
      where
        by_fault : (fault : LoadFault) → Loads {T = Stored} (λ store. store.kept) chain (Err fault) → Gathers o.answer.0 (Ok chain) mid now → IsStoreRefusal (fault_of chain fault) was
        by_fault load.NoMemory l g = λ masters. tt
        by_fault (load.Damaged at) l g =
            let s = o.answer.0 in
            λ masters. (s, at, o.answer.1, ap (λ (c : Chain). Body c.file at) g.answer, broken_store s at (subst (λ (c : Chain). IsBrokenAt c at) g.answer l))

    pub loaded_at : (journal : Position) (store : Stored) → LeadsChain chain store.kept → store.staging ≡ nothing_staged
        → ((n : ℕ) → HaveSteps chain.bodies n → IsCountOf store.steps (chain.steps + n)) → journal ≡ record p { chain = None } → LoadsStore (Ok (journal, store)) was now
    loaded_at journal store l none total is =
        let s = o.answer.0 in
        let g = gathers s o.answer.2 in
        let loads : LeadsChain (chain_of s) store.kept = subst (λ (c : Chain). LeadsChain c store.kept) g.answer l in
        let keeps : KeptOf s store.kept = record { whole = o.answer.2.whole; first = loads.first; snapshot = loads.snapshot; records = loads.records } in
        let steps = kept_counts s store.kept keeps in
        let many : IsCountOf store.steps (s.steps + steps.1.0) =
        subst (λ (c : Chain). (n : ℕ) → HaveSteps c.bodies n → IsCountOf store.steps (c.steps + n)) g.answer total steps.1.0 steps.1.1 in
        let now_placed = placed_after p s mid now g.throughout o.answer.2 in
        subst (λ (j : Position). LoadsStore (Ok (j, store)) was now) (sym is) (record {
          throughout = during g.throughout;
          answer = record {
            steps = steps.0;
            keeps = record { standing = s; current = o.answer.1; keeps = keeps; counted = steps.1 };
            opened = record { standing = s; placed = now_placed; keeps = keeps; counted = steps.1; leads = subst (λ (st : Staging). StagingLeads st store.kept store.kept) (sym none) (nothing_leads store.kept); total = omega (arith, many, steps.1.2, ap (λ (st : Staging). st.count) none) };
            staging = none;
            quiet = λ quiet. quiet_after mid now (at_last (IsUntouched mid) mid now g.throughout) (o.answer.3 quiet);
            rests = subst (λ (f : ℕ). IsQuiet f now) (sym (ap (λ (x : Position). x.file) o.answer.2.here)) (rests_after s.file mid now (at_last (IsUntouched mid) mid now g.throughout) o.answer.4);
          };
        })

-- what was loaded is opened under the master keys
module _ (masters : List (List ℕ)) (journal : Position) (store : Stored) (was now : History) (l : LoadsStore (Ok (journal, store)) was now) where
  pub started_at : (engine : Held) (keys : Unwrapped) → keys.masters ≡ masters → IsOpen masters store.kept
      → engine ≡ record { masters = keys.masters; spare = keys.spare; store = record { journal = journal; stored = store } } → Starts masters (Ok engine) was now
  started_at engine keys same opens is =
      let a = l.answer in
      subst (λ (x : Held). Starts masters (Ok x) was now) (sym is) (record {
        throughout = l.throughout;
        answer = record {
          state = opens.0;
          steps = a.steps;
          stands = record { kept = store.kept; keeps = a.keeps; opens = opens.1 };
          masters_are = same;
          kept = refl;
          settled = record {
            idle = record { count = ap (λ (st : Staging). st.count) a.staging; steps = ap (λ (st : Staging). st.steps) a.staging };
            opened = record { settled = store.kept; opened = a.opened; first = opens.1; now = opens.1 };
          };
          quiet = a.quiet;
          rests = a.rests;
        };
      })

  pub closed_at : (fault : OpeningFault) → IsClosedSo masters store.kept fault → Starts masters (Err (start_fault fault)) was now
  closed_at (opening.UnknownMaster project) is = record { throughout = l.throughout; answer = record { kept = store.kept; steps = l.answer.steps; keeps = l.answer.keeps; is = is } }
  closed_at (opening.Damaged secret) is = record { throughout = l.throughout; answer = record { kept = store.kept; steps = l.answer.steps; keeps = l.answer.keeps; is = is } }
  closed_at opening.NoMemory is = record { throughout = l.throughout; answer = tt }

-- what was not loaded
pub unloaded_at : (masters : List (List ℕ)) (fault : StartFault) (was now : History) → LoadsStore (Err fault) was now → Starts masters (Err fault) was now
unloaded_at masters fault was now l = record { throughout = l.throughout; answer = l.answer masters }

-- no fault of opening is one of the store
pub not_store_error : (fault : OpeningFault) → IsErrOf {T = Held} (Err (start_fault fault)) start.StoreFault → ⊥
not_store_error (opening.UnknownMaster project) e = absurd cc
not_store_error (opening.Damaged secret) e = absurd cc
not_store_error opening.NoMemory e = absurd cc

pub closed_fails : (fault : OpeningFault) → is_failed_start {T = Held} (Err (start_fault fault)) ≡ false
closed_fails (opening.UnknownMaster project) = refl
closed_fails (opening.Damaged secret) = refl
closed_fails opening.NoMemory = refl
