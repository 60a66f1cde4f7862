-- Settling, of states.
use Rattle.std.proofs.Common.{◌≡◌, inl, inr, ℕ, ◌+◌, ◌-◌, ◌^◌, min, List, Some, sym, ap, subst, arith}
use Rattle.std.specs.Prelude.{Result, Ok, Err}
use Rattle.kms_world.specs.State.{State}
use Rattle.kms_host.specs.History.{History}
use Rattle.kms_host.specs.Moment.{Throughout}
use Rattle.kms_host.proofs.Moments.{throughout_weaker, at_last}
use Rattle.kms_kept.specs.Kept.{Kept, after_step}
use Rattle.kms_opened.specs.Opened.{Opened}
use Rattle.kms_store.specs.ReadyStep.{TaggedStep}
use Rattle.kms_store.specs.Staged.{Staging, StagingLeads, with_staged}
use Rattle.kms_store.proofs.StagedLaws.{staged_leads}
use Rattle.kms_store.specs.Store.{IsReserved}
use Rattle.kms_store.specs.Settling.{IsOpened as IsStoreOpened, Settles as StoreSettles, IsSettledOrAll as IsStoreSettledOrAll}
use Rattle.kms_core.specs.Settling.{Keeping, IsOpened, IsSettledOrAll, KeepsOrAll, Settles, count_of, most_syncs}
use Rattle.kms_core.specs.Steps.{Held, LeadsTo, Waits}
use Rattle.kms_core.specs.declared.asked.PreparedStep.{PreparedStep}

module _ (masters : List (List ℕ)) (old : Keeping) (was now : History) (settled : State) (steps : ℕ) (state : State) (o : IsOpened masters old was settled steps state) where
  abbrev many : ℕ
  many = old.stored.staging.count

  abbrev StoreMoment : History → Type 0
  StoreMoment h = IsStoreSettledOrAll old.stored old.journal.generation (most_syncs old) o.settled steps was h

  abbrev Moment : History → Type 0
  Moment h = IsSettledOrAll masters settled steps state many old.journal.generation was h

  at_each : (h : History) → StoreMoment h → Moment h
  at_each h s = record {
    images = λ quiet image is. elim (s.images quiet image is) [
      | inl f ↦ inl (record { kept = o.settled; keeps = f; opens = o.first })
      | inr f ↦ inr (record { kept = old.stored.kept; keeps = f; opens = o.now })
    ];
    raised = s.raised;
    others = s.others;
    paid = s.paid;
  }

  pub settles_by : {T E : Type 0} (new : Keeping) (result : Result T E) → new.stored.kept ≡ old.stored.kept
      → StoreSettles {T = T} {E = E} old.stored new.stored (most_syncs old) old.journal new.journal result o.settled steps was now → Settles {T = T} {E = E} masters old new result settled steps state was now
  settles_by {T} {E} new (Ok x) same s = record {
    throughout = throughout_weaker StoreMoment Moment was now at_each s.throughout;
    few = (at_last StoreMoment was now s.throughout).syncs;
    done = record {
      settled = old.stored.kept;
      opened = s.done;
      first = o.now;
      now = subst (λ (k : Kept). Opened masters k state) (sym same) o.now;
    };
    raised = s.raised;
    quiet = s.quiet;
  }
  settles_by {T} {E} new (Err e) same s = record {
    throughout = throughout_weaker StoreMoment Moment was now at_each s.throughout;
    few = (at_last StoreMoment was now s.throughout).syncs;
    done = tt;
    raised = tt;
    quiet = tt;
  }

-- the same of an engine that is seen as another
pub settles_held : {T E : Type 0} (inside seen : Held) → inside ≡ seen → (new : Keeping) (result : Result T E) (was now : History) → new.stored.kept ≡ inside.store.stored.kept
    → ((settled : Kept) (steps : ℕ) → IsStoreOpened inside.store.stored inside.store.journal was settled steps
    → StoreSettles {T = T} {E = E} inside.store.stored new.stored (most_syncs inside.store) inside.store.journal new.journal result settled steps was now)
    → (masters : List (List ℕ)) (settled : State) (steps : ℕ) (state : State) → IsOpened masters seen.store was settled steps state → Settles {T = T} {E = E} masters seen.store new result settled steps state was now
settles_held {T} {E} inside seen same new result was now kept settles masters settled steps state o =
    let here = subst (λ (e : Held). IsOpened masters e.store was settled steps state) (sym same) o in
    subst (λ (e : Held). Settles {T = T} {E = E} masters e.store new result settled steps state was now) same
    (settles_by masters inside.store was now settled steps state here {T = T} {E = E} new result kept (settles here.settled steps here.opened))

-- what crash images keep
pub keeps_held : {T E : Type 0} (inside seen : Held) → inside ≡ seen → (new : Keeping) (result : Result T E) (was now : History)
    → ((settled : Kept) (steps : ℕ) → IsStoreOpened inside.store.stored inside.store.journal was settled steps
    → StoreSettles {T = T} {E = E} inside.store.stored new.stored (most_syncs inside.store) inside.store.journal new.journal result settled steps was now)
    → (settled : Kept) (steps : ℕ) → IsStoreOpened seen.store.stored seen.store.journal was settled steps → Throughout (KeepsOrAll settled steps seen.store.stored.kept (count_of seen.store) was) was now
keeps_held {T} {E} inside seen same new result was now settles settled steps o =
    let here = subst (λ (e : Held). IsStoreOpened e.store.stored e.store.journal was settled steps) (sym same) o in
    subst (λ (e : Held). Throughout (KeepsOrAll settled steps e.store.stored.kept (count_of e.store) was) was now) same
    (throughout_weaker (IsStoreSettledOrAll inside.store.stored inside.store.journal.generation (most_syncs inside.store) settled steps was)
    (KeepsOrAll settled steps inside.store.stored.kept (count_of inside.store) was) was now (λ h s. s.images) (settles settled steps here).throughout)

-- a step that is taken over waits
pub waits_one : (before after : Held) (step : TaggedStep) → after.masters ≡ before.masters → after.store.journal ≡ before.store.journal
    → after_step step.changes before.store.stored.kept ≡ Some after.store.stored.kept → after.store.stored.staging ≡ with_staged before.store.stored.staging
    → after.store.stored.steps ≡ min (before.store.stored.steps + 1) (2 ^ 64 - 1) → IsReserved before.store.stored step → Waits before after 1
waits_one before after step masters journal leads staging more ready = record {
  masters = masters;
  journal = journal;
  count = ap (λ (s : Staging). s.count) staging;
  total = λ n counted. omega (arith, more, counted);
  leads = λ settled l.
      subst (λ (s : Staging). StagingLeads s settled after.store.stored.kept) (sym staging)
      (staged_leads before.store.stored.staging settled before.store.stored.kept after.store.stored.kept step.changes ready.spelled ready.admitted leads l);
}

-- ---- a step that is taken over

pub leads_seen : (inside seen : Held) (step : PreparedStep) (state : State) → inside ≡ seen → LeadsTo step seen state → LeadsTo step inside state
leads_seen inside seen step state same leads = subst (λ (e : Held). LeadsTo step e state) (sym same) leads

pub waits_seen : (inside seen after : Held) (n : ℕ) → inside ≡ seen → Waits inside after n → Waits seen after n
waits_seen inside seen after n same waits = subst (λ (e : Held). Waits e after n) same waits
