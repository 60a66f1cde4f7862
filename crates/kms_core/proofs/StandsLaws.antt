-- What a store stands for is one state.
use Rattle.std.proofs.Common.{◌≡◌, ℕ, ◌^◌, ◌<◌, List, Some, sym, subst, ◌∙◌}
use Rattle.std.specs.Prelude.{Result, Ok, Err}
use Rattle.std.specs.List.{AllByRecursion}
use Rattle.kms_aes.specs.Cipher.{IsBytes}
use Rattle.kms_host.specs.Disk.{files}
use Rattle.kms_host.specs.History.{History}
use Rattle.kms_world.specs.State.{State, empty_state}
use Rattle.kms_journal.specs.Create.{fresh}
use Rattle.kms_journal.specs.Standing.{Standing, standing_of}
use Rattle.kms_kept.specs.Kept.{Kept, nothing_kept}
use Rattle.kms_opened.specs.Opened.{Opened}
use Rattle.kms_opened.proofs.OnceLaws.{opened_once}
use Rattle.kms_opened.proofs.StateLaws.{fresh_opens}
use Rattle.kms_sealing.specs.Opening.{IsRefusal}
use Rattle.kms_sealing.specs.declared.fault.OpeningFault.{OpeningFault}
use Rattle.kms_sealing.specs.declared.fault.OpeningFault.TheVariants as opening
use Rattle.kms_sealing.proofs.UniqueLaws.{open_is_no_refusal}
use Rattle.kms_store.specs.Stands.{IsDamagedAt}
use Rattle.kms_store.proofs.StandsLaws.{some_is, stand_for_one, undamaged, fresh_kept, fresh_counted}
use Rattle.kms_core.specs.Stands.{Stands}
use Rattle.kms_core.specs.Starting.{IsKeptSo, Starts, OpensTo}
use Rattle.kms_core.specs.Steps.{Held, HasState, KeepsState}
use Rattle.kms_core.specs.declared.start_fault.StartFault.{StartFault}
use Rattle.kms_core.specs.declared.start_fault.StartFault.TheVariants as start

pub one_state : (masters : List (List ℕ)) → AllByRecursion (IsBytes 32) masters → (two : List ℕ × List ℕ) (a b : State) (m n : ℕ) → Stands masters two a m → Stands masters two b n → (a ≡ b) × (m ≡ n)
one_state masters fit two a b m n p q =
    let one = stand_for_one two p.kept q.kept m n p.keeps q.keeps in
    (opened_once masters fit q.kept a b (subst (λ (k : Kept). Opened masters k a) one.0 p.opens) q.opens, one.1)

-- an engine has one state, as long as its master keys and what it keeps stay
pub one_of : (engine : Held) → AllByRecursion (IsBytes 32) engine.masters → (a b : State) → HasState engine a → HasState engine b → a ≡ b
one_of engine fit a b p q = opened_once engine.masters fit engine.store.stored.kept a b p q

pub state_stays : (old new : Held) (state : State) → KeepsState old new → HasState old state → HasState new state
state_stays old new state same has =
    subst (λ (k : Kept). Opened new.masters k state) (sym same.kept) (subst (λ (m : List (List ℕ)). Opened m old.store.stored.kept state) (sym same.masters) has)

pub state_stayed : (old new : Held) (state : State) → KeepsState old new → HasState new state → HasState old state
state_stayed old new state same has =
    subst (λ (k : Kept). Opened old.masters k state) same.kept (subst (λ (m : List (List ℕ)). Opened m new.store.stored.kept state) same.masters has)

-- what stands for a state has no damage
pub no_damage : (masters : List (List ℕ)) (two : List ℕ × List ℕ) (state : State) (steps : ℕ) (s : Standing) (place : ℕ) → Stands masters two state steps → standing_of two ≡ Some s → IsDamagedAt s place → ⊥
no_damage masters two state steps s place stands is damaged =
    let keeps = stands.keeps in
    let same : s ≡ keeps.standing = some_is s keeps.standing (sym is ∙ keeps.current) in
    undamaged keeps.standing stands.kept place keeps.keeps (subst (λ (x : Standing). IsDamagedAt x place) same damaged)

-- a fresh store stands for the empty state of its tag
pub fresh_stands : (masters : List (List ℕ)) (two : List ℕ × List ℕ) (tag : ℕ) → tag < 2 ^ 60 → standing_of two ≡ Some (fresh tag) → Stands masters two (empty_state tag) 0
fresh_stands masters two tag fits is = record {
  kept = nothing_kept tag;
  keeps = record { standing = fresh tag; current = is; keeps = fresh_kept tag fits; counted = fresh_counted tag };
  opens = fresh_opens masters tag;
}

-- what stands for a state opens
no_refusal : (masters : List (List ℕ)) (was : History) (state : State) (steps : ℕ) (fault : OpeningFault) → Stands masters (files was) state steps → IsKeptSo was (λ kept. IsRefusal masters kept fault) → fault ≡ opening.NoMemory
no_refusal masters was state steps fault stands refused =
    let one = stand_for_one (files was) refused.kept stands.kept refused.steps steps refused.keeps stands.keeps in
    open_is_no_refusal masters stands.kept fault (state, stands.opens) (subst (λ (k : Kept). IsRefusal masters k fault) one.0 refused.is)

pub stands_opens : (masters : List (List ℕ)) (was now : History) (state : State) (steps : ℕ) (result : Result Held StartFault) → Stands masters (files was) state steps → Starts masters result was now → OpensTo state result
stands_opens masters was now state steps (Ok engine) stands s =
    let e = s.answer in
    let one = stand_for_one (files was) e.stands.kept stands.kept e.steps steps e.stands.keeps stands.keeps in
    subst (λ (m : List (List ℕ)). Opened m engine.store.stored.kept state) (sym e.masters_are)
    (subst (λ (k : Kept). Opened masters k state) (sym (e.kept ∙ one.0)) stands.opens)
stands_opens masters was now state steps (Err start.NoStore) stands s = let none = sym s.answer ∙ stands.keeps.current in absurd cc
stands_opens masters was now state steps (Err (start.Damaged place)) stands s = let d = s.answer in no_damage masters (files was) state steps d.0 d.1 stands d.2 d.4
stands_opens masters was now state steps (Err (start.UnknownMaster project)) stands s = let none = no_refusal masters was state steps (opening.UnknownMaster project) stands s.answer in absurd cc
stands_opens masters was now state steps (Err (start.DamagedPayload secret)) stands s = let none = no_refusal masters was state steps (opening.Damaged secret) stands s.answer in absurd cc
stands_opens masters was now state steps (Err start.StoreFault) stands s = tt
stands_opens masters was now state steps (Err start.NoMemory) stands s = tt
