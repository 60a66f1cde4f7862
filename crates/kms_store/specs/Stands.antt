-- What the two files of a store stand for: what is kept, after a number of steps.
use Rattle.std.specs.Prelude.{◌≡◌, ◌⊎◌, ℕ, ◌+◌, ◌<◌, ◌≤◌, ◌^◌, List, [], ◌∷◌, length, slice_index, Bool, true, false, Some, None}
use Rattle.kms_record.specs.declared.change.Change.{Change}
use Rattle.kms_record.specs.Grammar.{IsRecord, IsSnapshot}
use Rattle.kms_kept.specs.Kept.{Kept, Base, kept_first, after_changes, after_record}
use Rattle.kms_journal.specs.Standing.{Standing, standing_of}

-- The tag and the number of ids are in range, and the snapshot's changes apply, one after the other: this is kept after them.
pub record IsSnapshotOf (tag ids : ℕ) (snapshot : List ℕ) (kept : Kept) : Type 0 where
  pub tag_fits : tag < 2 ^ 60
  pub ids_fit : ids ≤ 2 ^ 62
  pub changes : List Change
  pub read : IsSnapshot snapshot changes
  pub leads : after_changes Base changes (kept_first tag ids) ≡ Some kept

-- The bytes are a record whose steps apply, one after the other, and this is kept after them.
pub record Applies (bytes : List ℕ) (kept after : Kept) : Type 0 where
  pub steps : List (List Change)
  pub read : IsRecord bytes steps
  pub leads : after_record steps kept ≡ Some after

-- each record applies, one after the other, and this is kept after the last
abbrev pub LeadTo : List (ℕ × List ℕ) → Kept → Kept → Type 0
LeadTo [] kept after = kept ≡ after
LeadTo (item ∷ items) kept after = (next : Kept) × Applies item.1 kept next × LeadTo items next after

-- What a store's standing keeps: what its records lead to, from its snapshot on.
pub record KeptOf (s : Standing) (kept : Kept) : Type 0 where
  pub whole : s.is_whole ≡ true
  pub first : Kept
  pub snapshot : IsSnapshotOf s.tag s.ids s.snapshot first
  pub records : LeadTo s.records first kept

-- the records have so many steps
abbrev pub HaveSteps : List (ℕ × List ℕ) → ℕ → Type 0
HaveSteps [] n = n ≡ 0
HaveSteps (item ∷ items) n = (steps : List (List Change)) × (rest : ℕ) × IsRecord item.1 steps × HaveSteps items rest × (n ≡ length steps + rest)

-- how many steps a store stands for: those of its snapshot, and those in its records
abbrev pub HasSteps : Standing → ℕ → Type 0
HasSteps s n = (m : ℕ) × HaveSteps s.records m × (n ≡ s.steps + m)

-- The two files of a store stand for this, after so many steps.
pub record StandFor (two : List ℕ × List ℕ) (kept : Kept) (steps : ℕ) : Type 0 where
  pub standing : Standing
  pub current : standing_of two ≡ Some standing
  pub keeps : KeptOf standing kept
  pub counted : HasSteps standing steps

-- no reading of the bytes applies
abbrev pub IsBroken : List ℕ → Kept → Type 0
IsBroken bytes kept = (steps : List (List Change)) → IsRecord bytes steps → after_record steps kept ≡ None

-- The first record that doesn't apply has its commit mark at this place. If all apply, it is where the records stop
-- although they aren't whole.
abbrev pub BreakAt : List (ℕ × List ℕ) → ℕ → Bool → Kept → ℕ → Type 0
BreakAt [] stop is_whole kept place = (is_whole ≡ false) × (place ≡ stop)
BreakAt (item ∷ items) stop is_whole kept place =
    (IsBroken item.1 kept × (place ≡ item.0))
    ⊎ ((next : Kept) × Applies item.1 kept next × BreakAt items stop is_whole next place)

-- the header's numbers or the snapshot stand for nothing
abbrev pub IsNoSnapshot : ℕ → ℕ → List ℕ → Type 0
IsNoSnapshot tag ids snapshot = (kept : Kept) → ¬ IsSnapshotOf tag ids snapshot kept

-- each of these is a byte
abbrev pub AreBytes : List ℕ → Type 0
AreBytes bytes = (i : ℕ) → slice_index bytes i < 256

-- the first place, in a store's current file, at which what it keeps is damaged: 0 for the header and the snapshot
abbrev pub IsDamagedAt : Standing → ℕ → Type 0
IsDamagedAt s place =
    (IsNoSnapshot s.tag s.ids s.snapshot × (place ≡ 0))
    ⊎ ((first : Kept) × IsSnapshotOf s.tag s.ids s.snapshot first × BreakAt s.records s.stop s.is_whole first place)

-- What a store's standing keeps, or the first place at which it is damaged: it has one or the other.
abbrev pub IsWholeOrDamaged : Standing → Type 0
IsWholeOrDamaged s = ((kept : Kept) × KeptOf s kept) ⊎ ((place : ℕ) × IsDamagedAt s place)
