-- Steps that are staged: they wait to be settled.
use Rattle.std.specs.Prelude.{◌≡◌, ℕ, ◌+◌, List, [], ◌++◌, length, Some}
use Rattle.std.specs.List.{flat_map, AllByRecursion}
use Rattle.kms_record.specs.declared.change.Change.{Change}
use Rattle.kms_record.specs.Grammar.{IsStep, step_bytes}
use Rattle.kms_kept.specs.Kept.{Kept, after_record}

-- so many steps, their spellings one after the other, and that of the step that was reserved last, until it is staged
pub record Staging : Type 0 where
  pub count : ℕ
  pub steps : List ℕ
  pub reserved : List ℕ

-- no step is staged, and none reserved
abbrev pub nothing_staged : Staging
nothing_staged = record { count = 0; steps = []; reserved = [] }

-- what is staged are these steps
pub record Spells (staging : Staging) (steps : List (List Change)) : Type 0 where
  pub count : staging.count ≡ length steps
  pub spelled : staging.steps ≡ flat_map step_bytes steps
  pub admitted : AllByRecursion IsStep steps

-- The staged steps lead from what was settled to this.
pub record StagingLeads (staging : Staging) (settled kept : Kept) : Type 0 where
  pub steps : List (List Change)
  pub spells : Spells staging steps
  pub leads : after_record steps settled ≡ Some kept

-- a step in the place of the one that was reserved last
abbrev pub with_reserved : List ℕ → Staging → Staging
with_reserved step staging = record staging { reserved = step }

-- the step that was reserved last is staged too
abbrev pub with_staged : Staging → Staging
with_staged staging = record { count = staging.count + 1; steps = staging.steps ++ staging.reserved; reserved = [] }
