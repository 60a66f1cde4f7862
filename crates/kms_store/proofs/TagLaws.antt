-- A store's tag stays the same.
use Rattle.std.proofs.Common.{◌≡◌, ℕ, List, [], ◌∷◌, Some, sym, ap, ◌∙◌}
use Rattle.kms_record.specs.declared.change.Change.{Change}
use Rattle.kms_kept.specs.Kept.{Kept, Part, Records, Base, applies, changed, after_change, after_changes, after_step, after_record, kept_first}
use Rattle.kms_record.proofs.Codec.{bind_some, passed, some_is}
use Rattle.kms_journal.specs.Standing.{Standing}
use Rattle.kms_store.specs.Stands.{LeadTo, KeptOf}
use Rattle.kms_store.proofs.ReadyLaws.{same_tag}

changes_tag : (part : Part) (changes : List Change) (kept after : Kept) → after_changes part changes kept ≡ Some after → after.state.tag ≡ kept.state.tag
changes_tag part [] kept after e = ap (λ (k : Kept). k.state.tag) (sym (some_is kept after e))
changes_tag part (change ∷ changes) kept after e =
    let m = bind_some (after_change part change kept) (after_changes part changes) after e in
    let g = passed (applies part change kept) (changed change kept) m.0 m.1 in
    changes_tag part changes m.0 after m.2 ∙ ap (λ (k : Kept). k.state.tag) (sym g.1) ∙ same_tag change kept

record_tag : (steps : List (List Change)) (kept after : Kept) → after_record steps kept ≡ Some after → after.state.tag ≡ kept.state.tag
record_tag [] kept after e = ap (λ (k : Kept). k.state.tag) (sym (some_is kept after e))
record_tag (step ∷ steps) kept after e =
    let m = bind_some (after_step step kept) (after_record steps) after e in
    record_tag steps m.0 after m.2 ∙ changes_tag Records step kept m.0 m.1

records_tag : (items : List (ℕ × List ℕ)) (kept after : Kept) → LeadTo items kept after → after.state.tag ≡ kept.state.tag
records_tag [] kept after p = ap (λ (k : Kept). k.state.tag) (sym p)
records_tag (item ∷ items) kept after p = records_tag items p.0 after p.2 ∙ record_tag p.1.steps kept p.0 p.1.leads

pub kept_tag : (s : Standing) (kept : Kept) → KeptOf s kept → kept.state.tag ≡ s.tag
kept_tag s kept p = records_tag s.records p.first kept p.records ∙ changes_tag Base p.snapshot.changes (kept_first s.tag s.ids) p.first p.snapshot.leads
