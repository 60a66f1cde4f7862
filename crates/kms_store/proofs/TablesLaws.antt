-- Tables after a change.
use Rattle.std.proofs.Common.{◌≡◌, ℕ, ◌<◌, ◌≤◌, ◌^◌, List, [], ◌∷◌, sym, subst}
use Rattle.kms_world.specs.declared.id.Id.{Id}
use Rattle.kms_record.specs.declared.change.Change.{Change}
use Rattle.kms_record.specs.Grammar.{IsChange}
use Rattle.kms_kept.specs.Kept.{Kept, changed, secret_ids, container_ids, order_ids}
use Rattle.kms_kept.specs.KeyNumbers.{KeysAscend}
use Rattle.kms_kept.specs.Once.{Pairwise, HaveOtherTargets, HaveOtherProjects}
use Rattle.kms_kept.specs.Rising as rising
use Rattle.kms_kept.specs.Sound.{IsSound}
use Rattle.kms_kept.proofs.SoundLaws.{change_is_sound}
use Rattle.kms_store.specs.Part.{IsFit}
use Rattle.kms_store.specs.Rows.{kept_in, AreOrdered}
use Rattle.kms_store.specs.Table.{Rises}
use Rattle.kms_store.specs.declared.rows.Rows.{Rows}
use Rattle.kms_store.proofs.ReadyLaws.{same_tag}

rises_alone : (tag n : ℕ) (ids : List Id) → rising.Rises tag n ids → Rises ids
rises_alone tag n [] r = tt
rises_alone tag n (id ∷ ids) r = (r.1, rises_alone tag n ids r.2)

-- rows that keep what is sound
ordered_rows : (r : Rows) (kept : Kept) → kept_in r ≡ kept → kept.state.tag < 2 ^ 60 → IsSound kept → AreOrdered r
ordered_rows r kept is tag sound = record {
  tag = subst (λ (k : Kept). k.state.tag < 2 ^ 60) (sym is) tag;
  ids = subst (λ (k : Kept). k.state.ids ≤ 2 ^ 62) (sym is) sound.within;
  secrets = subst (λ (k : Kept). Rises (secret_ids k.state)) (sym is) (rises_alone kept.state.tag kept.state.ids (secret_ids kept.state) sound.rising.secrets);
  containers = subst (λ (k : Kept). Rises (container_ids k.state)) (sym is) (rises_alone kept.state.tag kept.state.ids (container_ids kept.state) sound.rising.containers);
  orders = subst (λ (k : Kept). Rises (order_ids k.state)) (sym is) (rises_alone kept.state.tag kept.state.ids (order_ids kept.state) sound.rising.orders);
  acls = subst (λ (k : Kept). Pairwise HaveOtherTargets k.state.acls) (sym is) sound.once.acls;
  quotas = subst (λ (k : Kept). Pairwise HaveOtherProjects k.state.quotas) (sym is) sound.once.quotas;
  keys = subst (λ (k : Kept). KeysAscend k.keys) (sym is) sound.keys;
}

pub same_rows : (old new : Rows) → kept_in new ≡ kept_in old → AreOrdered old → IsSound (kept_in old) → AreOrdered new
same_rows old new is ordered sound = ordered_rows new (kept_in old) is ordered.tag sound

-- after a change that applied
pub changed_sound : (old new : Rows) (change : Change) → IsChange change → IsSound (kept_in old) → IsFit change (kept_in old) → kept_in new ≡ changed change (kept_in old) → IsSound (kept_in new)
changed_sound old new change range sound fits is = subst IsSound (sym is) (change_is_sound fits.0 change (kept_in old) sound range fits.1)

pub changed_ordered : (old new : Rows) (change : Change) → IsChange change → AreOrdered old → IsSound (kept_in old) → IsFit change (kept_in old) → kept_in new ≡ changed change (kept_in old) → AreOrdered new
changed_ordered old new change range ordered sound fits is =
    ordered_rows new (changed change (kept_in old)) is
    (subst (λ (n : ℕ). n < 2 ^ 60) (sym (same_tag change (kept_in old))) ordered.tag)
    (change_is_sound fits.0 change (kept_in old) sound range fits.1)
