-- Changes that are ready.
use Rattle.std.proofs.Common.{◌≡◌, ℕ, List, Option, Some, None, false, refl}
use Rattle.kms_world.specs.Effect.{after_effect}
use Rattle.kms_world.specs.State.{State}
use Rattle.kms_record.specs.ChangeEffect.{quota_effect}
use Rattle.kms_record.specs.declared.change.Change.{Change}
use Rattle.kms_record.specs.declared.change.Change.TheVariants.{KeyAdded, KeyRewrapped, TokenReplaced, KeyDropped, SecretPut, PayloadPut, MetadataPut, ContainerPut, ConsumerAdded, ConsumerDropped, AclPut, AclDropped, OrderPut, QuotaPut, Deleted}
use Rattle.kms_record.specs.declared.container.ContainerPut.{ContainerPut as Container}
use Rattle.kms_record.specs.declared.quota.QuotaLimits.{QuotaLimits}
use Rattle.kms_kept.specs.Kept.{Kept, changed}
use Rattle.kms_store.specs.Ready.{puts_container}

pub other_change : (change : Change) → ((put : Container) → change ≡ ContainerPut put → ⊥) → puts_container change ≡ false
other_change (KeyAdded x) apart = refl
other_change (KeyRewrapped x) apart = refl
other_change (TokenReplaced x) apart = refl
other_change (KeyDropped x) apart = refl
other_change (SecretPut x) apart = refl
other_change (PayloadPut x) apart = refl
other_change (MetadataPut x) apart = refl
other_change (ContainerPut x) apart = absurd (apart x refl)
other_change (ConsumerAdded x) apart = refl
other_change (ConsumerDropped x) apart = refl
other_change (AclPut x) apart = refl
other_change (AclDropped x) apart = refl
other_change (OrderPut x) apart = refl
other_change (QuotaPut x) apart = refl
other_change (Deleted x) apart = refl

quota_tag : (project : List ℕ) (limits : Option QuotaLimits) (s : State) → (after_effect (quota_effect project limits) s).tag ≡ s.tag
quota_tag project None s = refl
quota_tag project (Some limits) s = refl

-- no change changes the tag
pub same_tag : (change : Change) (kept : Kept) → (changed change kept).state.tag ≡ kept.state.tag
same_tag (KeyAdded x) kept = refl
same_tag (KeyRewrapped x) kept = refl
same_tag (TokenReplaced x) kept = refl
same_tag (KeyDropped x) kept = refl
same_tag (SecretPut x) kept = refl
same_tag (PayloadPut x) kept = refl
same_tag (MetadataPut x) kept = refl
same_tag (ContainerPut x) kept = refl
same_tag (ConsumerAdded x) kept = refl
same_tag (ConsumerDropped x) kept = refl
same_tag (AclPut x) kept = refl
same_tag (AclDropped x) kept = refl
same_tag (OrderPut x) kept = refl
same_tag (QuotaPut x) kept = quota_tag x.project x.limits kept.state
same_tag (Deleted x) kept = refl
