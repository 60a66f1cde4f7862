-- Runs of `init` that its contract refuses: from each wrong list of calls, the newest first, and the contract follows anything.
use Rattle.std.proofs.Common.{◌≡◌, inl, inr, ℕ, List, [], ◌∷◌, ◌++◌, length, Bool, true, false, lit<, refl, sym, ◌∙◌, ap, subst, arith}
use Rattle.std.specs.Prelude.{Option, Some, None, IfSome, Result, Err, ◌||◌}
use Rattle.kms_host.specs.Disk.{Disk}
use Rattle.kms_host.specs.History.{History}
use Rattle.kms_host.specs.Store.{apart_from_files, file_call_failed}
use Rattle.kms_host.proofs.Moments.{at_each}
use Rattle.kms_host.specs.declared.call.Call.{Call}
use Rattle.kms_host.specs.declared.call.Call.TheVariants.{Attached, Gave, OnFile, Told, Drew}
use Rattle.kms_host.specs.declared.call.FileCall.{FileCall}
use Rattle.kms_host.specs.declared.call.FileCall.TheVariants.{Wrote, Synced}
use Rattle.kms_host.specs.declared.call.NameFault.{NameFault}
use Rattle.kms_host.specs.declared.call.Purpose.TheVariants.{Tag}
use Rattle.kms_journal.specs.Device.{IsQuietStore}
use Rattle.kms_serve.specs.Init.{IsAlone, HasFiles, IsNoStore, IsStore, IsUnderWay, Inits}
use Rattle.kms_serve.specs.StoreCalls.{store_failed}
use Rattle.kms_serve.specs.declared.status.Status.{Status}
use Rattle.kms_serve.specs.declared.status.Status.TheVariants as status

gave_alone : (store : List ℕ) (was : History) (line : ℕ) (piece : List ℕ) (went : Option ℕ) (rest : List Call) → IsAlone store was (Gave line piece went ∷ rest) → ⊥
gave_alone store was line piece went rest (inl e) = cc
gave_alone store was line piece went rest (inr (inl e)) = let same = e.1 in cc
gave_alone store was line piece went rest (inr (inr e)) = let same = e.1.2 in cc

-- it sends bytes
pub sends_bytes : (store : List ℕ) (s : Status) (was : History) (line : ℕ) (piece : List ℕ) (went : Option ℕ) (calls : List Call) → Inits store s was (Gave line piece went ∷ calls) → ⊥
sends_bytes store s was line piece went calls i = gave_alone store was line piece went (apart_from_files calls) i.each.0.alone

told_alone : (store : List ℕ) (was : History) (moment : ℕ) (rest : List Call) → IsAlone store was (Told moment ∷ rest) → ⊥
told_alone store was moment rest (inl e) = cc
told_alone store was moment rest (inr (inl e)) = let same = e.1 in cc
told_alone store was moment rest (inr (inr e)) = let same = e.1.2 in cc

-- it asks for the time
pub asks_for_the_time : (store : List ℕ) (s : Status) (was : History) (moment : ℕ) (calls : List Call) → Inits store s was (Told moment ∷ calls) → ⊥
asks_for_the_time store s was moment calls i = told_alone store was moment (apart_from_files calls) i.each.0.alone

drew_alone : (store : List ℕ) (was : History) (bytes again : Option (List ℕ)) (rest : List Call) → IsAlone store was (Drew Tag again ∷ Drew Tag bytes ∷ rest) → ⊥
drew_alone store was bytes again rest (inl e) = cc
drew_alone store was bytes again rest (inr (inl e)) = let same = e.1 in cc
drew_alone store was bytes again rest (inr (inr e)) = let same = e.1.2 in cc

-- it draws twice
pub draws_twice : (store : List ℕ) (s : Status) (was : History) (bytes again : Option (List ℕ)) (calls : List Call) → Inits store s was (Drew Tag again ∷ Drew Tag bytes ∷ calls) → ⊥
draws_twice store s was bytes again calls i = drew_alone store was bytes again (apart_from_files calls) i.each.0.alone

attached_alone : (store : List ℕ) (was : History) (other : List ℕ) (done : Result (Unit {0}) NameFault) (rest : List Call) → IsAlone store was (Attached other done ∷ rest) → other ≡ store
attached_alone store was other done rest (inl e) = cc
attached_alone store was other done rest (inr (inl e)) = let same = e.1 in cc
attached_alone store was other done rest (inr (inr e)) = let same = e.1.2 in cc

drew_where : (store : List ℕ) (was : History) (bytes : Option (List ℕ)) (rest : List Call) → IsAlone store was (Drew Tag bytes ∷ rest) → IsNoStore was
drew_where store was bytes rest (inl e) = cc
drew_where store was bytes rest (inr (inl e)) = let same = e.1 in cc
drew_where store was bytes rest (inr (inr e)) = e.0

-- it draws over a store that is there, whatever it does then
pub draws_over_a_store : (store : List ℕ) (s : Status) (was : History) (bytes : Option (List ℕ)) (later calls : List Call) → IsStore was
    → Inits store s was (later ++ Drew Tag bytes ∷ calls) → ⊥
draws_over_a_store store s was bytes later calls there i =
    let u = at_each (IsUnderWay store was) later (Drew Tag bytes ∷ calls) i.each in
    let no : None ≡ Some there.0 = sym (drew_where store was bytes (apart_from_files calls) u.alone) ∙ there.1 in cc

-- it goes on after a call of the store that failed
pub goes_on_after_a_fault : (store : List ℕ) (s : Status) (was : History) (f : ℕ) (c : FileCall) (next : Call) (calls : List Call) → file_call_failed c ≡ true
    → Inits store s was (next ∷ OnFile f c ∷ calls) → ⊥
goes_on_after_a_fault store s was f c next calls failed i =
    let sound : (file_call_failed c || store_failed calls) ≡ false = i.each.0.unfailed in
    let no : true ≡ false = sym (ap (λ (b : Bool). b || store_failed calls) failed) ∙ sound in cc

-- it names another store
pub names_another_store : (store other : List ℕ) (s : Status) (was : History) (done : Result (Unit {0}) NameFault) (calls : List Call) → (other ≡ store → ⊥)
    → Inits store s was (Attached other done ∷ calls) → ⊥
names_another_store store other s was done calls differ i = differ (attached_alone store was other done (apart_from_files calls) i.each.0.alone)

-- it is done after a write that was not synced
pub done_without_a_sync : (store : List ℕ) (was : History) (at : ℕ) (piece : List ℕ) (left : Option (List ℕ)) (calls : List Call) → IsQuietStore was
    → Inits store status.Done was (OnFile 0 (Wrote at piece left) ∷ calls) → ⊥
done_without_a_sync store was at piece left calls quiet i =
    let none = ap (λ (d : Disk). d.ranges) (i.end.quiet quiet 0 (lit< tt)) in cc

-- it is done where there was a store, or answers that there is one where there was none
pub done_over_a_store : (store : List ℕ) (was : History) (calls : List Call) → IsStore was → Inits store status.Done was calls → ⊥
done_over_a_store store was calls there i = let no : None ≡ Some there.0 = sym i.end.none ∙ there.1 in cc

pub exists_where_none_is : (store : List ℕ) (was : History) (calls : List Call) → IsNoStore was → Inits store status.StoreExists was calls → ⊥
exists_where_none_is store was calls none i = let no : None ≡ Some i.end.0.0 = sym none ∙ i.end.0.1 in cc

-- it answers a fault of the store though no call was made
pub fault_without_a_call : (store : List ℕ) (was : History) → Inits store status.StoreFault was [] → ⊥
fault_without_a_call store was i = omega (arith, i.end)

-- it is done after a call of the store that failed
pub fault_passed_over : (store : List ℕ) (was : History) (calls : List Call) → Inits store status.Done was (OnFile 0 (Synced false) ∷ calls) → ⊥
fault_passed_over store was calls i = let none = i.faultless (λ e. cc) in omega (arith, none)

-- it calls a file before it attached the store, or though it couldn't be attached
pub calls_a_file_at_once : (store : List ℕ) (s : Status) (was : History) (f : ℕ) (c : FileCall) → Inits store s was (OnFile f c ∷ []) → ⊥
calls_a_file_at_once store s was f c i = no_files [] refl i.each.0.on_file
  where
    no_files : (apart : List Call) → apart ≡ [] → HasFiles store apart → ⊥
    no_files apart none (inl e) = let same = sym none ∙ e in cc
    no_files apart none (inr e) = let same = sym none ∙ e.1 in cc

pub calls_a_file_unattached : (store : List ℕ) (s : Status) (was : History) (f : ℕ) (c : FileCall) (fault : NameFault)
    → Inits store s was (OnFile f c ∷ Attached store (Err fault) ∷ []) → ⊥
calls_a_file_unattached store s was f c fault i = no_files (Attached store (Err fault) ∷ []) refl i.each.0.on_file
  where
    no_files : (apart : List Call) → apart ≡ Attached store (Err fault) ∷ [] → HasFiles store apart → ⊥
    no_files apart is (inl e) = let same = sym is ∙ e in cc
    no_files apart is (inr e) = let same = sym is ∙ e.1 in cc

drew_eight : (store : List ℕ) (was : History) (bytes : List ℕ) (rest : List Call) → IsAlone store was (Drew Tag (Some bytes) ∷ rest) → length bytes ≡ 8
drew_eight store was bytes rest (inl e) = cc
drew_eight store was bytes rest (inr (inl e)) = let same = e.1 in cc
drew_eight store was bytes rest (inr (inr (none, (drawn, eight, e)))) = subst (λ (d : Option (List ℕ)). IfSome d (λ l. length l ≡ 8)) (same_tag e) eight
  where
    same_tag : {x y : Option (List ℕ)} {a b : List Call} → Drew Tag x ∷ a ≡ Drew Tag y ∷ b → y ≡ x
    same_tag e = cc

-- it draws a tag of other than eight bytes
pub draws_another_length : (store : List ℕ) (s : Status) (was : History) (bytes : List ℕ) (calls : List Call) → (length bytes ≡ 8 → ⊥) → Inits store s was (Drew Tag (Some bytes) ∷ calls) → ⊥
draws_another_length store s was bytes calls other i = other (drew_eight store was bytes (apart_from_files calls) i.each.0.alone)
