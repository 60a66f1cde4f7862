-- The readers of steps and snapshots are exact.
use Rattle.std.proofs.Common.{◌≡◌, ℕ, Bool, true, false, cond, eqb, List, [], ◌++◌, length, Option, Some, None, refl, sym, ap, subst, ◌∙◌}
use Rattle.std.specs.Int.{w32, w64}
use Rattle.std.proofs.lemmas.Bool.{eqb-true}
use Rattle.std.proofs.lemmas.List.{append-nil, nil_from_length}
use Rattle.kms_record.specs.declared.change.Change.{Change}
use Rattle.kms_record.specs.declared.change.Change.TheVariants.{KeyAdded, KeyRewrapped, TokenReplaced, KeyDropped, SecretPut, PayloadPut, MetadataPut, ContainerPut, ConsumerAdded, ConsumerDropped, AclPut, AclDropped, OrderPut, QuotaPut, Deleted}
use Rattle.kms_record.specs.Grammar.{change_bytes, IsChange, step_bytes, IsStep, record_bytes, AreSteps, snapshot_bytes, AreChanges, IsRecord, IsSnapshot}
use Rattle.kms_record.specs.Reading.{Read, byte_at, number_at, alternatives_at}
use Rattle.kms_record.specs.GrammarReading.{changes_by_kind, change_at, step_at, alone, record_of, snapshot_of}
use Rattle.kms_record.proofs.Codec.{IsBytes, bind_some, passed, IsCodec, refitted}
use Rattle.kms_record.proofs.FieldLaws.{u16_codec, u32_codec, u64_codec, id_codec}
use Rattle.kms_record.proofs.ListLaws.{counted, counted_codec, some_counted, some_counted_codec, alternatives_codec, made_alternative}
use Rattle.kms_record.proofs.KeyLaws.{wrapped_key_codec, key_dropped_codec}
use Rattle.kms_record.proofs.PayloadLaws.{token_replaced_codec, payload_put_codec}
use Rattle.kms_record.proofs.SecretLaws.{secret_put_codec}
use Rattle.kms_record.proofs.MetadataLaws.{metadata_put_codec}
use Rattle.kms_record.proofs.ContainerLaws.{container_put_codec}
use Rattle.kms_record.proofs.ConsumerLaws.{consumer_added_codec, consumer_dropped_codec}
use Rattle.kms_record.proofs.AclLaws.{acl_put_codec}
use Rattle.kms_record.proofs.OrderLaws.{order_put_codec}
use Rattle.kms_record.proofs.QuotaLaws.{quota_put_codec}

passed_on : {A : Type 0} (b : Bool) (o : Option A) (y : A) → cond b o None ≡ Some y → (b ≡ true) × (o ≡ Some y)
passed_on true o y e = (refl, e)
passed_on false o y e = absurd cc

-- ---- changes, steps, records, snapshots

change_again : (change : Change) (rest : List ℕ) → IsChange change → change_at (change_bytes change ++ rest) ≡ Some (change, rest)
unfolding alternatives_at byte_at
change_again (KeyAdded put) rest fits = rw (wrapped_key_codec.again put rest fits) refl
change_again (KeyRewrapped put) rest fits = rw (wrapped_key_codec.again put rest fits) refl
change_again (TokenReplaced put) rest fits = rw (token_replaced_codec.again put rest fits) refl
change_again (KeyDropped put) rest fits = rw (key_dropped_codec.again put rest fits) refl
change_again (SecretPut put) rest fits = rw (secret_put_codec.again put rest fits) refl
change_again (PayloadPut put) rest fits = rw (payload_put_codec.again put rest fits) refl
change_again (MetadataPut put) rest fits = rw (metadata_put_codec.again put rest fits) refl
change_again (ContainerPut put) rest fits = rw (container_put_codec.again put rest fits) refl
change_again (ConsumerAdded put) rest fits = rw (consumer_added_codec.again put rest fits) refl
change_again (ConsumerDropped put) rest fits = rw (consumer_dropped_codec.again put rest fits) refl
change_again (AclPut put) rest fits = rw (acl_put_codec.again put rest fits) refl
change_again (AclDropped id) rest fits = rw (id_codec.again id rest fits) refl
change_again (OrderPut put) rest fits = rw (order_put_codec.again put rest fits) refl
change_again (QuotaPut put) rest fits = rw (quota_put_codec.again put rest fits) refl
change_again (Deleted id) rest fits = rw (id_codec.again id rest fits) refl

pub change_codec : IsCodec change_bytes IsChange change_at
change_codec = alternatives_codec changes_by_kind (
  made_alternative 1 (λ put. KeyAdded put) wrapped_key_codec (λ put. refl) (λ put f. f),
  (
    made_alternative 2 (λ put. KeyRewrapped put) wrapped_key_codec (λ put. refl) (λ put f. f),
    (
      made_alternative 3 (λ put. TokenReplaced put) token_replaced_codec (λ put. refl) (λ put f. f),
      (
        made_alternative 4 (λ put. KeyDropped put) key_dropped_codec (λ put. refl) (λ put f. f),
        (
          made_alternative 5 (λ put. SecretPut put) secret_put_codec (λ put. refl) (λ put f. f),
          (
            made_alternative 6 (λ put. PayloadPut put) payload_put_codec (λ put. refl) (λ put f. f),
            (
              made_alternative 7 (λ put. MetadataPut put) metadata_put_codec (λ put. refl) (λ put f. f),
              (
                made_alternative 8 (λ put. ContainerPut put) container_put_codec (λ put. refl) (λ put f. f),
                (
                  made_alternative 9 (λ put. ConsumerAdded put) consumer_added_codec (λ put. refl) (λ put f. f),
                  (
                    made_alternative 10 (λ put. ConsumerDropped put) consumer_dropped_codec (λ put. refl) (λ put f. f),
                    (
                      made_alternative 11 (λ put. AclPut put) acl_put_codec (λ put. refl) (λ put f. f),
                      (
                        made_alternative 12 (λ id. AclDropped id) id_codec (λ id. refl) (λ id f. f),
                        (
                          made_alternative 13 (λ put. OrderPut put) order_put_codec (λ put. refl) (λ put f. f),
                          (
                            made_alternative 14 (λ put. QuotaPut put) quota_put_codec (λ put. refl) (λ put f. f),
                            (
                              made_alternative 15 (λ id. Deleted id) id_codec (λ id. refl) (λ id f. f),
                              tt,
                            ),
                          ),
                        ),
                      ),
                    ),
                  ),
                ),
              ),
            ),
          ),
        ),
      ),
    ),
  ),
)
    change_again

pub step_codec : IsCodec step_bytes IsStep step_at
unfolding step_at
step_codec = refitted (some_counted_codec u16_codec change_codec)
    (λ xs f. record { some = f.0; few = f.1.0; each = f.1.1 })
    (λ xs s. (s.some, (s.few, s.each)))

record_codec : IsCodec record_bytes AreSteps (some_counted (number_at w32) step_at)
record_codec = refitted (some_counted_codec u32_codec step_codec)
    (λ xs f. record { some = f.0; few = f.1.0; each = f.1.1 })
    (λ xs s. (s.some, (s.few, s.each)))

snapshot_codec : IsCodec snapshot_bytes AreChanges (counted (number_at w64) change_at)
snapshot_codec = refitted (counted_codec u64_codec change_codec)
    (λ xs f. record { few = f.0; each = f.1 })
    (λ xs s. (s.few, s.each))

-- ---- alone

alone_takes : {A : Type 0} (spell : A → List ℕ) (F : A → Type 0) (read : Read A) → IsCodec spell F read → (bytes : List ℕ) (x : A) → IsBytes bytes → alone (read bytes) ≡ Some x → (bytes ≡ spell x) × F x
alone_takes {A} spell F read codec bytes x fits e =
    let a = bind_some (read bytes) (λ y. cond (eqb (length y.1) 0) (Some y.0) None) x e in
    let g = passed (eqb (length a.0.1) 0) a.0.0 x a.2 in
    let t = codec.takes bytes a.0 fits a.1 in
    let nothing : a.0.1 ≡ [] = nil_from_length a.0.1 (eqb-true _ _ g.0) in
    let whole : bytes ≡ spell a.0.0 = t.0.parts ∙ ap (λ (r : List ℕ). spell a.0.0 ++ r) nothing ∙ append-nil (spell a.0.0) in
    subst (λ (y : A). (bytes ≡ spell y) × F y) g.1 (whole, t.1)

alone_again : {A : Type 0} (spell : A → List ℕ) (F : A → Type 0) (read : Read A) → IsCodec spell F read → (x : A) → F x → alone (read (spell x)) ≡ Some x
alone_again {A} spell F read codec x f =
    let e : read (spell x) ≡ Some (x, []) = ap read (sym (append-nil (spell x))) ∙ codec.again x [] f in
    rw e refl

pub record_read : (bytes : List ℕ) (steps : List (List Change)) → IsBytes bytes → record_of bytes ≡ Some steps → IsRecord bytes steps
unfolding record_of
record_read bytes steps fits e = let t = alone_takes record_bytes AreSteps (some_counted (number_at w32) step_at) record_codec bytes steps fits e in record { spelled = t.0; admitted = t.1 }

pub record_again : (bytes : List ℕ) (steps : List (List Change)) → IsRecord bytes steps → record_of bytes ≡ Some steps
unfolding record_of
record_again bytes steps is = ap record_of is.spelled ∙ alone_again record_bytes AreSteps (some_counted (number_at w32) step_at) record_codec steps is.admitted

pub snapshot_read : (bytes : List ℕ) (changes : List Change) → IsBytes bytes → snapshot_of bytes ≡ Some changes → IsSnapshot bytes changes
unfolding snapshot_of
snapshot_read bytes changes fits e = let t = alone_takes snapshot_bytes AreChanges (counted (number_at w64) change_at) snapshot_codec bytes changes fits e in record { spelled = t.0; admitted = t.1 }

pub snapshot_again : (bytes : List ℕ) (changes : List Change) → IsSnapshot bytes changes → snapshot_of bytes ≡ Some changes
unfolding snapshot_of
snapshot_again bytes changes is = ap snapshot_of is.spelled ∙ alone_again snapshot_bytes AreChanges (counted (number_at w64) change_at) snapshot_codec changes is.admitted
