-- The reader of access lists is exact.
use Rattle.std.proofs.Common.{◌≡◌, ℕ, ◌<◌, ◌^◌, true, not, List, ◌++◌, refl, append_assoc}
use Rattle.std.specs.Str.{bytes_eq}
use Rattle.kms_world.specs.Names.{IsWithoutRepeats}
use Rattle.kms_world.specs.Times.{end_of_times}
use Rattle.kms_record.specs.declared.acl.AclPut.{AclPut}
use Rattle.std.specs.Prelude.{Contains}
use Rattle.std.specs.List.{list_all}
use Rattle.kms_record.proofs.PairwiseLaws.{passes_at}
use Rattle.std.proofs.lemmas.Bool.Decides.{Decides-not}
use Rattle.std.proofs.lemmas.Slice.Eq.{bytes_eq-Decides}
use Rattle.kms_record.specs.Fields.{u64_bytes, text_bytes, mark_bytes, list_bytes}
use Rattle.kms_record.specs.Acl.{IsUserInRange, AreUsersInRange, IsUserTyped, AreUsersTyped, acl_put_bytes, IsAclPutInRange, IsAclPutTyped}
use Rattle.kms_record.specs.AclReading.{are_apart, users_at, AclPutFields, acl_put_with, acl_put_fields_at, acl_put_at}
use Rattle.kms_record.proofs.Codec.{IsCodec, refitted, respelled, both_codec, made_codec, passing_codec}
use Rattle.kms_record.proofs.FieldLaws.{id_codec, time_codec, short_name_codec, mark_codec}
use Rattle.kms_record.proofs.ListLaws.{list_codec}
use Rattle.kms_record.proofs.PairwiseLaws.{parted, joined, pairwise_at, pairwise_from_places}

apart : (a b : List ℕ) → not (bytes_eq a b) ≡ true → a ≡ b → ⊥
apart a b = (Decides-not (bytes_eq a b) (bytes_eq-Decides a b)).0

not_same : (a b : List ℕ) → (a ≡ b → ⊥) → not (bytes_eq a b) ≡ true
not_same a b = (Decides-not (bytes_eq a b) (bytes_eq-Decides a b)).1

pub not_among : (users : List (List ℕ)) (name : List ℕ) → list_all (λ u. not (bytes_eq u name)) users ≡ true → Contains users name → ⊥
not_among users name h has = apart _ _ (passes_at (λ u. not (bytes_eq u name)) users has.0 name h has.1) has.2

pub once_from_test : (users : List (List ℕ)) → are_apart users ≡ true → IsWithoutRepeats users
once_from_test users h = record { apart = λ i j d lt within. apart _ _ (pairwise_at (λ (a b : List ℕ). not (bytes_eq a b)) users i j d h lt within) }

pub test_from_once : (users : List (List ℕ)) → IsWithoutRepeats users → are_apart users ≡ true
test_from_once users a = pairwise_from_places (λ (a b : List ℕ). not (bytes_eq a b)) users (λ i j d lt within. not_same _ _ (a.apart i j d lt within))

users_codec : IsCodec (list_bytes text_bytes) (λ us. AreUsersInRange us × AreUsersTyped us) users_at
users_codec = refitted (passing_codec are_apart (list_codec short_name_codec))
    (λ us f. let p = parted IsUserInRange IsUserTyped us f.0.1 in (record { few = f.0.0; each = p.0 }, record { each = p.1; once = once_from_test us f.1 }))
    (λ us f. ((f.0.few, joined IsUserInRange IsUserTyped us (f.0.each, f.1.each)), test_from_once us f.1.once))

-- ---- AclPut

abbrev acl_put_fields : AclPut → AclPutFields
acl_put_fields put = (put.target, (put.project_access, (put.created, (put.updated, put.users))))

abbrev acl_put_spelled : AclPutFields → List ℕ
acl_put_spelled (target, (project_access, (created, (updated, users)))) = u64_bytes target ++ (mark_bytes project_access ++ (u64_bytes created ++ (u64_bytes updated ++ list_bytes text_bytes users)))

abbrev AclPutFit : AclPutFields → Type 0
AclPutFit (target, (project_access, (created, (updated, users)))) = (target < 2 ^ 62) × (Unit {0} × ((created < end_of_times) × ((updated < end_of_times) × ((AreUsersInRange users) × (AreUsersTyped users)))))

acl_put_fields_codec : IsCodec acl_put_spelled AclPutFit acl_put_fields_at
acl_put_fields_codec = both_codec id_codec (both_codec mark_codec (both_codec time_codec (both_codec time_codec users_codec)))

acl_put_admitted : (put : AclPut) → AclPutFit (acl_put_fields put) → IsAclPutInRange put × IsAclPutTyped put
acl_put_admitted put (target, (project_access, (created, (updated, users)))) = (record { target = target; created = created; updated = updated; users = users.0 }, record { users = users.1 })

acl_put_fitting : (put : AclPut) → IsAclPutInRange put × IsAclPutTyped put → AclPutFit (acl_put_fields put)
acl_put_fitting put h = (h.0.target, (tt, (h.0.created, (h.0.updated, (h.0.users, h.1.users)))))

acl_put_same : (put : AclPut) → acl_put_spelled (acl_put_fields put) ≡ acl_put_bytes put
unfolding acl_put_bytes
acl_put_same put = simp append_assoc

pub acl_put_codec : IsCodec acl_put_bytes (λ put. IsAclPutInRange put × IsAclPutTyped put) acl_put_at
unfolding acl_put_at
acl_put_codec = refitted (respelled (made_codec acl_put_with acl_put_fields (λ f. refl) (λ put. refl) acl_put_fields_codec) acl_put_same) acl_put_admitted acl_put_fitting
