-- The readers of what a number of one byte stands for are exact.
use Rattle.std.proofs.Common.{◌≡◌, ℕ, cond, eqb, List, [], ◌∷◌, Option, Some, None, refl, ap, subst, ◌∙◌, inl, inr, ◌⊎◌}
use Rattle.std.proofs.lemmas.Bool.{eqb-true}
use Rattle.kms_world.specs.declared.secret.SecretKind.{SecretKind}
use Rattle.kms_world.specs.declared.secret.SecretKind.TheVariants as secrets
use Rattle.kms_world.specs.declared.container.ContainerKind.{ContainerKind}
use Rattle.kms_world.specs.declared.container.ContainerKind.TheVariants as containers
use Rattle.kms_world.specs.declared.payload.Media.{Media}
use Rattle.kms_world.specs.declared.payload.Media.TheVariants as media
use Rattle.kms_world.specs.declared.order.Cause.{Cause}
use Rattle.kms_world.specs.declared.order.Cause.TheVariants as causes
use Rattle.kms_record.specs.Fields.{u8_bytes, secret_kind_number, container_kind_number, media_number, cause_number}
use Rattle.kms_record.specs.Reading.{byte_at, coded_at, secret_kind_of, secret_kind_at, container_kind_of, container_kind_at, media_of, media_at, cause_of, cause_at}
use Rattle.kms_record.proofs.Codec.{IsBytes, IsBytes-rest, bind_some, some_is, Takes, IsCodec}
use Rattle.kms_record.proofs.FieldLaws.{chosen}

-- each value has a number of its own, and no other number stands for one
record IsCode {A : Type 0} (number : A → ℕ) (value_of : ℕ → Option A) : Type 0 where
  found : (n : ℕ) (x : A) → value_of n ≡ Some x → n ≡ number x
  back : (x : A) → value_of (number x) ≡ Some x

coded_takes : {A : Type 0} (number : A → ℕ) (value_of : ℕ → Option A) → IsCode number value_of → (bytes : List ℕ) (x : A × List ℕ) → IsBytes bytes → coded_at value_of bytes ≡ Some x
    → Takes bytes (u8_bytes (number x.0)) x.1 × Unit {0}
unfolding u8_bytes coded_at byte_at
coded_takes {A} number value_of code [] x fits e = absurd cc
coded_takes {A} number value_of code (b ∷ bytes) x fits e =
    let a = bind_some (value_of b) (λ value. Some (value, bytes)) x e in
    let made : A × List ℕ = (a.0, bytes) in
    subst (λ (y : A × List ℕ). Takes (b ∷ bytes) (number y.0 ∷ []) y.1 × Unit {0}) (some_is made x a.2)
    (record { parts = ap (λ (n : ℕ). n ∷ bytes) (code.found b a.0 a.1); rest_fits = IsBytes-rest b bytes fits }, tt)

coded_codec : {A : Type 0} (number : A → ℕ) (value_of : ℕ → Option A) → IsCode number value_of → IsCodec (λ x. u8_bytes (number x)) (λ x. Unit {0}) (coded_at value_of)
unfolding u8_bytes coded_at byte_at
coded_codec {A} number value_of code = record {
  takes = coded_takes number value_of code;
  again = λ x rest f. rw (code.back x) refl;
}

-- the number stands for this value, or for one of the others
number_is : {A : Type 0} (number : A → ℕ) (n m : ℕ) (a x : A) (o : Option A) → m ≡ number a → cond (eqb n m) (Some a) o ≡ Some x → (n ≡ number x) ⊎ (o ≡ Some x)
number_is {A} number n m a x o is e =
    elim (chosen (eqb n m) (Some a) o x e) [
      | inl h ↦ inl (eqb-true _ _ h.0 ∙ is ∙ ap number (some_is a x h.1))
      | inr h ↦ inr h.1
    ]

otherwise : {P Q R : Type 0} → P ⊎ Q → (P → R) → (Q → R) → R
otherwise {P} {Q} {R} either first second = elim either [ inl h ↦ first h | inr h ↦ second h ]

none_found : {A : Type 0} (x : A) → (let nothing : Option A = None in nothing ≡ Some x) → ⊥
none_found {A} x e = cc

secret_kind_found : (n : ℕ) (k : SecretKind) → secret_kind_of n ≡ Some k → n ≡ secret_kind_number k
secret_kind_found n k e =
    otherwise (number_is secret_kind_number n 0 secrets.Symmetric k _ refl e) (λ h. h) (λ e1.
    otherwise (number_is secret_kind_number n 1 secrets.Public k _ refl e1) (λ h. h) (λ e2.
    otherwise (number_is secret_kind_number n 2 secrets.Private k _ refl e2) (λ h. h) (λ e3.
    otherwise (number_is secret_kind_number n 3 secrets.Passphrase k _ refl e3) (λ h. h) (λ e4.
    otherwise (number_is secret_kind_number n 4 secrets.Certificate k _ refl e4) (λ h. h) (λ e5.
    otherwise (number_is secret_kind_number n 5 secrets.Opaque k _ refl e5) (λ h. h) (λ e6. absurd (none_found k e6)))))))

secret_kind_back : (k : SecretKind) → secret_kind_of (secret_kind_number k) ≡ Some k
secret_kind_back secrets.Symmetric = refl
secret_kind_back secrets.Public = refl
secret_kind_back secrets.Private = refl
secret_kind_back secrets.Passphrase = refl
secret_kind_back secrets.Certificate = refl
secret_kind_back secrets.Opaque = refl

pub secret_kind_codec : IsCodec (λ k. u8_bytes (secret_kind_number k)) (λ k. Unit {0}) secret_kind_at
secret_kind_codec = coded_codec secret_kind_number secret_kind_of (record { found = secret_kind_found; back = secret_kind_back })

container_kind_found : (n : ℕ) (k : ContainerKind) → container_kind_of n ≡ Some k → n ≡ container_kind_number k
container_kind_found n k e =
    otherwise (number_is container_kind_number n 0 containers.Generic k _ refl e) (λ h. h) (λ e1.
    otherwise (number_is container_kind_number n 1 containers.Rsa k _ refl e1) (λ h. h) (λ e2.
    otherwise (number_is container_kind_number n 2 containers.Certificate k _ refl e2) (λ h. h) (λ e3. absurd (none_found k e3))))

container_kind_back : (k : ContainerKind) → container_kind_of (container_kind_number k) ≡ Some k
container_kind_back containers.Generic = refl
container_kind_back containers.Rsa = refl
container_kind_back containers.Certificate = refl

pub container_kind_codec : IsCodec (λ k. u8_bytes (container_kind_number k)) (λ k. Unit {0}) container_kind_at
container_kind_codec = coded_codec container_kind_number container_kind_of (record { found = container_kind_found; back = container_kind_back })

media_found : (n : ℕ) (m : Media) → media_of n ≡ Some m → n ≡ media_number m
media_found n m e =
    otherwise (number_is media_number n 0 media.TextPlain m _ refl e) (λ h. h) (λ e1.
    otherwise (number_is media_number n 1 media.OctetStream m _ refl e1) (λ h. h) (λ e2. absurd (none_found m e2)))

media_back : (m : Media) → media_of (media_number m) ≡ Some m
media_back media.TextPlain = refl
media_back media.OctetStream = refl

pub media_codec : IsCodec (λ m. u8_bytes (media_number m)) (λ m. Unit {0}) media_at
media_codec = coded_codec media_number media_of (record { found = media_found; back = media_back })

cause_found : (n : ℕ) (c : Cause) → cause_of n ≡ Some c → n ≡ cause_number c
cause_found n c e =
    otherwise (number_is cause_number n 0 causes.Unsupported c _ refl e) (λ h. h) (λ e1.
    otherwise (number_is cause_number n 1 causes.QuotaReached c _ refl e1) (λ h. h) (λ e2.
    otherwise (number_is cause_number n 2 causes.IdsSpent c _ refl e2) (λ h. h) (λ e3. absurd (none_found c e3))))

cause_back : (c : Cause) → cause_of (cause_number c) ≡ Some c
cause_back causes.Unsupported = refl
cause_back causes.QuotaReached = refl
cause_back causes.IdsSpent = refl

pub cause_codec : IsCodec (λ c. u8_bytes (cause_number c)) (λ c. Unit {0}) cause_at
cause_codec = coded_codec cause_number cause_of (record { found = cause_found; back = cause_back })
