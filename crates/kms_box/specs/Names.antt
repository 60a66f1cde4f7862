-- The names that the members of a container have, by its kind (Barbican API v1, containers).
use Rattle.std.specs.Prelude.{ℕ, ◌==◌, Bool, true, false, ◌&&◌, nat_le, List, [], ◌∷◌, codes, Option, Some, None, count_by, if◌then◌else◌}
use Rattle.std.specs.List.{list_all, list_any}
use Rattle.std.specs.Str.{bytes_eq}
use Rattle.kms_world.specs.declared.container.ContainerKind.{ContainerKind}
use Rattle.kms_world.specs.declared.container.ContainerKind.TheVariants.{Generic, Rsa, Certificate as CertificateKind}
use Rattle.kms_world.specs.declared.id.Id.{Id}
use Rattle.kms_box.specs.declared.names.MemberName.{MemberName}
use Rattle.kms_box.specs.declared.names.MemberName.TheVariants.{PublicKey, PrivateKey, Passphrase, Certificate, Intermediates}

abbrev pub word_of : MemberName → List ℕ
word_of PublicKey = codes "public_key"
word_of PrivateKey = codes "private_key"
word_of Passphrase = codes "private_key_passphrase"
word_of Certificate = codes "certificate"
word_of Intermediates = codes "intermediates"

-- each name, with true where a member must have it
abbrev pub rsa_names : List (MemberName × Bool)
rsa_names = (PublicKey, true) ∷ (PrivateKey, true) ∷ (Passphrase, false) ∷ []

abbrev pub certificate_names : List (MemberName × Bool)
certificate_names = (Certificate, true) ∷ (PrivateKey, false) ∷ (Passphrase, false) ∷ (Intermediates, false) ∷ []

-- this is the name that is there
abbrev pub has_word : MemberName → Option (List ℕ) → Bool
has_word name None = false
has_word name (Some text) = bytes_eq text (word_of name)

abbrev pub is_named : MemberName → Option (List ℕ) × Id → Bool
is_named name member = has_word name member.0

-- the member has one of the table's names
abbrev pub is_listed : List (MemberName × Bool) → Option (List ℕ) × Id → Bool
is_listed table member = list_any (λ entry. is_named entry.0 member) table

-- one member has the name where one must, else at most one
abbrev pub stands_right : List (Option (List ℕ) × Id) → MemberName × Bool → Bool
stands_right members entry =
    if entry.1 then count_by (is_named entry.0) members == 1 else nat_le (count_by (is_named entry.0) members) 1

-- the members have the table's names and no others
abbrev pub have_names : List (MemberName × Bool) → List (Option (List ℕ) × Id) → Bool
have_names table members = list_all (is_listed table) members && list_all (stands_right members) table

-- the members of a generic container have any names
abbrev pub are_named_for : ContainerKind → List (Option (List ℕ) × Id) → Bool
are_named_for Generic members = true
are_named_for Rsa members = have_names rsa_names members
are_named_for CertificateKind members = have_names certificate_names members
