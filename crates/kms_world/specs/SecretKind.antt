-- Kinds of secrets, by their words (Barbican API v1, secret types).
use Rattle.std.specs.Prelude.{ℕ, List, codes, Option, Some, None, if◌then◌else◌}
use Rattle.std.specs.Str.{bytes_eq}
use Rattle.kms_world.specs.declared.secret.SecretKind.{SecretKind}
use Rattle.kms_world.specs.declared.secret.SecretKind.TheVariants.{Symmetric, Public, Private, Passphrase, Certificate, Opaque}

abbrev pub word_of : SecretKind → List ℕ
word_of Symmetric = codes "symmetric"
word_of Public = codes "public"
word_of Private = codes "private"
word_of Passphrase = codes "passphrase"
word_of Certificate = codes "certificate"
word_of Opaque = codes "opaque"

-- the kind whose word this is
abbrev pub kind_of : List ℕ → Option SecretKind
kind_of word =
    if bytes_eq word (codes "symmetric") then Some Symmetric else
    if bytes_eq word (codes "public") then Some Public else
    if bytes_eq word (codes "private") then Some Private else
    if bytes_eq word (codes "passphrase") then Some Passphrase else
    if bytes_eq word (codes "certificate") then Some Certificate else
    if bytes_eq word (codes "opaque") then Some Opaque else None
