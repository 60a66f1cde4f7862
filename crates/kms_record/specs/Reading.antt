-- How bytes are read from their front, as functions on lists: Some value and the bytes after it, or None. Only private
-- contracts name these. What they read is said by the grammar, which the public contracts name.
use Rattle.std.specs.Prelude.{ℕ, zero, suc, ◌^◌, ◌≡◌, Bool, true, false, List, [], ◌∷◌, length, take, drop, Option, Some, None, Result, Ok, Err, option_and_then, ◌==◌, ◌&&◌, nat_lt, nat_le, if◌then◌else◌}
use Rattle.std.specs.Int.{Width, w16, w32, w64, byte_len, from_be_bytes}
use Rattle.std.specs.List.{list_all}
use Rattle.std.specs.Str.{is_utf8}
use Rattle.kms_world.specs.Name.{is_name}
use Rattle.kms_world.specs.Times.{end_of_times}
use Rattle.kms_world.specs.declared.secret.SecretKind.{SecretKind}
use Rattle.kms_world.specs.declared.secret.SecretKind.TheVariants as secrets
use Rattle.kms_world.specs.declared.container.ContainerKind.{ContainerKind}
use Rattle.kms_world.specs.declared.container.ContainerKind.TheVariants as containers
use Rattle.kms_world.specs.declared.payload.Media.{Media}
use Rattle.kms_world.specs.declared.payload.Media.TheVariants as media
use Rattle.kms_world.specs.declared.order.Cause.{Cause}
use Rattle.kms_world.specs.declared.order.Cause.TheVariants as causes
use Rattle.kms_record.specs.declared.read_error.ReadError.{ReadError}
use Rattle.kms_record.specs.declared.read_error.ReadError.TheVariants as errors
use Rattle.kms_record.specs.declared.read_error.Malformed.{Malformed}

-- what a function that takes no memory returned, seen by view, is what reading gives
abbrev pub Finds : {X Y : Type 0} → (X → Y) → Result X Malformed → Option Y → Type 0
Finds view (Ok x) read = read ≡ Some (view x)
Finds view (Err e) read = read ≡ None

-- what a function returned, seen by view, is what reading gives, unless memory ran out
abbrev pub Fails : {Y : Type 0} → ReadError → Option Y → Type 0
Fails errors.NoMemory read = Unit {0}
Fails errors.Malformed read = read ≡ None

abbrev pub Gives : {X Y : Type 0} → (X → Y) → Result X ReadError → Option Y → Type 0
Gives view (Ok x) read = read ≡ Some (view x)
Gives view (Err e) read = Fails e read

infixl 10 ◌>>=◌
abbrev pub ◌>>=◌ : {A B : Type 0} → Option A → (A → Option B) → Option B
o >>= f = option_and_then f o

abbrev pub Read : Type 0 → Type 0
Read A = List ℕ → Option (A × List ℕ)

unfoldable pub taken : ℕ → Read (List ℕ)
taken n bytes = if nat_lt (length bytes) n then None else Some (take n bytes, drop n bytes)

unfoldable pub byte_at : Read ℕ
byte_at [] = None
byte_at (b ∷ bytes) = Some (b, bytes)

unfoldable pub number_at : Width → Read ℕ
number_at w bytes = do
  n ← taken (byte_len w) bytes
  Some (from_be_bytes w n.0, n.1)

-- a value that passes a test
abbrev pub passing : {A : Type 0} → (A → Bool) → Read A → Read A
passing {A} test read bytes = do
  x ← read bytes
  if test x.0 then Some x else None

abbrev pub id_at : Read ℕ
id_at = passing (λ n. nat_lt n (2 ^ 62)) (number_at w64)

abbrev pub time_at : Read ℕ
time_at = passing (λ n. nat_lt n end_of_times) (number_at w64)

abbrev pub bit_length_at : Read ℕ
bit_length_at = passing (λ n. nat_le 1 n && nat_le n 32767) (number_at w16)

unfoldable pub text_at : Read (List ℕ)
text_at bytes = do
  n ← number_at w16 bytes
  taken n.0 n.1

abbrev pub short_text_at : Read (List ℕ)
short_text_at = passing (λ t. nat_le (length t) 255 && is_utf8 t) text_at

abbrev pub name_at : Read (List ℕ)
name_at = passing is_name text_at

unfoldable pub long_text_at : Read (List ℕ)
long_text_at bytes = do
  n ← number_at w32 bytes
  taken n.0 n.1

abbrev pub token_at : Read (List ℕ)
token_at = passing (λ t. nat_le 100 (length t) && nat_le (length t) 26764) long_text_at

-- a value that a number of one byte stands for
unfoldable pub coded_at : {A : Type 0} → (ℕ → Option A) → Read A
coded_at {A} value_of bytes = do
  n ← byte_at bytes
  value ← value_of n.0
  Some (value, n.1)

abbrev pub secret_kind_of : ℕ → Option SecretKind
secret_kind_of n =
    if n == 0 then Some secrets.Symmetric else
    if n == 1 then Some secrets.Public else
    if n == 2 then Some secrets.Private else
    if n == 3 then Some secrets.Passphrase else
    if n == 4 then Some secrets.Certificate else
    if n == 5 then Some secrets.Opaque else None

abbrev pub secret_kind_at : Read SecretKind
secret_kind_at = coded_at secret_kind_of

abbrev pub container_kind_of : ℕ → Option ContainerKind
container_kind_of n =
    if n == 0 then Some containers.Generic else
    if n == 1 then Some containers.Rsa else
    if n == 2 then Some containers.Certificate else None

abbrev pub container_kind_at : Read ContainerKind
container_kind_at = coded_at container_kind_of

abbrev pub media_of : ℕ → Option Media
media_of n =
    if n == 0 then Some media.TextPlain else
    if n == 1 then Some media.OctetStream else None

abbrev pub media_at : Read Media
media_at = coded_at media_of

abbrev pub cause_of : ℕ → Option Cause
cause_of n =
    if n == 0 then Some causes.Unsupported else
    if n == 1 then Some causes.QuotaReached else
    if n == 2 then Some causes.IdsSpent else None

abbrev pub cause_at : Read Cause
cause_at = coded_at cause_of

-- whether a value follows
unfoldable pub mark_at : Read Bool
mark_at bytes = do
  n ← byte_at bytes
  if n.0 == 0 then Some (false, n.1) else if n.0 == 1 then Some (true, n.1) else None

unfoldable pub option_at : {A : Type 0} → Read A → Read (Option A)
option_at {A} read bytes = do
  mark ← mark_at bytes
  if mark.0 then (read mark.1 >>= λ x. Some (Some x.0, x.1)) else Some (None, mark.1)

-- one value, and another after it
abbrev pub both : {A B : Type 0} → Read A → Read B → Read (A × B)
both {A} {B} first second bytes = do
  a ← first bytes
  b ← second a.1
  Some ((a.0, b.0), b.1)

-- so many values, one after the other
unfoldable pub many : {A : Type 0} → Read A → ℕ → Read (List A)
many {A} read zero bytes = Some ([], bytes)
many {A} read (suc n) bytes = do
  first ← read bytes
  others ← many read n first.1
  Some (first.0 ∷ others.0, others.1)

-- a value that is spelled with nothing
abbrev pub nothing_at : {A : Type 0} → A → Read A
nothing_at x bytes = Some (x, bytes)

-- the first of the alternatives whose number a byte is
abbrev pub chosen_at : {A : Type 0} → ℕ → List (ℕ × Read A) → Read A
chosen_at {A} n [] bytes = None
chosen_at {A} n (first ∷ others) bytes = if n == first.0 then first.1 bytes else chosen_at n others bytes

unfoldable pub alternatives_at : {A : Type 0} → List (ℕ × Read A) → Read A
alternatives_at {A} alternatives bytes = do
  n ← byte_at bytes
  chosen_at n.0 alternatives n.1

-- a count of at most 100
abbrev pub list_count_at : Read ℕ
list_count_at = passing (λ n. nat_le n 100) byte_at

-- the count, and so many values
unfoldable pub list_at : {A : Type 0} → Read A → Read (List A)
list_at {A} read bytes = do
  n ← list_count_at bytes
  many read n.0 n.1

-- each value passes a test with each one after it
abbrev pub pairwise : {A : Type 0} → (A → A → Bool) → List A → Bool
pairwise {A} test [] = true
pairwise {A} test (x ∷ xs) = list_all (test x) xs && pairwise test xs

-- a value made of another
abbrev pub made_of : {A B : Type 0} → (A → B) → Read A → Read B
made_of {A} {B} make read bytes = do
  x ← read bytes
  Some (make x.0, x.1)
