-- Payloads that are put and shown.
use Rattle.std.proofs.Common.{◌≡◌, ℕ, Bool, true, false, not, List, [], Option, Some, None, Result, Ok, refl, sym, ap, subst, ◌∙◌}
use Rattle.std.specs.Prelude.{is_none, is_some, option_map}
use Rattle.kms_kept.specs.Kept.{Kept}
use Rattle.kms_model.specs.Accept.{admits}
use Rattle.kms_model.specs.Done.{Done, ◌>>=◌, only_if, there}
use Rattle.kms_model.specs.Payloads.{payload_read, payload_shown, type_of}
use Rattle.kms_model.specs.Secrets.{live_secret, secret_for}
use Rattle.kms_record.specs.Base.{count_of}
use Rattle.kms_store.specs.KeptSecret.{token_alone, without_number}
use Rattle.kms_world.specs.Id.{id_at}
use Rattle.kms_world.specs.LookUp.{secret_of}
use Rattle.kms_world.specs.State.{State}
use Rattle.kms_world.specs.declared.action.Action.TheVariants.{SecretDecrypt}
use Rattle.kms_world.specs.declared.answer.Answer.TheVariants as answers
use Rattle.kms_world.specs.declared.caller.Caller.{Caller}
use Rattle.kms_world.specs.declared.id.Id.{Id}
use Rattle.kms_world.specs.declared.payload.Payload.{Payload}
use Rattle.kms_world.specs.declared.refusal.Refusal.{Refusal}
use Rattle.kms_world.specs.declared.refusal.Refusal.TheVariants.{NotAcceptable}
use Rattle.kms_world.specs.declared.secret.SecretRow.{SecretRow}
use Rattle.kms_operations.specs.Found.{IsKeptSecret}

-- ---- a payload that is shown

-- the tests of a reading
abbrev reading : (accept : Option (List ℕ)) → Option Payload → Result Done Refusal
reading accept found = do
  payload ← there found
  taken ← only_if (admits accept (type_of payload.media)) NotAcceptable
  Ok (record { answer = answers.Payload payload; effects = [] })

abbrev IsRead : Result Done Refusal → Type 0
IsRead result = (x : Payload) × (result ≡ Ok (record { answer = answers.Payload x; effects = [] }))

read_of : (accept : Option (List ℕ)) (kept : Option Payload) (token : Payload) → option_map token_alone kept ≡ Some token → admits accept (type_of token.media) ≡ true → IsRead (reading accept kept)
read_of accept None token is taken = absurd cc
read_of accept (Some payload) token is taken =
    let same : token_alone payload ≡ token = cc in
    let here : admits accept (type_of payload.media) ≡ true = subst (λ (p : Payload). admits accept (type_of p.media) ≡ true) (sym same) taken in
    (payload, rw here refl)

pub shown_by : (s : State) (caller : Caller) (id : Option Id) (at : Id) (accept : Option (List ℕ)) (t : ℕ) (found : Option SecretRow) (row shown : SecretRow) (token : Payload) → id ≡ Some at → found ≡ live_secret s (Some at) t → secret_for s caller SecretDecrypt found ≡ Ok row
    → shown ≡ without_number row → shown.payload ≡ Some token → admits accept (type_of token.media) ≡ true → IsRead (payload_shown s caller id accept t)
shown_by s caller id at accept t found row shown token is live granted seen has taken =
    let here : secret_for s caller SecretDecrypt (live_secret s id t) ≡ Ok row =
    subst (λ (i : Option Id). secret_for s caller SecretDecrypt (live_secret s i t) ≡ Ok row) (sym is) (subst (λ (o : Option SecretRow). secret_for s caller SecretDecrypt o ≡ Ok row) live granted) in
    let read = read_of accept row.payload token (sym (ap (λ (r : SecretRow). r.payload) seen) ∙ has) taken in
    (read.0, ap (λ (r : Result SecretRow Refusal). r >>= payload_read accept) here ∙ read.1)

-- a secret that is kept without a payload is shown so
hidden_none : (payload : Option Payload) → is_none (option_map token_alone payload) ≡ is_none payload
hidden_none None = refl
hidden_none (Some payload) = refl

none_shown : (row shown : SecretRow) → shown ≡ without_number row → is_none row.payload ≡ is_none shown.payload
none_shown row shown seen = sym (hidden_none row.payload) ∙ sym (ap (λ (r : SecretRow). is_none r.payload) seen)

some_or_none : (payload : Option Payload) (b : Bool) → is_some payload ≡ b → is_none payload ≡ not b
some_or_none None true is = absurd cc
some_or_none None false is = refl
some_or_none (Some payload) true is = refl
some_or_none (Some payload) false is = absurd cc

is_nothing : (payload : Option Payload) → is_none payload ≡ true → payload ≡ None
is_nothing None is = refl
is_nothing (Some payload) is = absurd cc

-- ---- a payload that is put

-- its secret is kept, and has none
pub secret_for_put : (kept : Kept) (n : ℕ) (row shown : SecretRow) → shown ≡ without_number row → is_some shown.payload ≡ false → IsKeptSecret kept row → n ≡ count_of shown.id
    → (secret_of (id_at kept.state.tag n) kept.state.secrets ≡ Some row) × (row.payload ≡ None) × (shown.project ≡ row.project)
secret_for_put kept n row shown seen none is count =
    let counted : n ≡ count_of row.id = count ∙ ap (λ (r : SecretRow). count_of r.id) seen in
    let at : row.id ≡ id_at kept.state.tag n = sym (ap (λ (m : ℕ). id_at kept.state.tag m) counted ∙ is.is.id) in (
      subst (λ (i : Id). secret_of i kept.state.secrets ≡ Some row) at is.here,
      is_nothing row.payload (none_shown row shown seen ∙ some_or_none shown.payload false none),
      ap (λ (r : SecretRow). r.project) seen,
    )
