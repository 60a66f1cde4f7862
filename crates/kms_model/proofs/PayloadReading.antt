-- What follows for a payload that is posted, and for one that is read.
use Rattle.std.proofs.Common.{◌≡◌, ℕ, Bool, true, false, List, [], ◌∷◌, ◌++◌, refl, ap, subst}
use Rattle.std.specs.Prelude.{Option, Some, None, Result, Ok, Err}
use Rattle.std.specs.List.{AllByRecursion}
use Rattle.std.proofs.lemmas.Bool.{eq-eqb}
use Rattle.kms_world.specs.Effect.{change_rows}
use Rattle.kms_world.specs.Id.{is_id}
use Rattle.kms_world.specs.declared.id.Id.{Id}
use Rattle.kms_world.specs.declared.payload.Payload.{Payload}
use Rattle.kms_world.specs.declared.refusal.Refusal.{Refusal}
use Rattle.kms_world.specs.declared.refusal.Refusal.TheVariants.{NoObject, NotAcceptable}
use Rattle.kms_world.specs.declared.secret.SecretRow.{SecretRow}
use Rattle.kms_world.specs.declared.answer.Answer.TheVariants as answers
use Rattle.kms_model.specs.Done.{Done, ◌>>=◌, only_if, there}
use Rattle.kms_model.specs.Accept.{admits}
use Rattle.kms_model.specs.Payloads.{payload_read, type_of, IsPayloadRead}

-- the new row alone gets the payload
pub last_changed : (id : Id) (f : SecretRow → SecretRow) (row : SecretRow) (rows : List SecretRow) → is_id id row.id ≡ true → AllByRecursion (λ (other : SecretRow). is_id id other.id ≡ false) rows
    → change_rows (λ (r : SecretRow). is_id id r.id) f (rows ++ row ∷ []) ≡ rows ++ f row ∷ []
last_changed id f row [] at apart = rw at refl
last_changed id f row (x ∷ rows) at apart = rw (apart.0) (ap (λ (rest : List SecretRow). x ∷ rest) (last_changed id f row rows at apart.1))

pub same_id : (id : Id) → is_id id id ≡ true
same_id id = eq-eqb id.0 id.0 refl

-- the tests of a reading, in their order
abbrev reading : (accept : Option (List ℕ)) → Option Payload → Result Done Refusal
reading accept found = do
  payload ← there found
  taken ← only_if (admits accept (type_of payload.media)) NotAcceptable
  Ok (record { answer = answers.Payload payload; effects = [] })

accepted_read : (accept : Option (List ℕ)) (row : SecretRow) (payload : Payload) (taken : Bool) (done : Done) → row.payload ≡ Some payload → admits accept (type_of payload.media) ≡ taken
    → (only_if taken NotAcceptable >>= λ yes. Ok (record { answer = answers.Payload payload; effects = [] })) ≡ Ok done → IsPayloadRead accept row done
accepted_read accept row payload false done has is read = absurd cc
accepted_read accept row payload true done has is read =
    let same : (let d : Done = record { answer = answers.Payload payload; effects = [] } in d) ≡ done = cc in
    subst (IsPayloadRead accept row) same (record { payload = payload; has = has; accepted = is; answer = refl; effects = refl })

by_payload : (accept : Option (List ℕ)) (row : SecretRow) (found : Option Payload) (done : Done) → row.payload ≡ found → reading accept found ≡ Ok done → IsPayloadRead accept row done
by_payload accept row None done has read = absurd cc
by_payload accept row (Some payload) done has read = accepted_read accept row payload (admits accept (type_of payload.media)) done has refl read

pub read_is : (accept : Option (List ℕ)) (row : SecretRow) (done : Done) → payload_read accept row ≡ Ok done → IsPayloadRead accept row done
read_is accept row done read = by_payload accept row row.payload done refl read

pub no_payload : (accept : Option (List ℕ)) (row : SecretRow) → row.payload ≡ None → payload_read accept row ≡ Err NoObject
no_payload accept row none = rw none refl
