-- The tests before a payload that is put, and before one that is shown.
use Rattle.std.proofs.Common.{◌≡◌, ℕ, true, false, true≢false, List, [], ◌∷◌, Option, Some, Result, Ok, Err, sym, ap, subst, ◌∙◌}
use Rattle.std.specs.Prelude.{is_none, IsErr}
use Rattle.kms_policy.specs.Laws.{audit_alone}
use Rattle.kms_policy.specs.Policy.{decision, is_listed}
use Rattle.kms_policy.proofs.PolicyLaws.{audit_without_payload}
use Rattle.kms_secret.specs.Payload.{checked_payload}
use Rattle.kms_world.specs.Effect as effects
use Rattle.kms_world.specs.State.{State}
use Rattle.kms_world.specs.declared.action.Action.TheVariants.{SecretDecrypt, SecretWrite}
use Rattle.kms_world.specs.declared.action.Rule.{Rule}
use Rattle.kms_world.specs.declared.answer.Answer.TheVariants as answers
use Rattle.kms_world.specs.declared.caller.Caller.{Caller}
use Rattle.kms_world.specs.declared.id.Id.{Id}
use Rattle.kms_world.specs.declared.operation.PutShape.{PutShape}
use Rattle.kms_world.specs.declared.payload.Payload.{Payload}
use Rattle.kms_world.specs.declared.refusal.Refusal.{Refusal}
use Rattle.kms_world.specs.declared.refusal.Refusal.TheVariants.{Conflict}
use Rattle.kms_world.specs.declared.secret.SecretRow.{SecretRow}
use Rattle.kms_model.specs.Done.{Done, ◌>>=◌, only_if}
use Rattle.kms_model.specs.Payloads.{payload_put, payload_read, payload_shown}
use Rattle.kms_model.specs.Permission.{granted, granted_by}
use Rattle.kms_model.specs.Secrets.{live_secret, secret_for, secret_target}
use Rattle.kms_model.proofs.SecretLaws.{gave, held}

row_same : (x y : SecretRow) → (let a : Result SecretRow Refusal = Ok x in let b : Result SecretRow Refusal = Ok y in a ≡ b) → x ≡ y
row_same x y e = cc

-- the tests behind the look-up
abbrev putting : State → Caller → PutShape → (body : List ℕ) → ℕ → Option SecretRow → Result Done Refusal
putting s caller put body t found = do
  row ← secret_for s caller SecretWrite found
  payload ← checked_payload put body
  first ← only_if (is_none row.payload) Conflict
  Ok (record { answer = answers.Empty 204; effects = effects.PayloadPut row.id t payload ∷ [] })

pub put_once : (s : State) (caller : Caller) (id : Option Id) (put : PutShape) (body : List ℕ) (t : ℕ) (row : SecretRow) (payload : Payload) (done : Done) → live_secret s id t ≡ Some row → row.payload ≡ Some payload
    → payload_put s caller id put body t ≡ Ok done → ⊥
put_once s caller id put body t row payload done found has is =
    let here : putting s caller put body t (Some row) ≡ Ok done = subst (λ (o : Option SecretRow). putting s caller put body t o ≡ Ok done) found is in
    let g = gave (secret_for s caller SecretWrite (Some row)) _ done here in
    let m = gave (granted caller SecretWrite (Some (secret_target s row))) _ g.0 g.1 in
    let p = gave (checked_payload put body) _ done g.2 in
    let c = gave (only_if (is_none g.0.payload) Conflict) _ done p.2 in
    let none : is_none g.0.payload ≡ true = held (is_none g.0.payload) Conflict c.0 c.1 in
    let none_here : is_none row.payload ≡ true = subst (λ (r : SecretRow). is_none r.payload ≡ true) (sym (row_same row g.0 m.2)) none in
    absurd (true≢false (sym none_here ∙ ap is_none has))

not_granted : (decided : Result (Unit {0}) Rule) (x : Unit {0}) → IsErr decided → granted_by decided ≡ Ok x → ⊥
not_granted (Ok y) x refused e = absurd cc
not_granted (Err rule) x refused e = absurd cc

pub audit_reads_none : (s : State) (caller : Caller) (id : Option Id) (accept : Option (List ℕ)) (t : ℕ) (row : SecretRow) (done : Done) → live_secret s id t ≡ Some row → caller.roles ≡ audit_alone
    → is_listed (Some (secret_target s row)) caller.user ≡ false → payload_shown s caller id accept t ≡ Ok done → ⊥
audit_reads_none s caller id accept t row done found roles unlisted is =
    let here = subst (λ (o : Option SecretRow). (secret_for s caller SecretDecrypt o >>= payload_read accept) ≡ Ok done) found is in
    let g = gave (secret_for s caller SecretDecrypt (Some row)) (payload_read accept) done here in
    let m = gave (granted caller SecretDecrypt (Some (secret_target s row))) _ g.0 g.1 in
    not_granted (decision caller SecretDecrypt (Some (secret_target s row))) m.0 (audit_without_payload caller (Some (secret_target s row)) roles unlisted) m.1
