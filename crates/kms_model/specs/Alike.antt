-- States that differ in the bytes of payloads alone: what is kept, and what it opens to.
use Rattle.std.specs.Prelude.{◌≡◌, ℕ, Bool, true, false, List, map, Option, Some, option_map, Ok}
use Rattle.kms_world.specs.Secret.{without_bytes}
use Rattle.kms_world.specs.State.{State}
use Rattle.kms_world.specs.declared.caller.Caller.{Caller}
use Rattle.kms_world.specs.declared.id.Id.{Id}
use Rattle.kms_world.specs.declared.operation.Op.{Op}
use Rattle.kms_world.specs.declared.operation.Op.TheVariants.{GetPayload}
use Rattle.kms_world.specs.declared.secret.SecretRow.{SecretRow}
use Rattle.kms_model.specs.Done.{Done}
use Rattle.kms_model.specs.Payloads.{IsPayloadRead, payload_shown}
use Rattle.kms_model.specs.Secrets.{live_secret}

-- the secret without the bytes of its payload
abbrev pub hidden : SecretRow → SecretRow
hidden row = record row { payload = option_map without_bytes row.payload }

abbrev pub hide : State → State
hide s = record s { secrets = map hidden s.secrets }

abbrev pub Alike : State → State → Type 0
Alike a b = hide a ≡ hide b

-- the operation shows a payload
abbrev pub shows_payload : Op → Bool
shows_payload (GetPayload id accept) = true
shows_payload op = false

-- Both states show a payload: that of the secret which each has under the id, and these differ in the bytes of their payloads alone.
pub record IsShownByBoth (a b : State) (caller : Caller) (id : Option Id) (accept : Option (List ℕ)) (t : ℕ) (done : Done) : Type 0 where
  pub row : SecretRow
  pub found : live_secret a id t ≡ Some row
  pub read : IsPayloadRead accept row done
  pub other : SecretRow
  pub also : live_secret b id t ≡ Some other
  pub alike : hidden row ≡ hidden other
  pub other_done : Done
  pub other_read : IsPayloadRead accept other other_done
  pub shown : payload_shown b caller id accept t ≡ Ok other_done
