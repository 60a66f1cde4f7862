-- Payloads that are shown.
use Rattle.std.specs.Prelude.{◌≡◌, Option, Some}
use Rattle.kms_kept.specs.Kept.{Kept}
use Rattle.kms_opened.specs.Opened.{OpensPayload}
use Rattle.kms_world.specs.LookUp.{secret_of}
use Rattle.kms_world.specs.declared.answer.Answer.{Answer}
use Rattle.kms_world.specs.declared.answer.Answer.TheVariants as answers
use Rattle.kms_world.specs.declared.id.Id.{Id}
use Rattle.kms_world.specs.declared.payload.Payload.{Payload}
use Rattle.kms_world.specs.declared.secret.SecretRow.{SecretRow}
use Rattle.kms_core.specs.Steps.{Held}

-- a secret with this id is kept, and has a payload
pub record IsShowable (kept : Kept) (id : Id) : Type 0 where
  pub row : SecretRow
  pub found : secret_of id kept.state.secrets ≡ Some row
  pub sealed : Payload
  pub has : row.payload ≡ Some sealed

-- The answer is the payload to which that of the secret opens, and to no other.
pub record ShowsPayload (engine : Held) (id : Id) (answer : Answer) : Type 0 where
  pub row : SecretRow
  pub found : secret_of id engine.store.stored.kept.state.secrets ≡ Some row
  pub plain : Payload
  pub opens : OpensPayload engine.masters engine.store.stored.kept.keys row.project row.payload (Some plain)
  pub only : (other : Option Payload) → OpensPayload engine.masters engine.store.stored.kept.keys row.project row.payload other → other ≡ Some plain
  pub is : answer ≡ answers.Payload plain
