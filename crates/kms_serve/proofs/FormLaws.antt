-- Each answer of the plain key manager has a form as a reply.
use Rattle.std.proofs.Common.{◌≡◌, ℕ, inl, inr, true, refl, sym, subst}
use Rattle.std.specs.Prelude.{is_some}
use Rattle.http.specs.StatusCode.{reason_phrase}
use Rattle.kms_json.specs.Answer.{HasForm}
use Rattle.kms_model.proofs.StatusLaws.{has_status}
use Rattle.kms_model.specs.Requests.{asked_answer}
use Rattle.kms_model.specs.Statuses.{HasStatus, IsSuccess}
use Rattle.kms_world.specs.State.{State}
use Rattle.kms_world.specs.declared.answer.Answer.{Answer}
use Rattle.kms_world.specs.declared.answer.Answer.TheVariants.{Refused, Empty, Link, Secret, Payload, Metadata, Pair, Acl, Order, Container, Quotas, ProjectQuotas, List}
use Rattle.kms_world.specs.declared.operation.Request.{Request}
use Rattle.kms_world.specs.declared.operation.Request.TheVariants.{Asking, Refusing}

-- a status of success has a reason phrase
phrased : (status : ℕ) → IsSuccess status → is_some (reason_phrase status) ≡ true
phrased status (inl e) = subst (λ (n : ℕ). is_some (reason_phrase n) ≡ true) (sym e) refl
phrased status (inr (inl e)) = subst (λ (n : ℕ). is_some (reason_phrase n) ≡ true) (sym e) refl
phrased status (inr (inr (inl e))) = subst (λ (n : ℕ). is_some (reason_phrase n) ≡ true) (sym e) refl
phrased status (inr (inr (inr e))) = subst (λ (n : ℕ). is_some (reason_phrase n) ≡ true) (sym e) refl

formed : (answer : Answer) → HasStatus answer → HasForm answer
formed (Refused refusal) has = tt
formed (Empty status) has = phrased status has
formed (Link status link id) has = phrased status has
formed (Secret row) has = tt
formed (Payload payload) has = tt
formed (Metadata pairs) has = tt
formed (Pair status key value) has = phrased status has
formed (Acl row) has = tt
formed (Order row) has = tt
formed (Container view) has = tt
formed (Quotas row) has = tt
formed (ProjectQuotas row) has = tt
formed (List path query page total) has = tt

pub asked_form : (s : State) (request : Request) (t : ℕ) → HasForm (asked_answer s request t)
asked_form s (Asking caller op) t = formed (asked_answer s (Asking caller op) t) (has_status s caller op t)
asked_form s (Refusing refusal) t = tt
