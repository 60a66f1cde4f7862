use Rattle.std.proofs.Common.{◌≡◌, ◌<◌, ℕ, List, length, is_some, true, refl, sym, subst}
use Rattle.http.specs.StatusCode.{reason_phrase}
use Rattle.kms_host.proofs.Moments.{since_weaker}
use Rattle.kms_json.proofs.Phrases.{reason_phrase-reply_of}
use Rattle.kms_world.specs.declared.reply.Reply.{Reply}
use Rattle.kms_serve.proofs.PrepareLaws.{waits_by, waits_same, printed_some}
use Rattle.kms_core.specs.Steps.{HasState}
use Rattle.kms_model.specs.Requests.{asked_puts}
use Rattle.kms_world.specs.State.{State}
use Rattle.kms_serve.proofs.AskLaws.{draws_same, not_undrawn}
use Rattle.kms_serve.specs.Owed.{DrawsFor, is_undrawn}
use Rattle.kms_serve.specs.Requests.{request_of}
use Rattle.kms_serve.proofs.prepare.respond.Goals as goal

pub returns-in_err-reply-clause-waits : goal.returns-in_err-reply-clause-waits
returns-in_err-reply-clause-waits g c = (0, waits_same _ _ c.in_ok-answer.ensures.store c.in_ok-answer.ensures.same)

pub returns-in_err-bytes-clause-waits : goal.returns-in_err-bytes-clause-waits
returns-in_err-bytes-clause-waits g c = (0, waits_same _ _ c.in_ok-answer.ensures.store c.in_ok-answer.ensures.same)

pub returns-clause-waits : goal.returns-clause-waits
returns-clause-waits g c = (_, waits_by _ _ _ _ _ c.in_ok-answer.ensures.store c.in_ok-answer.ensures.same refl c.take_over.ensures.waits)

pub print-requires-clause-status : goal.print-requires-clause-status
print-requires-clause-status g c =
    subst (λ (r : Reply). is_some (reason_phrase r.status) ≡ true) (sym c.in_ok-reply.ensures)
    (reason_phrase-reply_of c.args.endpoint.now c.in_ok-answer.field-0.answer c.in_ok-answer.ensures.form)

pub returns-in_err-reply-clause-told : goal.returns-in_err-reply-clause-told
returns-in_err-reply-clause-told g c =
    since_weaker
    (λ was calls. (s : State) → HasState c.args.engine.now s → DrawsFor (asked_puts s (request_of c.args.served.now) c.args.moment) (is_undrawn c.from_residual-in_err-reply.result) calls)
    c.in_ok-answer.ensures.told
    (λ was calls h s has. draws_same s _ _ c.args.moment _ calls c.in_ok-request.ensures (not_undrawn c.from_residual-in_err-reply.result c.from_residual-in_err-reply.ensures.1) (h s has))

pub returns-in_err-bytes-clause-told : goal.returns-in_err-bytes-clause-told
returns-in_err-bytes-clause-told g c =
    since_weaker
    (λ was calls. (s : State) → HasState c.args.engine.now s → DrawsFor (asked_puts s (request_of c.args.served.now) c.args.moment) (is_undrawn c.from_residual-in_err-bytes.result) calls)
    c.in_ok-answer.ensures.told
    (λ was calls h s has. draws_same s _ _ c.args.moment _ calls c.in_ok-request.ensures (not_undrawn c.from_residual-in_err-bytes.result c.from_residual-in_err-bytes.ensures.1) (h s has))

pub returns-clause-some : goal.returns-clause-some
returns-clause-some g c = subst (λ (z : List ℕ). 0 < length z) (sym c.in_ok-bytes.ensures) (printed_some _ _ _)
