use Rattle.std.proofs.Common.{◌≡◌, List, ℕ, length, take, drop, arith, sym, subst, ap, ◌∙◌}
use Rattle.std.proofs.lemmas.List.{take_at}
use Rattle.kms_fernet.specs.Token.{Opens}
use Rattle.kms_fernet.proofs.opening.unseal.Goals as goal

pub returns-in-Err-clause-none : goal.returns-in-Err-clause-none
returns-in-Err-clause-none c = λ _ plain o.
    c.in-Err.ensures.none plain (subst (λ (k : List ℕ). Opens k c.args.token.now plain) (sym c.key.view_is) o)

pub returns-in-Ok-open_into-clause-only : goal.returns-in-Ok-open_into-clause-only
returns-in-Ok-open_into-clause-only c =
    let kept = c.open_into.auto.room in
    let lent = c.deref_mut.ensures.len in
    let now = c.open_into.new.room in
    let size : length now ≡ c.in-Ok.room.len = omega arith in
    λ other o.
    c.in-Ok-open_into.ensures.only other (subst (λ (k : List ℕ). Opens k c.args.token.now other) (sym c.key.view_is) o)
    ∙ sym (c.from_vec.ensures ∙ c.truncate.ensures.items
    ∙ ap (take c.in-Ok-open_into.len) (take_at now (drop (length now) c.in-Ok.room.items) c.in-Ok.room.len size))
