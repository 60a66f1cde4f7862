use Rattle.std.proofs.Common.{◌≡◌, ℕ, List, Option, IfOk, ap, subst, ◌∙◌}
use Rattle.kms_secret.specs.Ascending.{if_ascending}
use Rattle.kms_secret.specs.Metadata.{by_key, kept}
use Rattle.kms_secret.proofs.KeyLaws.{kept_is}
use Rattle.kms_secret.proofs.metadata.by_key.Goals as goal

pub returns : goal.returns
returns c =
    let whole : if_ascending c.sort_by_key.new.pairs.items ≡ kept c.args.pairs.now =
    ap if_ascending (c.in_ok-sort_by_key.ensures ∙ ap by_key c.in_ok-all.ensures) ∙ kept_is c.args.pairs.now in
    subst (λ (pairs : Option (List (List ℕ × List ℕ))). IfOk c.ascending.result (λ found. found ≡ pairs)) whole c.ascending.ensures
