use Rattle.std.proofs.Common.{◌≡◌, [], ◌∷◌, ◌++◌, take}
use Rattle.std.specs.Prelude.{codes, decimal}
use Rattle.form_urlencoded.specs.Form.{extend_pairs}
use Rattle.kms_page.proofs.links.link.Given as goal

abbrev pub invariant-loop-parameter : goal.invariant-loop-parameter
invariant-loop-parameter l =
    (l.form.prefix ≡ l.endpoint ++ l.path ++ codes "?")
    × (l.form.form ≡ extend_pairs [] ((codes "limit", decimal l.query.limit) ∷ (codes "offset", decimal l.offset) ∷ take l.parameter-index l.parameter-items))
