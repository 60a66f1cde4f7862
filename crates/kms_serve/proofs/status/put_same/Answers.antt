use Rattle.std.proofs.Common.{ℕ, List, ap, take, codes, append_assoc, ◌++◌, ◌∙◌}
use Rattle.kms_serve.proofs.status.put_same.Goals as goal

pub returns-clause-text : goal.returns-clause-text
returns-clause-text c =
    let front : List ℕ = take c.args.at c.args.room.now in
    c.put.ensures.text ∙ ap (λ (z : List ℕ). z ++ c.as_bytes.result.now) c.put-at.ensures.text ∙ append_assoc front (codes "same as line ") c.as_bytes.result.now
    ∙ ap (λ (z : List ℕ). front ++ (codes "same as line " ++ z)) (c.as_bytes.ensures.value ∙ c.format.ensures.text)
