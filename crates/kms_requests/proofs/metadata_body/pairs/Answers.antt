use Rattle.std.proofs.Common.{rules, ◌≡◌, [], ◌∷◌, ◌++◌, Ok, string_bytes, sym, ap, ◌∙◌}
use Rattle.serde_json.specs.View.{view, members_view}
use Rattle.kms_requests.specs.Fields.{said_map}
use Rattle.kms_requests.specs.MetadataBody.{Pairs, pair_of, pair_texts}
use Rattle.kms_requests.proofs.ListLaws.{one_pair}
use Rattle.kms_requests.proofs.metadata_body.pairs.Goals as goal

pub loop-key-preserved : goal.loop-key-preserved
loop-key-preserved c =
    let old = c.loop-key.pairs in
    let p = c.in_ok-next.next in
    let here : pair_of c.args.field (string_bytes c.in-Some.key.now) (view c.in-Some.value.now) ≡ Ok p = search rules in
    let grown : c.push.new.self ≡ old ++ p ∷ [] = search rules in
    let step = one_pair c.args.field old c.in-Some.key.now c.in-Some.value.now p c.loop-key.key-iterator c.next.new.self c.in-Some.ensures.steps here in
    ap (λ (items : Pairs). said_map (λ (o : Pairs). items ++ o) (pair_texts c.args.field (members_view c.next.new.self))) grown
    ∙ sym step ∙ c.loop-key.invariant
