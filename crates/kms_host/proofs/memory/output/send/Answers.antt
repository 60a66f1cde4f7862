use Rattle.std.proofs.Common.{◌≡◌, ℕ, ◌==◌, Ok, Err, position, List, ap, ◌∙◌}
use Rattle.std.specs.Prelude.{Result, OnOk}
use Rattle.kms_host.proofs.OutputLaws.{sent_more, sent_first}
use Rattle.kms_host.proofs.memory.output.send.Goals as goal

-- what was there with this piece more, where there was memory
pushed : {E : Type 0} (result : Result (Unit {0}) E) (bytes all : List ℕ) (P : Type 0) → OnOk result (bytes ≡ all) → (bytes ≡ all → P) → OnOk result P
pushed (Ok x) bytes all P is step = step is
pushed (Err e) bytes all P is step = tt

pub returns-in-Some-clause-ok : goal.returns-in-Some-clause-ok
returns-in-Some-clause-ok c =
    pushed c.push_all.result _ _ _ c.push_all.ensures.ok
    (λ grown.
    sent_more c.args.line c.in-Some.place c.args.outputs.now.items _ c.index_mut.result.now c.push_all.new.self c.args.piece.now
    (c.in-Some.ensures ∙ ap (position (λ o. o.0 == c.args.line)) c.deref.ensures.value) c.index_mut.ensures.value grown)

pub returns-in_ok-push-in-None-clause-ok : goal.returns-in_ok-push-in-None-clause-ok
returns-in_ok-push-in-None-clause-ok c =
    rw (c.in_ok-push-in-None.ensures.items, c.in_ok-of-in-None.ensures)
    (sent_first c.args.line c.args.outputs.now.items c.args.piece.now (c.in-None.ensures ∙ ap (position (λ o. o.0 == c.args.line)) c.deref.ensures.value))
