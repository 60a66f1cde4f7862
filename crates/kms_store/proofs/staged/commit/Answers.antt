use Rattle.std.proofs.Common.{◌∙◌, ap, ℕ, ◌^◌, ◌<◌, length, drop, arith, length-drop, take}
use Rattle.kms_host.proofs.Moments.{tells_weaker}
use Rattle.kms_store.proofs.SettleLaws.{framed_is, commits_so, moved_so, staged_is_framed, reopened}
use Rattle.kms_store.proofs.staged.commit.Goals as goal

pub commit-committed-requires-clause-framed : goal.commit-committed-requires-clause-framed
commit-committed-requires-clause-framed g c =
    let steps = drop 8 c.args.buffer.now.items in
    let short : length steps < 2 ^ 27 = omega (arith, c.requires.short, c.requires.head, length-drop 8 c.args.buffer.now.items) in
    staged_is_framed c.args.count steps c.deref.result.now (c.deref.ensures.value ∙ framed_is c.args.count steps _ c.close.ensures.items) short

pub returns-clause-steps : goal.returns-clause-steps
returns-clause-steps g c = (reopened _ c.args.count c.args.buffer.now.items c.close.new.buffer.items _ c.requires.head c.close.ensures.items (c.truncate.ensures.items ∙ ap (λ (n : ℕ). take n c.close.new.buffer.items) (ap length c.as_slice-len.ensures.value))).1

pub returns-clause-len : goal.returns-clause-len
returns-clause-len g c = (reopened _ c.args.count c.args.buffer.now.items c.close.new.buffer.items _ c.requires.head c.close.ensures.items (c.truncate.ensures.items ∙ ap (λ (n : ℕ). take n c.close.new.buffer.items) (ap length c.as_slice-len.ensures.value))).0

pub returns-clause-told : goal.returns-clause-told
returns-clause-told g c =
    tells_weaker _ c.commit-committed.ensures.told
    (λ was now k s placed. commits_so _ _ _ _ _ s was now (c.deref.ensures.value ∙ framed_is c.args.count (drop 8 c.args.buffer.now.items) _ c.close.ensures.items) (k s placed))

pub returns-clause-moved : goal.returns-clause-moved
returns-clause-moved g c =
    moved_so c.commit-committed.result c.args.journal.now c.commit-committed.new.self _ _ (c.deref.ensures.value ∙ framed_is c.args.count (drop 8 c.args.buffer.now.items) _ c.close.ensures.items) c.commit-committed.ensures.moved
