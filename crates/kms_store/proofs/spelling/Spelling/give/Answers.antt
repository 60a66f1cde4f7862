use Rattle.std.proofs.Common.{◌≡◌, ◌-◌, ◌+◌, ◌≤◌, ℕ, length, ◌∙◌, arith, length-drop}
use borrow.Rule.Slice.PartMut.{put_mid}
use Rattle.kms_store.proofs.SpellingLaws.{more_given, length-put}
use Rattle.kms_store.proofs.spelling.Spelling.give.Goals as goal

pub loop-at-preserved : goal.loop-at-preserved
loop-at-preserved c =
    let at = c.loop-at.at in
    let room = c.loop-at.room in
    let part = c.give_some-more.new.room in
    let n = c.give_some-more.result in
    let size : length part ≡ length room - at = omega (arith, c.give_some-more.auto.room, length-drop at room, c.loop-at.invariant.within) in
    let same = length-put room part at c.loop-at.invariant.within size in
    record {
      given = more_given _ _ _ room part at n (length room - at) c.loop-at.invariant.given c.loop-at.invariant.within c.give_some-more.ensures.bound c.give_some-more.ensures.given;
      within = omega (arith, same, size, c.give_some-more.ensures.bound, c.loop-at.invariant.within);
      same = same ∙ c.loop-at.invariant.same;
    }
