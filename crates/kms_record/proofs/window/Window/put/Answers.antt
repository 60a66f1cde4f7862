use Rattle.std.proofs.Common.{rules}
use Rattle.kms_record.specs.Window.{shown}
use Rattle.kms_record.proofs.WindowLaws.{put_shows}
use Rattle.kms_record.proofs.window.Window.put.Goals as goal

pub returns : goal.returns
unfolding shown
returns c =
    rw (← c.self.view_is) (put_shows 1024 c.self.inside.unseen c.self.inside.count c.min-passed.result c.min-more.result _ c.self.inside.bytes c.args.piece.now c.copy_from_slice.new.self
    c.self.invariant (search rules) c.min-passed.ensures c.min-more.ensures c.copy_from_slice.ensures.after)
