use Rattle.std.proofs.Common.{◌∙◌, ap, cond}
use Rattle.std.specs.Prelude.{Bool, ◌||◌}
use Rattle.kms_host.specs.Memory.{next}
use Rattle.kms_host.proofs.RecordingLaws.{notes_kept}
use Rattle.kms_host.proofs.memory.log.Log.note.Goals as goal

pub returns : goal.returns
returns c =
    let was = c.self.inside in
    notes_kept was.calls.items c.keep-lost.new.calls.items was.tells c.keep-lost.new.tells was.wanted c.count_if.new.wanted c.args.call c.args.starved _ c.self.view_is c.keep-lost.ensures.told
    (c.count_if.ensures.count ∙ ap (λ (b : Bool). cond (c.args.starved || b) (next was.wanted) was.wanted) c.keep-lost.ensures.lost) c.count_if.ensures.later
