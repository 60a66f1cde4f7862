use Rattle.kms_serve.proofs.DrawLaws.{no_draw_marks}
use Rattle.kms_serve.proofs.laws.a_missing_draw_failed.Goals as goal

pub returns : goal.returns
returns c = λ start s calls run none. no_draw_marks start run.marks calls none run.are_marks
