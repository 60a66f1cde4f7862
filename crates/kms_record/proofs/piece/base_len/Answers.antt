use Rattle.std.proofs.Common.{◌∙◌, ap, arith}
use Rattle.std.specs.Prelude.{◌-◌, ℕ}
use Rattle.kms_record.specs.Base.{base_bytes}
use Rattle.kms_record.specs.Window.{Shown}
use Rattle.kms_record.proofs.PieceLaws.{base_is_short}
use Rattle.kms_record.proofs.WindowLaws.{passed_count}
use Rattle.kms_record.proofs.piece.base_len.Goals as goal

pub returns-clause-len : goal.returns-clause-len
returns-clause-len c =
    ap (λ (n : ℕ). 18446744073709551615 - n) c.unseen.ensures
    ∙ passed_count c.after-window.result c.write.new.out (base_bytes c.args.change.now) 18446744073709551615 c.write.ensures.spelled (ap (λ (s : Shown). s.unseen) c.after-window.ensures)
    (omega (arith, base_is_short c.args.change.now c.requires))
