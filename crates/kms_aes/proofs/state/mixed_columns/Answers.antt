use Rattle.std.proofs.Common.{◌∙◌}
use Rattle.kms_aes.proofs.States.{mixed_state}
use Rattle.kms_aes.proofs.state.mixed_columns.Goals as goal

pub returns : goal.returns
returns c =
    c.joined.ensures
    ∙ mixed_state c.args.s.now _ _ _ _ c.mixed_column-a.ensures c.mixed_column-b.ensures c.mixed_column-c.ensures c.mixed_column-d.ensures
