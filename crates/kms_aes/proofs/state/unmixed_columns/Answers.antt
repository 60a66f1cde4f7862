use Rattle.std.proofs.Common.{◌∙◌, ap}
use Rattle.kms_aes.specs.Cipher.{mix_columns}
use Rattle.kms_aes.proofs.States.{unmixed_state}
use Rattle.kms_aes.proofs.state.unmixed_columns.Goals as goal

pub returns : goal.returns
returns c =
    ap mix_columns c.joined.ensures
    ∙ unmixed_state c.args.s.now _ _ _ _ c.told-s c.unmixed_column-a.ensures c.unmixed_column-b.ensures c.unmixed_column-c.ensures c.unmixed_column-d.ensures
