use Rattle.std.proofs.Common.{arith, ◌∙◌, ap, sym, subst, List, ℕ}
use Rattle.kms_aes.specs.Field.{sum_of}
use Rattle.kms_aes.specs.Cipher.{IsBlock}
use Rattle.kms_aes.proofs.States.{sum_of-twice}
use Rattle.kms_aes.proofs.ByteLists.{sum_bytes}
use Rattle.kms_aes.proofs.state.added.Goals as goal

pub returns-clause-block : goal.returns-clause-block
returns-clause-block c =
    subst IsBlock (sym c.add.ensures)
    (sum_bytes 16 _ _ record { len = c.told-state; fits = c.fits-state } record { len = c.told-key; fits = c.fits-key })

pub returns-clause-twice : goal.returns-clause-twice
returns-clause-twice c =
    ap (λ (t : List ℕ). sum_of t c.args.key.now) c.add.ensures
    ∙ sum_of-twice c.args.state.now c.args.key.now (let s = c.told-state in let k = c.told-key in omega arith)
