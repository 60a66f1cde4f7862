use Rattle.std.proofs.Common.{ℕ, List, ap, sym, ◌∙◌}
use Rattle.std.specs.Prelude.{Some}
use Rattle.kms_serve.proofs.WordLaws.{key_named}
use Rattle.kms_serve.proofs.words.key_file_of.Goals as goal

pub returns-in-len7 : goal.returns-in-len7
returns-in-len7 c = ap (λ (z : List ℕ). Some z) c.as_str.ensures.value ∙ key_named c.args.words.now c.key_file-item.result c.key_file-item.is (sym c.if-not-is_pipe.ensures)
