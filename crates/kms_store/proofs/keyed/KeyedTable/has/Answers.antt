use Rattle.std.proofs.Common.{◌∙◌, ap}
use Rattle.std.specs.Prelude.{nat_lt}
use Rattle.kms_store.proofs.KeyedLaws.{any_is}
use Rattle.kms_store.proofs.keyed.KeyedTable.has.Goals as goal

pub returns : goal.returns
returns g c = ap (nat_lt 0) c.number_of.ensures ∙ any_is (λ r. g.R.Key.IndexKey.is c.args.key.now (g.R.Keyed.key_of r)) c.args.self.now.items
