use Rattle.std.proofs.Common.{rules, ◌≡◌, ◌∙◌, ◌-◌, ◌<◌, Bool, length, suc, subst, sym, arith}
use Rattle.kms_store.specs.Keyed.{nth}
use Rattle.kms_store.specs.Table.{Tabular}
use Rattle.kms_store.proofs.KeyedLaws.{within, still_placed}
use Rattle.kms_store.proofs.keyed.KeyedTable.set.Goals as goal

pub index_mut-requires : goal.index_mut-requires
index_mut-requires g c =
    let test : g.row.R.Denot → Bool = λ r. g.R.Key.IndexKey.is (g.R.Keyed.key_of c.args.row) (g.R.Keyed.key_of r) in
    let at = c.args.number - 1 in
    let is : nth test c.args.self.now.items ≡ suc at = c.requires.number ∙ omega (arith, c.requires.there) in
    let lt : at < length c.self.inside.rows.items = subst (λ (t : Tabular g.row.R.Denot). at < length t.items) (sym c.self.view_is) (within test c.args.self.now.items at is) in
    search rules

pub invariant_of-self : goal.invariant_of-self
invariant_of-self g c =
    let k = g.R.Key.IndexKey in
    let key_of = g.R.Keyed.key_of in
    let test : g.row.R.Denot → Bool = λ r. k.is (key_of c.args.row) (key_of r) in
    let at = c.args.number - 1 in
    let table = c.self.inside in
    let is : nth test c.args.self.now.items ≡ suc at = c.requires.number ∙ omega (arith, c.requires.there) in
    let here : nth test table.rows.items ≡ suc at = subst (λ (t : Tabular g.row.R.Denot). nth test t.items ≡ suc at) (sym c.self.view_is) is in
    still_placed k.is k.below g.met.R.Key.IndexKey.order key_of table.places table.rows table.spare at c.args.row c.self.invariant here
