use Rattle.std.proofs.Common.{rules, ◌≡◌, ◌∙◌, ◌-◌, ◌<◌, Bool, Some, get_or, length, suc, ap, subst, sym, arith}
use Rattle.kms_store.specs.Keyed.{nth}
use Rattle.kms_store.specs.Table.{Tabular}
use Rattle.kms_store.proofs.KeyedLaws.{found_none, found_nth, within}
use Rattle.kms_store.proofs.keyed.KeyedTable.found.Goals as goal

pub index-requires : goal.index-requires
index-requires g c =
    let test : g.row.R.Denot → Bool = λ r. g.R.Key.IndexKey.is c.args.key.now (g.R.Keyed.key_of r) in
    let at = c.number_of-number.result - 1 in
    let is : nth test c.args.self.now.items ≡ suc at = sym c.number_of-number.ensures ∙ omega (arith, c.if-number-eq0.false) in
    let lt : at < length c.self.inside.rows.items = subst (λ (t : Tabular g.row.R.Denot). at < length t.items) (sym c.self.view_is) (within test c.args.self.now.items at is) in
    search rules

pub returns-then-number-eq0 : goal.returns-then-number-eq0
returns-then-number-eq0 g c = sym (found_none (λ r. g.R.Key.IndexKey.is c.args.key.now (g.R.Keyed.key_of r)) c.args.self.now.items (sym c.number_of-number.ensures ∙ c.if-number-eq0.true))

pub returns-else-number-eq0 : goal.returns-else-number-eq0
returns-else-number-eq0 g c =
    let test : g.row.R.Denot → Bool = λ r. g.R.Key.IndexKey.is c.args.key.now (g.R.Keyed.key_of r) in
    let at = c.number_of-number.result - 1 in
    let is : nth test c.args.self.now.items ≡ suc at = sym c.number_of-number.ensures ∙ omega (arith, c.if-number-eq0.false) in
    ap (λ x. Some x) (subst (λ (t : Tabular g.row.R.Denot). c.index.result.now ≡ get_or t.items at c.index.result.now) c.self.view_is c.index.ensures)
    ∙ sym (found_nth test c.args.self.now.items at c.index.result.now is)
