use Rattle.std.proofs.Common.{◌≡◌, ◌∙◌, ◌+◌, Bool, cond, ap, subst, sym, arith}
use Rattle.kms_store.specs.Keyed.{nth}
use Rattle.kms_store.specs.Table.{Tabular}
use Rattle.kms_store.specs.Tally.{number_in}
use Rattle.kms_store.proofs.KeyedLaws.{places_more}
use Rattle.kms_store.proofs.keyed.KeyedTable.push.Goals as goal

pub invariant_of-self : goal.invariant_of-self
invariant_of-self g c =
    let k = g.R.Key.IndexKey in
    let key_of = g.R.Keyed.key_of in
    let table = c.self.inside in
    let test : g.row.R.Denot → Bool = λ r. k.is (key_of c.args.row) (key_of r) in
    let number = c.len-number.result + 1 in
    let new : nth test table.rows.items ≡ 0 = subst (λ (t : Tabular g.row.R.Denot). nth test t.items ≡ 0) (sym c.self.view_is) c.requires.new in
    record {
      ascend = c.add.ensures.ascend;
      each = λ key.
          c.add.ensures.numbers key ∙ ap (λ (own : g.row.R-Key.Denot). number_in k.is key table.places.items + cond (k.is key own) number 0) c.key.ensures
          ∙ places_more k.is k.below g.met.R.Key.IndexKey.order key_of c.args.row table.rows.items number key _ new (omega (arith, c.len-number.ensures)) (c.self.invariant.each key)
          ∙ ap (nth (λ r. k.is key (key_of r))) (sym c.push_reserved.ensures.items);
      places_fit = omega (arith, c.self.invariant.places_fit, c.add.ensures.len, c.add.ensures.capacity, c.requires.space, ap (λ (t : Tabular g.row.R.Denot). t.spare) c.self.view_is);
      rows_fit = omega (arith, c.self.invariant.rows_fit, c.push_reserved.ensures.len, c.push_reserved.ensures.capacity, c.requires.space, ap (λ (t : Tabular g.row.R.Denot). t.spare) c.self.view_is);
    }
