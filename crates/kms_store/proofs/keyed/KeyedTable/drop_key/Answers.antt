use Rattle.std.proofs.Common.{rules, ◌≡◌, ◌∙◌, ◌-◌, ◌<◌, ℕ, Bool, cond, length, suc, ap, subst, sym, arith}
use Rattle.kms_store.specs.Keyed.{nth}
use Rattle.kms_store.specs.Table.{Tabular}
use Rattle.std.specs.List.{remove}
use Rattle.kms_store.specs.Keyed.{StandApart, lowered}
use Rattle.kms_store.proofs.KeyedLaws.{within, gone, dropped_nth, dropped_none, places_left}
use Rattle.kms_store.proofs.keyed.KeyedTable.drop_key.Goals as goal

pub remove-requires : goal.remove-requires
remove-requires g c =
    let test : g.row.R.Denot → Bool = λ r. g.R.Key.IndexKey.is c.args.key.now (g.R.Keyed.key_of r) in
    let at = c.number_of-number.result - 1 in
    let is : nth test c.args.self.now.items ≡ suc at = sym c.number_of-number.ensures ∙ omega (arith, c.if-number-gt0.true) in
    let lt : at < length c.self.inside.rows.items = subst (λ (t : Tabular g.row.R.Denot). at < length t.items) (sym c.self.view_is) (within test c.args.self.now.items at is) in
    search rules

pub invariant_of-self : goal.invariant_of-self
invariant_of-self g c =
    let k = g.R.Key.IndexKey in
    let key_of = g.R.Keyed.key_of in
    let table = c.self.inside in
    let rows = table.rows.items in
    let test : g.row.R.Denot → Bool = λ r. k.is c.args.key.now (key_of r) in
    let number = c.number_of-number.result in
    let at = number - 1 in
    let one_more : suc at ≡ number = omega (arith, c.if-number-gt0.true) in
    let is : nth test rows ≡ suc at = subst (λ (t : Tabular g.row.R.Denot). nth test t.items ≡ suc at) (sym c.self.view_is) (sym c.number_of-number.ensures ∙ sym one_more) in
    let apart : StandApart k.is key_of rows = subst (λ (t : Tabular g.row.R.Denot). StandApart k.is key_of t.items) (sym c.self.view_is) c.requires.apart in
    record {
      ascend = c.drop_place.ensures.ascend;
      each = λ key.
          c.drop_place.ensures.numbers key
          ∙ ap (λ (n : ℕ). cond (k.is key c.args.key.now) 0 (lowered number n)) (c.self.invariant.each key)
          ∙ ap (λ (n : ℕ). cond (k.is key c.args.key.now) 0 (lowered n (nth (λ r. k.is key (key_of r)) rows))) (sym one_more)
          ∙ places_left k.is k.below g.met.R.Key.IndexKey.order key_of c.args.key.now key rows at c.remove.result apart is
          ∙ ap (nth (λ r. k.is key (key_of r))) (sym c.remove.ensures.items);
      places_fit = omega (arith, c.self.invariant.places_fit, c.drop_place.ensures.len, c.drop_place.ensures.capacity);
      rows_fit = omega (arith, c.self.invariant.rows_fit, c.remove.ensures.len, c.remove.ensures.capacity);
    }

pub returns-then-number-gt0-clause-items : goal.returns-then-number-gt0-clause-items
returns-then-number-gt0-clause-items g c =
    let k = g.R.Key.IndexKey in
    let key_of = g.R.Keyed.key_of in
    let rows = c.args.self.now.items in
    let test : g.row.R.Denot → Bool = λ r. k.is c.args.key.now (key_of r) in
    let at = c.number_of-number.result - 1 in
    let is : nth test rows ≡ suc at = sym c.number_of-number.ensures ∙ omega (arith, c.if-number-gt0.true) in
    c.remove.ensures.items ∙ ap (λ (t : Tabular g.row.R.Denot). remove t.items at) c.self.view_is
    ∙ sym (dropped_nth test rows at is (gone k.is k.below g.met.R.Key.IndexKey.order key_of c.args.key.now rows at c.requires.apart is))

pub returns-else-number-gt0-clause-items : goal.returns-else-number-gt0-clause-items
returns-else-number-gt0-clause-items g c =
    let test : g.row.R.Denot → Bool = λ r. g.R.Key.IndexKey.is c.args.key.now (g.R.Keyed.key_of r) in
    sym (dropped_none test c.args.self.now.items (sym c.number_of-number.ensures ∙ omega (arith, c.if-number-gt0.false)))
