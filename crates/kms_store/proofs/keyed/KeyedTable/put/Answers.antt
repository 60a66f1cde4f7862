use Rattle.std.proofs.Common.{◌≡◌, ◌∙◌, ◌-◌, Bool, suc, ap, sym, arith}
use Rattle.kms_store.specs.Keyed.{nth}
use Rattle.kms_store.proofs.KeyedLaws.{put_new, put_nth}
use Rattle.kms_store.proofs.keyed.KeyedTable.put.Goals as goal

pub returns-then-number-eq0-clause-items : goal.returns-then-number-eq0-clause-items
returns-then-number-eq0-clause-items g c =
    let k = g.R.Key.IndexKey in
    let key_of = g.R.Keyed.key_of in
    let rows = c.args.self.now.items in
    let test : g.row.R.Denot → Bool = λ r. k.is (key_of c.args.row) (key_of r) in
    let number : c.number_of-number.result ≡ nth test rows = c.number_of-number.ensures ∙ ap (λ (key : g.row.R-Key.Denot). nth (λ r. k.is key (key_of r)) rows) c.key.ensures in
    c.push.ensures.items ∙ sym (put_new test c.args.row rows (sym number ∙ c.if-number-eq0.true))

pub returns-else-number-eq0-clause-items : goal.returns-else-number-eq0-clause-items
returns-else-number-eq0-clause-items g c =
    let k = g.R.Key.IndexKey in
    let key_of = g.R.Keyed.key_of in
    let rows = c.args.self.now.items in
    let test : g.row.R.Denot → Bool = λ r. k.is (key_of c.args.row) (key_of r) in
    let number : c.number_of-number.result ≡ nth test rows = c.number_of-number.ensures ∙ ap (λ (key : g.row.R-Key.Denot). nth (λ r. k.is key (key_of r)) rows) c.key.ensures in
    let at = c.number_of-number.result - 1 in
    let is : nth test rows ≡ suc at = sym number ∙ omega (arith, c.if-number-eq0.false) in
    c.set.ensures.items ∙ sym (put_nth test c.args.row rows at is)
