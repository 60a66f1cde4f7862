use Rattle.std.proofs.Common.{◌≡◌, ◌+◌, ◌<◌, sym, rules, ℕ, ap, length}
use Rattle.kms_ring.proofs.KeyFileLaws.{adds_key, old_key}
use Rattle.kms_ring.proofs.keys.Keys.read_line.Goals as goal

pub returns-in-Some-place_of-clause-err : goal.returns-in-Some-place_of-clause-err
returns-in-Some-place_of-clause-err c =
    let n : length c.args.self.now ≡ c.self.inside.count = search rules in
    let few : length c.args.self.now < 16 = search rules in
    record {
      at = ap (λ (k : ℕ). k + 1) (sym n);
      why = (few, c.in-Some.key, c.in-Some.ensures, old_key c.in-Some.key c.args.self.now c.in-Some-place_of.place c.in-Some-place_of.ensures);
    }

pub returns-clause-ok : goal.returns-clause-ok
returns-clause-ok c =
    let few : length c.args.self.now < 16 = search rules in
    adds_key c.args.self.now c.push.new.self c.args.line.now c.in-Some.key c.requires few c.in-Some.ensures c.in_default-place_of.ensures c.push.ensures
