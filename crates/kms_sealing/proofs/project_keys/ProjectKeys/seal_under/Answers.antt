use Rattle.std.proofs.Common.{◌≡◌, ℕ, List, length, get_or, refl, sym, ap, subst, arith, ◌∙◌}
use Rattle.kms_ring.specs.Ring.{IsUnwrapped}
use Rattle.kms_record.specs.declared.key.WrappedKey.{WrappedKey}
use Rattle.kms_sealing.specs.Places.{IsLatest}
use Rattle.kms_sealing.proofs.OpeningLaws.{IsOf}
use Rattle.kms_sealing.proofs.PlaceLaws.{zip_at, zip_length}
use Rattle.kms_sealing.proofs.project_keys.ProjectKeys.seal_under.Goals as goal

pub bounds-as_slice-at : goal.bounds-as_slice-at
bounds-as_slice-at c =
    omega (arith, c.in-Some.ensures.within, ap length c.keys.ensures, zip_length (IsOf c.args.self.now.masters) c.args.tables.now.kept.keys c.args.self.now.keys c.requires.keys, ap length c.as_slice.ensures)

pub returns-clause-sealed : goal.returns-clause-sealed
returns-clause-sealed c =
    let masters = c.args.self.now.masters in
    let rows = c.args.tables.now.kept.keys in
    let keys = c.args.self.now.keys in
    let at = c.in-Some.at in
    let d = c.index-keys-at.result in
    let key = c.index-as_slice-at.result in
    let key_is : get_or keys at key ≡ key = sym (c.index-as_slice-at.is ∙ ap (λ (l : List (List ℕ)). get_or l at key) c.as_slice.ensures) in
    record {
      row = get_or rows at d;
      latest = subst (λ (l : List WrappedKey). IsLatest c.args.project.now l (get_or l at d)) c.keys.ensures (c.in-Some.ensures.latest d);
      key = key;
      unwraps = subst (IsUnwrapped masters (get_or rows at d).wrapped) key_is (zip_at (IsOf masters) rows keys at d key c.requires.keys (omega (arith, c.in-Some.ensures.within, ap length c.keys.ensures)));
      new = refl;
      number = ap (λ (l : List WrappedKey). (get_or l at d).number) c.keys-in-Some.ensures;
      token = c.in_ok-seal-in-Some.ensures;
    }
