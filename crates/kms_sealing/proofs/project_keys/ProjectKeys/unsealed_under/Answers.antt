use Rattle.std.proofs.Common.{◌≡◌, ℕ, List, [], length, get_or, sym, ap, subst, arith, ◌∙◌}
use Rattle.kms_ring.specs.Ring.{IsUnwrapped}
use Rattle.kms_record.specs.declared.key.WrappedKey.{WrappedKey}
use Rattle.kms_sealing.proofs.OpeningLaws.{IsOf}
use Rattle.kms_sealing.proofs.PayloadLaws.{under_ok, under_not}
use Rattle.kms_sealing.proofs.PlaceLaws.{zip_at, zip_length}
use Rattle.kms_sealing.proofs.project_keys.ProjectKeys.unsealed_under.Goals as goal

pub bounds-as_slice-at : goal.bounds-as_slice-at
bounds-as_slice-at c =
    omega (arith, c.in-Some.ensures.within, zip_length (IsOf c.args.self.now.masters) c.args.rows.now c.args.self.now.keys c.requires.keys, ap length c.as_slice.ensures)

pub returns-in-Some-clause-ok : goal.returns-in-Some-clause-ok
returns-in-Some-clause-ok c =
    let masters = c.args.self.now.masters in
    let rows = c.args.rows.now in
    let keys = c.args.self.now.keys in
    let at = c.in-Some.at in
    let key = c.index-as_slice-at.result in
    let d : WrappedKey = record { project = []; number = 0; wrapped = [] } in
    let key_is : get_or keys at key ≡ key = sym (c.index-as_slice-at.is ∙ ap (λ (l : List (List ℕ)). get_or l at key) c.as_slice.ensures) in
    let unwraps : IsUnwrapped masters (get_or rows at d).wrapped key = subst (IsUnwrapped masters (get_or rows at d).wrapped) key_is (zip_at (IsOf masters) rows keys at d key c.requires.keys c.in-Some.ensures.within) in
    under_ok masters rows c.args.project.now c.args.number c.args.token.now key (get_or rows at d) (c.in-Some.ensures.found d) unwraps c.unsealed.result c.unsealed.ensures.ok

pub returns-in-Some-clause-err : goal.returns-in-Some-clause-err
returns-in-Some-clause-err c =
    let masters = c.args.self.now.masters in
    let rows = c.args.rows.now in
    let keys = c.args.self.now.keys in
    let at = c.in-Some.at in
    let key = c.index-as_slice-at.result in
    let d : WrappedKey = record { project = []; number = 0; wrapped = [] } in
    let key_is : get_or keys at key ≡ key = sym (c.index-as_slice-at.is ∙ ap (λ (l : List (List ℕ)). get_or l at key) c.as_slice.ensures) in
    let unwraps : IsUnwrapped masters (get_or rows at d).wrapped key = subst (IsUnwrapped masters (get_or rows at d).wrapped) key_is (zip_at (IsOf masters) rows keys at d key c.requires.keys c.in-Some.ensures.within) in
    under_not masters rows c.args.project.now c.args.number c.args.token.now key (get_or rows at d) (c.in-Some.ensures.found d) unwraps c.fit.ensures c.unsealed.result c.unsealed.ensures.err
