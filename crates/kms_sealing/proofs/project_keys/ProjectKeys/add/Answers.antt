use Rattle.std.proofs.Common.{ℕ, List, length, sym, ap, subst, arith, ◌∙◌}
use Rattle.std.specs.List.{AllZip, insert}
use Rattle.kms_ring.specs.Ring.{IsUnwrapped}
use Rattle.kms_record.specs.declared.key.WrappedKey.{WrappedKey}
use Rattle.kms_kept.specs.Kept.{insert_key}
use Rattle.kms_sealing.specs.ProjectKeys.{Unwrapped, AreOf}
use Rattle.kms_sealing.specs.Sealed.{wrapped_row}
use Rattle.kms_sealing.proofs.OpeningLaws.{IsOf}
use Rattle.kms_sealing.proofs.PlaceLaws.{zip_insert, zip_length}
use Rattle.kms_sealing.proofs.project_keys.ProjectKeys.add.Goals as goal

pub insert_reserved-requires-clause-place : goal.insert_reserved-requires-clause-place
insert_reserved-requires-clause-place c =
    let same = zip_length (IsOf c.args.self.now.masters) c.args.tables.now.kept.keys c.args.self.now.keys c.requires.keys in
    omega (arith, c.place_for-at.ensures.bound, ap length c.keys.ensures, same, ap (λ (u : Unwrapped). length u.keys) c.self.view_is)

pub returns-clause-keys : goal.returns-clause-keys
returns-clause-keys c =
    let ring = c.self.inside.ring in
    let items = c.self.inside.keys.items in
    let kept = c.args.tables.now.kept.keys in
    let new = c.args.new.now in
    let row = wrapped_row new in
    let at = c.place_for-at.result in
    let all : AllZip (IsOf ring) kept items = subst (λ (u : Unwrapped). AreOf u kept) (sym c.self.view_is) c.requires.keys in
    let opens : IsUnwrapped ring new.wrapped new.key = subst (λ (u : Unwrapped). IsUnwrapped u.masters new.wrapped new.key) (sym c.self.view_is) c.requires.opens in
    let seen : AllZip (IsOf ring) c.keys.result.now items = subst (λ (rows : List WrappedKey). AllZip (IsOf ring) rows items) (sym c.keys.ensures) all in
    let more : AllZip (IsOf ring) (insert c.keys.result.now at row) (insert items at new.key) = zip_insert (IsOf ring) c.keys.result.now items at row new.key seen opens in
    let placed : AllZip (IsOf ring) (insert_key row kept) (insert items at new.key) = subst (λ (rows : List WrappedKey). AllZip (IsOf ring) rows (insert items at new.key)) (c.place_for-at.ensures.place ∙ ap (insert_key row) c.keys.ensures) more in
    subst (λ (keys : List (List ℕ)). AllZip (IsOf ring) (insert_key row kept) keys) (sym c.insert_reserved.ensures.items) placed
