use Rattle.std.proofs.Common.{◌≡◌, ℕ, List, sym, subst}
use Rattle.std.specs.List.{AllZip}
use Rattle.kms_record.specs.declared.key.WrappedKey.{WrappedKey}
use Rattle.kms_ring.specs.Ring.{IsUnwrapped}
use Rattle.kms_sealing.specs.ProjectKeys.{Unwrapped, AreOf}
use Rattle.kms_sealing.proofs.tests.sealed.Goals as goal

still_of : (old new : Unwrapped) (rows : List WrappedKey) → new.masters ≡ old.masters → new.keys ≡ old.keys → AreOf old rows → AreOf new rows
still_of old new rows masters keys are =
    subst (λ (m : List (List ℕ)). AllZip (λ (row : WrappedKey) (key : List ℕ). IsUnwrapped m row.wrapped key) rows new.keys) (sym masters)
    (subst (λ (k : List (List ℕ)). AllZip (λ (row : WrappedKey) (key : List ℕ). IsUnwrapped old.masters row.wrapped key) rows k) (sym keys) are)

pub add-requires-clause-keys : goal.add-requires-clause-keys
add-requires-clause-keys c = still_of c.args.keys.now c.seal.new.self c.args.tables.now.kept.keys c.in-Ok.ensures.masters c.in-Ok.ensures.same c.requires.keys
