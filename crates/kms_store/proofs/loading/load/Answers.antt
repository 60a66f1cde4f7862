use Rattle.std.proofs.Common.{ℕ, List, inl, refl, subst}
use Rattle.kms_store.specs.Stands.{IsNoSnapshot}
use Rattle.kms_store.proofs.loading.load.Goals as goal

pub returns-in-Err-Broken : goal.returns-in-Err-Broken
returns-in-Err-Broken c =
    let chain = c.args.chain.now in
    inl (subst (λ (bytes : List ℕ). IsNoSnapshot chain.tag chain.ids bytes) c.as_slice.ensures (c.apply_snapshot.ensures.broken (rw (c.in-Err-Broken.is, c.in-Err-Broken.field-0-is) refl)), refl)
