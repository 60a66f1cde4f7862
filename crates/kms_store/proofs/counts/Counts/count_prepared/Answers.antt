use Rattle.std.proofs.Common.{subst}
use Rattle.kms_store.specs.Part.{IsFit}
use Rattle.kms_store.specs.Prepared.{change_of, IsRowOf}
use Rattle.kms_store.specs.Rows.{kept_in}
use Rattle.kms_store.specs.declared.ready.Prepared.{Prepared}
use Rattle.kms_store.specs.declared.ready.Prepared.TheVariants.{Container}
use Rattle.kms_store.proofs.ConsumerLaws.{alike}
use Rattle.kms_store.proofs.counts.Counts.count_prepared.Goals as goal

pub put_container-requires-clause-alike : goal.put_container-requires-clause-alike
put_container-requires-clause-alike c =
    let row = c.in-Container.row in
    let kept = kept_in c.args.rows.now in
    let fits : IsFit (change_of (Container row)) kept = subst (λ (p : Prepared). IsFit (change_of p) kept) c.in-Container.is c.requires.fits in
    let is : IsRowOf kept.state.tag (Container row) = subst (IsRowOf kept.state.tag) c.in-Container.is c.requires.row in
    alike fits.0 row kept c.requires.sound.rising is fits.1
