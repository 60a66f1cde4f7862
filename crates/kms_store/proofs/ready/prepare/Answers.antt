use Rattle.std.proofs.Common.{◌≡◌, ap, subst, sym, ◌∙◌}
use Rattle.kms_world.specs.declared.container.ContainerRow.{ContainerRow}
use Rattle.kms_record.specs.Base.{container_put_of}
use Rattle.kms_record.specs.ChangeEffect.{container_at}
use Rattle.kms_record.specs.declared.change.Change.TheVariants.{ContainerPut}
use Rattle.kms_record.specs.declared.container.ContainerPut.{ContainerPut as Container}
use Rattle.kms_record.specs.Grammar.{IsChange}
use Rattle.kms_kept.proofs.RowLaws.{container_back}
use Rattle.kms_store.proofs.ReadyLaws.{other_change}
use Rattle.kms_store.proofs.ready.prepare.Goals as goal

pub returns-in_ok-into_row-in-ContainerPut-clause-row : goal.returns-in_ok-into_row-in-ContainerPut-clause-row
returns-in_ok-into_row-in-ContainerPut-clause-row c =
    let back = container_back c.args.tag c.in-ContainerPut.put (subst IsChange c.in-ContainerPut.is c.requires.change) in
    subst (λ (row : ContainerRow). container_at c.args.tag (container_put_of row) ≡ row) (sym c.in_ok-into_row-in-ContainerPut.ensures) (ap (container_at c.args.tag) back)

pub returns-in_ok-into_row-in-ContainerPut-clause-change : goal.returns-in_ok-into_row-in-ContainerPut-clause-change
returns-in_ok-into_row-in-ContainerPut-clause-change c =
    let back = container_back c.args.tag c.in-ContainerPut.put (subst IsChange c.in-ContainerPut.is c.requires.change) in
    subst (λ (row : ContainerRow). ContainerPut (container_put_of row) ≡ c.args.change) (sym c.in_ok-into_row-in-ContainerPut.ensures) (ap (λ (put : Container). ContainerPut put) back ∙ sym c.in-ContainerPut.is)

pub returns-in_default-clause-row : goal.returns-in_default-clause-row
returns-in_default-clause-row c = other_change c.args.change c.in_default.not-ContainerPut
