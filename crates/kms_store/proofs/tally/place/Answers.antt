use Rattle.std.proofs.Common.{◌≡◌, ◌∙◌, sym, ap, arith, get_or}
use Rattle.std.proofs.lemmas.Bool.{false≢true}
use Rattle.std.proofs.lemmas.List.{get_or_default}
use Rattle.kms_store.specs.declared.tally.Entry.{Entry}
use Rattle.kms_store.proofs.TallyLaws.{goes_at, own_key}
use Rattle.kms_store.proofs.tally.place.Goals as goal
use Rattle.kms_store.proofs.tally.place.Goals.{else-at-entries-via-then-at-entries+else-is_key, else-at-entries-via-else-at-entries}

pub returns-then-is_key-clause-there : goal.returns-then-is_key-clause-there
returns-then-is_key-clause-there g c =
    let entries = c.args.entries.now in
    let at = c.point-at.result in
    let key = c.args.key.now in
    record {
      within = c.if-at-entries.true;
      here = λ d. ap (λ (e : Entry g.row.K.Denot). e.key) (get_or_default entries at d c.index-entries-at.result c.if-at-entries.true)
          ∙ sym (g.met.K.IndexKey.order.same key (get_or entries at c.index-entries-at.result).key (sym c.is_key.ensures ∙ c.if-is_key.true));
    }

pub returns-else-at-entries-clause-missing : goal.returns-else-at-entries-clause-missing
returns-else-at-entries-clause-missing g c =
    let k = g.K.IndexKey in
    let order = g.met.K.IndexKey.order in
    let entries = c.args.entries.now in
    let at = c.point-at.result in
    let key = c.args.key.now in
    goes_at k.is k.below order key entries at c.requires c.point-at.ensures.parted c.point-at.ensures.bound
    (λ lt d same. elim c.else-at-entries.branch [
      | else-at-entries-via-then-at-entries+else-is_key w ↦
          let here : key ≡ (get_or entries at w.index-entries-at.result).key = same ∙ ap (λ (e : Entry g.row.K.Denot). e.key) (get_or_default entries at d w.index-entries-at.result lt) in
          false≢true (sym w.if-is_key.false ∙ w.is_key.ensures ∙ own_key k.is k.below order key (get_or entries at w.index-entries-at.result).key here)
      | else-at-entries-via-else-at-entries w ↦ absurd (omega (arith, lt, w.if-at-entries.false))
    ])
