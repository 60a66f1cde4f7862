use Rattle.std.proofs.Common.{◌≡◌, ◌∙◌, List, sym, ap, subst, arith}
use Rattle.kms_store.specs.Tally.{number_in, Ascend, StandsAt, GoesAt}
use Rattle.kms_store.specs.declared.tally.Entry.{Entry}
use Rattle.kms_store.proofs.TallyLaws.{rows_there, ascend_set, ascend_insert}
use Rattle.kms_store.proofs.tally.add.Goals as goal

pub overflow_add-old : goal.overflow_add-old
overflow_add-old g c =
    let k = g.K.IndexKey in
    let order = g.met.K.IndexKey.order in
    let key = c.args.key.now in
    let entries = c.args.entries.now.items in
    let stands : StandsAt key entries c.in-Ok.at = subst (λ (xs : List (Entry g.row.K.Denot)). StandsAt key xs c.in-Ok.at) c.deref.ensures.value c.in-Ok.ensures.there in
    let rows : number_in k.is key entries ≡ c.index.result.now.number =
    rows_there k.is k.below order key entries c.in-Ok.at c.index.result.now c.requires.ascend stands.within (stands.here c.index.result.now) ∙ ap (λ (e : Entry g.row.K.Denot). e.number) (sym c.index.ensures)
    in
    omega (arith, rows, c.requires.most)

pub returns-in-Ok-clause-ascend : goal.returns-in-Ok-clause-ascend
returns-in-Ok-clause-ascend g c =
    let k = g.K.IndexKey in
    let order = g.met.K.IndexKey.order in
    let key = c.args.key.now in
    let entries = c.args.entries.now.items in
    let stands : StandsAt key entries c.in-Ok.at = subst (λ (xs : List (Entry g.row.K.Denot)). StandsAt key xs c.in-Ok.at) c.deref.ensures.value c.in-Ok.ensures.there in
    ascend_set k.is k.below order entries c.in-Ok.at _ c.index.result.now c.requires.ascend stands.within (stands.here c.index.result.now)

pub returns-in-Err-clause-ascend : goal.returns-in-Err-clause-ascend
returns-in-Err-clause-ascend g c =
    let k = g.K.IndexKey in
    let order = g.met.K.IndexKey.order in
    let key = c.args.key.now in
    let entries = c.args.entries.now.items in
    let goes : GoesAt k.below key entries c.in-Err.at = subst (λ (xs : List (Entry g.row.K.Denot)). GoesAt k.below key xs c.in-Err.at) c.deref.ensures.value c.in-Err.ensures.missing in
    subst (Ascend k.below) (sym c.insert_reserved.ensures.items) (ascend_insert k.is k.below order entries c.in-Err.at _ c.requires.ascend goes)
