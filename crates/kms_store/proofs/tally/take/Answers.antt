use Rattle.std.proofs.Common.{◌≡◌, ◌∙◌, ◌+◌, ◌-◌, List, cond, refl, sym, ap, subst, arith, inl, inr}
use Rattle.std.proofs.lemmas.Bool.{cases_Bool}
use Rattle.kms_store.specs.Tally.{number_in, Ascend, StandsAt, GoesAt}
use Rattle.kms_store.specs.declared.tally.Entry.{Entry}
use Rattle.kms_store.proofs.TallyLaws.{rows_there, rows_nowhere, ascend_set, ascend_remove, set_fewer}
use Rattle.kms_store.proofs.tally.take.Goals as goal

pub overflow_sub-old : goal.overflow_sub-old
overflow_sub-old g c =
    let k = g.K.IndexKey in
    let order = g.met.K.IndexKey.order in
    let key = c.args.key.now in
    let entries = c.args.entries.now.items in
    let stands : StandsAt key entries c.in-Ok.at = subst (λ (xs : List (Entry g.row.K.Denot)). StandsAt key xs c.in-Ok.at) c.deref.ensures.value c.in-Ok.ensures.there in
    let rows : number_in k.is key entries ≡ c.index.result.now.number =
    rows_there k.is k.below order key entries c.in-Ok.at c.index.result.now c.requires.ascend stands.within (stands.here c.index.result.now) ∙ ap (λ (e : Entry g.row.K.Denot). e.number) (sym c.index.ensures)
    in
    omega (arith, rows, c.requires.least)

pub returns-then-old-number-clause-ascend : goal.returns-then-old-number-clause-ascend
returns-then-old-number-clause-ascend g c =
    let k = g.K.IndexKey in
    let order = g.met.K.IndexKey.order in
    subst (Ascend k.below) (sym c.remove.ensures.items) (ascend_remove k.is k.below order c.args.entries.now.items c.in-Ok.at c.requires.ascend)

pub returns-else-old-number-clause-ascend : goal.returns-else-old-number-clause-ascend
returns-else-old-number-clause-ascend g c =
    let k = g.K.IndexKey in
    let order = g.met.K.IndexKey.order in
    let key = c.args.key.now in
    let entries = c.args.entries.now.items in
    let stands : StandsAt key entries c.in-Ok.at = subst (λ (xs : List (Entry g.row.K.Denot)). StandsAt key xs c.in-Ok.at) c.deref.ensures.value c.in-Ok.ensures.there in
    ascend_set k.is k.below order entries c.in-Ok.at _ c.index.result.now c.requires.ascend stands.within (stands.here c.index.result.now)

pub returns-else-old-number-clause-numbers : goal.returns-else-old-number-clause-numbers
returns-else-old-number-clause-numbers g c =
    let k = g.K.IndexKey in
    let order = g.met.K.IndexKey.order in
    let key = c.args.key.now in
    let entries = c.args.entries.now.items in
    let stands : StandsAt key entries c.in-Ok.at = subst (λ (xs : List (Entry g.row.K.Denot)). StandsAt key xs c.in-Ok.at) c.deref.ensures.value c.in-Ok.ensures.there in
    let is = ap (λ (e : Entry g.row.K.Denot). e.number) c.index.ensures in
    let rows : number_in k.is key entries ≡ c.index.result.now.number =
    rows_there k.is k.below order key entries c.in-Ok.at c.index.result.now c.requires.ascend stands.within (stands.here c.index.result.now) ∙ sym is
    in
    let new : Entry g.row.K.Denot = record { key = key; number = c.index.result.now.number - c.args.number } in
    λ p. set_fewer k.is k.below order entries c.in-Ok.at c.index.result.now new stands.within (sym (stands.here c.index.result.now)) c.args.number key p refl (omega (arith, rows, c.requires.least) ∙ is)

pub returns-in_default-clause-numbers : goal.returns-in_default-clause-numbers
returns-in_default-clause-numbers g c =
    let k = g.K.IndexKey in
    let order = g.met.K.IndexKey.order in
    let key = c.args.key.now in
    let entries = c.args.entries.now.items in
    let goes : GoesAt k.below key entries c.in_default.field-0 = subst (λ (xs : List (Entry g.row.K.Denot)). GoesAt k.below key xs c.in_default.field-0) c.deref.ensures.value c.in_default.ensures.missing in
    let none : c.args.number ≡ 0 = omega (arith, rows_nowhere k.is k.below order key entries c.in_default.field-0 goes, c.requires.least) in
    λ p. nothing p none
  where
    nothing : (p : g.row.K.Denot) → c.args.number ≡ 0 → number_in g.K.IndexKey.is p c.args.entries.now.items + cond (g.K.IndexKey.is p c.args.key.now) c.args.number 0 ≡ number_in g.K.IndexKey.is p c.args.entries.now.items
    nothing p none = elim (cases_Bool (g.K.IndexKey.is p c.args.key.now)) [
      | inl t ↦ rw t (omega (arith, none))
      | inr f ↦ rw f (omega arith)
    ]
