use Rattle.std.proofs.Common.{◌≡◌, ◌∙◌, ◌-◌, ℕ, true, false, sym, ap, subst, arith, get_or}
use Rattle.std.specs.Str.{bytes_eq}
use Rattle.std.proofs.lemmas.Bool.{false≢true}
use Rattle.std.proofs.lemmas.List.{get_or_default}
use Rattle.std.proofs.lemmas.Slice.Eq.{bytes_eq-Decides}
use Rattle.kms_record.specs.declared.key.WrappedKey.{WrappedKey}
use Rattle.kms_sealing.proofs.LatestLaws.{is_latest, no_key}
use Rattle.kms_sealing.proofs.places.latest.Goals as goal
use Rattle.kms_sealing.proofs.places.latest.Goals.{else-end-gt0-via-then-end-gt0+else-is_of, else-end-gt0-via-else-end-gt0}

pub returns-then-is_of-clause-latest : goal.returns-then-is_of-clause-latest
returns-then-is_of-clause-latest c = λ d.
    let rows = c.args.rows.now in
    let end = c.end_point-end.result in
    let some = c.if-end-gt0.true in
    let bound = c.end_point-end.ensures.bound in
    let it : bytes_eq c.args.project.now (get_or rows (end - 1) d).project ≡ true =
    ap (λ (row : WrappedKey). bytes_eq c.args.project.now row.project) (get_or_default rows (end - 1) d c.index-rows-end.result (omega (arith, some, bound)) ∙ sym c.index-rows-end.is) ∙ sym c.is_of.ensures ∙ c.if-is_of.true
    in
    is_latest c.args.project.now rows end c.requires c.end_point-end.ensures.parted (end - 1) d (omega (arith, some)) (omega (arith, some, bound)) ((bytes_eq-Decides c.args.project.now (get_or rows (end - 1) d).project).0 it)

pub returns-else-end-gt0-clause-none : goal.returns-else-end-gt0-clause-none
returns-else-end-gt0-clause-none c =
    let rows = c.args.rows.now in
    let end = c.end_point-end.result in
    let bound = c.end_point-end.ensures.bound in
    no_key c.args.project.now rows end c.requires c.end_point-end.ensures.parted bound
    (λ at d last same. elim c.else-end-gt0.branch [
      | else-end-gt0-via-then-end-gt0+else-is_of w ↦
          let here : at ≡ end - 1 = omega (arith, last) in
          let it : bytes_eq c.args.project.now (get_or rows (end - 1) d).project ≡ false =
          ap (λ (row : WrappedKey). bytes_eq c.args.project.now row.project) (get_or_default rows (end - 1) d w.index-rows-end.result (omega (arith, last, bound)) ∙ sym w.index-rows-end.is) ∙ sym w.is_of.ensures ∙ w.if-is_of.false
          in
          let is : c.args.project.now ≡ (get_or rows (end - 1) d).project = subst (λ (n : ℕ). c.args.project.now ≡ (get_or rows n d).project) here same in
          false≢true (sym it ∙ (bytes_eq-Decides c.args.project.now (get_or rows (end - 1) d).project).1 is)
      | else-end-gt0-via-else-end-gt0 w ↦ absurd (omega (arith, last, w.if-end-gt0.false))
    ])
