use Rattle.std.proofs.Common.{◌≡◌, ◌∙◌, true, not, inl, inr, sym, ap, arith, get_or}
use Rattle.std.specs.Str.{bytes_eq}
use Rattle.std.proofs.lemmas.Bool.{cases_Bool, false≢true}
use Rattle.std.proofs.lemmas.List.{get_or_default}
use Rattle.std.proofs.lemmas.Slice.Eq.{bytes_eq-Decides}
use Rattle.kms_record.specs.declared.key.WrappedKey.{WrappedKey}
use Rattle.kms_store.proofs.KeysLaws.{latest_all, latest_none}
use Rattle.kms_store.proofs.keys.is_latest.Goals as goal

pub returns-then-at-keys : goal.returns-then-at-keys
returns-then-at-keys c =
    let keys = c.args.keys.now in
    let new = c.args.new.now in
    let at = c.key_point-at.result in
    let found = c.index-keys-at.result in
    let is : c.is_of.result ≡ bytes_eq new.project (get_or keys at found).project = c.is_of.ensures ∙ ap (λ (key : WrappedKey). bytes_eq new.project key.project) c.index-keys-at.is in
    elim (cases_Bool (bytes_eq new.project (get_or keys at found).project)) [
      | inl t ↦ ap not (is ∙ t) ∙ sym (latest_none new keys at found c.key_point-at.ensures.parted c.if-at-keys.true ((bytes_eq-Decides new.project (get_or keys at found).project).0 t))
      | inr f ↦ ap not (is ∙ f) ∙ sym (latest_all new keys at c.requires c.key_point-at.ensures.parted (λ lt d same.
          let again : bytes_eq new.project (get_or keys at found).project ≡ true =
          (bytes_eq-Decides new.project (get_or keys at found).project).1 (same ∙ ap (λ (key : WrappedKey). key.project) (get_or_default keys at d found lt))
          in
          false≢true (sym f ∙ again)))
    ]

pub returns-else-at-keys : goal.returns-else-at-keys
returns-else-at-keys c = sym (latest_all c.args.new.now c.args.keys.now c.key_point-at.result c.requires c.key_point-at.ensures.parted (λ lt d same. absurd (omega (arith, lt, c.if-at-keys.false))))
