use Rattle.std.proofs.Common.{◌≡◌, get_or, take, map, string_bytes, true, false, sym, ap, ◌∙◌, arith, []}
use Rattle.std.specs.Str.{str_eq_ignore_ascii_case}
use Rattle.kms_http.specs.Fields.{Pair, values_of}
use Rattle.kms_http.specs.Routing.{joined, value_text, with_text}
use Rattle.kms_http.proofs.FieldLaws.{more-no, more-yes}
use Rattle.kms_http.proofs.JoinLaws.{has_none, has_none-more, joined-values}
use Rattle.kms_http.proofs.head_parts.joined.Goals as goal
use Rattle.kms_http.proofs.head_parts.joined.Goals.{then-is_same_name+in_ok-put_text, else-is_same_name}

pub loop-place-preserved : goal.loop-place-preserved
loop-place-preserved c =
    let name = c.args.name.now in
    let fields = c.args.fields.now in
    let i = c.loop-place.place in
    let d : Pair = ([], []) in
    let here = c.at.ensures d in
    let v = (get_or fields i d).1 in
    let vs = values_of name (take i fields) in
    let inv = c.loop-place.invariant in
    elim c.if-is_same_name.branch [
      | then-is_same_name+in_ok-put_text w ↦
          let same : str_eq_ignore_ascii_case (get_or fields i d).0 name ≡ true =
          ap (λ (p : Pair). str_eq_ignore_ascii_case p.0 name) here ∙ sym c.is_same_name.ensures ∙ w.if-is_same_name.true in
          let more = more-yes name fields i d (omega arith) same in
          let value = w.value_text.ensures ∙ ap value_text (sym (ap (λ (p : Pair). p.1) here)) in
          record {
            text =
                ap string_bytes w.text-is ∙ w.in_ok-put_text.ensures
                ∙ ap (λ t. with_text c.loop-place.is_first (string_bytes c.loop-place.text) t) value
                ∙ ap (λ t. with_text c.loop-place.is_first t (value_text v)) inv.text
                ∙ ap (λ b. with_text b (joined (map value_text vs)) (value_text v)) inv.first
                ∙ sym (ap (λ t. joined (map value_text t)) more ∙ joined-values vs v);
            first = w.is_first-is ∙ sym (ap has_none more ∙ has_none-more vs v);
          }
      | else-is_same_name w ↦
          let differs : str_eq_ignore_ascii_case (get_or fields i d).0 name ≡ false =
          ap (λ (p : Pair). str_eq_ignore_ascii_case p.0 name) here ∙ sym c.is_same_name.ensures ∙ w.if-is_same_name.false in
          let more = more-no name fields i d (omega arith) differs in
          record {
            text = ap string_bytes w.text-is ∙ inv.text ∙ sym (ap (λ t. joined (map value_text t)) more);
            first = w.is_first-is ∙ inv.first ∙ sym (ap has_none more);
          }
    ]
