-- What is told of one call, or of one span of calls, by several clauses.
use Rattle.std.proofs.Common.{◌≡◌, List, sym, ap, ◌∙◌, subst}
use Rattle.std.proofs.lemmas.List.{append_cancel_right}
use Rattle.std.proofs.lemmas.Option.{same_Some}
use Rattle.std.specs.Prelude.{Option}
use Rattle.kms_host.specs.History.{History, Tells}
use Rattle.kms_host.specs.Moment.{Since, then_calls}
use Rattle.kms_host.proofs.Moments.{then_calls-calls}
use Rattle.kms_host.specs.declared.call.Call.{Call}

-- two clauses on one call
pub tells_both : {a b : Option History} {R S : History → History → Type 0} → Tells a b R → Tells a b S → Tells a b (λ was now. R was now × S was now)
tells_both {S = S} first second = record {
  told = λ now is.
      let p = first.told now is in
      let q = second.told now is in
      (p.0, p.1, (p.2, subst (λ (h : History). S h now) (same_Some q.0 p.0 (sym q.1 ∙ p.1)) q.2));
}

-- and that no call was made, if so
pub tells_idle : {a b : Option History} {R : History → History → Type 0} {I : Type 0} → Tells a b R → (I → b ≡ a) → Tells a b (λ was now. R was now × (I → now ≡ was))
tells_idle first idle = record {
  told = λ now is.
      let p = first.told now is in
      (p.0, p.1, (p.2, λ i. same_Some now p.0 (sym is ∙ idle i ∙ p.1)));
}

-- where no call was made, the same is told
pub uncalled : {X I P : Type 0} (tells : X → Option History) (new mid old : X) → (I → P × (new ≡ mid)) → mid ≡ old → I → tells new ≡ tells old
uncalled tells new mid old idle same i = ap tells ((idle i).1) ∙ ap tells same

-- one history has one list of calls since another
same_calls : (was : History) (a b : List Call) → then_calls was a ≡ then_calls was b → a ≡ b
same_calls was a b e = append_cancel_right a b was.calls (sym (then_calls-calls was a) ∙ ap (λ (h : History). h.calls) e ∙ then_calls-calls was b)

-- two clauses on one span
pub since_both : {a c : Option History} {P Q : History → List Call → Type 0} → Since a c P → Since a c Q → Since a c (λ was calls. P was calls × Q was calls)
since_both {Q = Q} p q = record {
  told = λ now is.
      let x = p.told now is in
      let y = q.told now is in
      let begun : y.0 ≡ x.0 = same_Some y.0 x.0 (sym y.2 ∙ x.2) in
      let made : y.1 ≡ x.1 = same_calls x.0 y.1 x.1 (ap (λ (h : History). then_calls h y.1) (sym begun) ∙ sym y.3 ∙ x.3) in
      (x.0, x.1, x.2, x.3, (x.4, subst (λ (l : List Call). Q x.0 l) made (subst (λ (h : History). Q h y.1) begun y.4)));
}
